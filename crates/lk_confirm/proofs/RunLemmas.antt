-- What a told line and a published report say of a run.
use Rattle.std.proofs.Common.{ℕ, ◌≡◌, ◌≢◌, ◌∙◌, inl, inr, true, false, IsTrue, Vec, Global, List, length, refl, sym, ap, subst}
use Rattle.std.specs.Option.{ForSome}
use Rattle.std.proofs.Math.Seq.{take-length}
use Rattle.lk_base.specs.declared.refusal.Refusal as base
use Rattle.lk_base.specs.declared.status.Status.{Status}
use Rattle.lk_base.specs.declared.status.Status.TheVariants as status
use Rattle.lk_io.specs.Shelf.{Held}
use Rattle.lk_io.specs.Sink.{Takes}
use Rattle.lk_sources.specs.Shelves.{Shelved, HasRisen}
use Rattle.lk_confirm.specs.Words.{Asked, IsAsked, IsNoCommand}
use Rattle.lk_confirm.specs.Texts.{unwritten_line, refused_line, unread_line}
use Rattle.lk_confirm.specs.declared.answer.Answer.TheVariants.{Report, Refusal, Unread}
use Rattle.lk_confirm.specs.Answer.{Answers}
use Rattle.lk_confirm.specs.Outcome.{Outcome, Refused, Usage, ComesTo, Follows, follows, no_command}
use Rattle.lk_confirm.specs.Results.{IsReport, IsRefusal, of_sources, of_program, is_report}
use Rattle.lk_confirm.specs.Run.{Sunk, Got, GotFront, GotNothing, NoneHasRisen, Reports, Refuses, Misses, AlwaysAnswers, AlwaysReports, AlwaysRefuses, Line, refused, unread, Fails, Told, Published}
use Rattle.lk_confirm.proofs.OneOutcome.{AreLaws, one_outcome}

whole_front : (sink : Sunk) (text : List ℕ) → Got sink text → GotFront sink text
whole_front sink text got = (length text, subst (λ t. Takes sink.before sink.now t) (sym (take-length text)) got)

-- a line that failed, where the output was not written to
pub told_fails : (words : List (List ℕ)) (shelf : Shelved) (out err : Sunk) (wanted ends : Status) (line : List ℕ) → GotNothing out → Line words shelf line → Told wanted line err ends → wanted ≢ status.WriteFault → ends ≡ status.WriteFault → Fails words shelf out err
told_fails words shelf out err wanted ends line none row (inl (e, got, calm)) other failed = absurd (other (sym e ∙ failed))
told_fails words shelf out err wanted ends line none row (inr (e, rose, front)) other failed = record {
  rose = inr rose;
  out_front = inl none;
  out_same = λ down. none.0;
  err_line = λ down. absurd (down rose);
  err_front = λ up. record { line = line; front = front; which = inr (row, none.1) };
}

-- a line that was told
pub told_got : (wanted ends : Status) (line : List ℕ) (err : Sunk) → Told wanted line err ends → wanted ≢ status.WriteFault → ends ≡ wanted → Got err line
told_got wanted ends line err (inl (e, got, calm)) other is = got
told_got wanted ends line err (inr (e, rose, front)) other is = absurd (other (sym is ∙ e))

-- words that ask for nothing come to no refusal
only_usage : {words : List (List ℕ)} {held : Held} {outcome : Outcome} → IsNoCommand words → ComesTo words held outcome → outcome ≡ Usage
only_usage none (no_command _) = refl
only_usage none (follows asked outcome is comes) = absurd (none asked is)

pub never_refused : {words : List (List ℕ)} {held : Held} (file : List ℕ) (refusal : base.Refusal) → IsNoCommand words → ComesTo words held (Refused file refusal) → ⊥
never_refused file refusal none comes = let clash = only_usage none comes in cc

told_line : (err : Sunk) (ends : Status) → Told status.WriteFault unwritten_line err ends → (HasRisen err.faults → ⊥) → Got err unwritten_line
told_line err ends (inl (e, got, calm)) down = got
told_line err ends (inr (e, rose, front)) down = absurd (down rose)

told_front : (err : Sunk) (ends : Status) → Told status.WriteFault unwritten_line err ends → GotFront err unwritten_line
told_front err ends (inl (e, got, calm)) = whole_front err unwritten_line got
told_front err ends (inr (e, rose, front)) = front

-- a report that failed
pub published_fails : (words : List (List ℕ)) (shelf : Shelved) (out err : Sunk) (wanted ends : Status) (text : List ℕ) →
    ForSome shelf.files (λ held. IsReport (ComesTo words held) text wanted) → Published wanted text out err ends → wanted ≢ status.WriteFault → ends ≡ status.WriteFault → Fails words shelf out err
published_fails words shelf out err wanted ends text report (inl (e, got, calm, none)) other failed = absurd (other (sym e ∙ failed))
published_fails words shelf out err wanted ends text report (inr (e, rose, front, told)) other failed = record {
  rose = inl rose;
  out_front = inr (λ held is. (text, wanted, report held is, front));
  out_same = λ down. absurd (down rose);
  err_line = told_line err ends told;
  err_front = λ up. record { line = unwritten_line; front = told_front err ends told; which = inl (refl, rose) };
}

no_report : (ends : Status) → ends ≡ status.WriteFault → IsTrue (is_report ends) → ⊥
no_report ends e report = let failed : is_report ends ≡ false = ap is_report e in let clash : false ≡ true = subst IsTrue failed report in cc

is_no_fault : (wanted : Status) → is_report wanted ≡ true → wanted ≢ status.WriteFault
is_no_fault wanted report e = let clash : false ≡ true = sym (ap is_report e) ∙ report in cc

-- what a command comes to, its words come to
report_of_words : {words : List (List ℕ)} {asked : Asked} {held : Held} {text : List ℕ} {ends : Status} → IsAsked words asked → IsReport (Follows asked.check held) text ends →
    IsReport (ComesTo words held) text ends
report_of_words {asked = asked} is report =
    record { sources = report.sources; gives = follows asked _ is report.gives; confirmed = report.confirmed }

refusal_of_words : {words : List (List ℕ)} {asked : Asked} {held : Held} {file : List ℕ} {refusal : base.Refusal} → IsAsked words asked → IsRefusal (Follows asked.check held) file refusal →
    IsRefusal (ComesTo words held) file refusal
refusal_of_words {asked = asked} is (of_sources comes) = of_sources (follows asked _ is comes)
refusal_of_words {asked = asked} is (of_program sources comes none) = of_program sources (follows asked _ is comes) none

no_refusal : AreLaws → {words : List (List ℕ)} {held : Held} {text : List ℕ} {ends : Status} (file : List ℕ) (refusal : base.Refusal) →
    IsReport (ComesTo words held) text ends → ComesTo words held (Refused file refusal) → ⊥
no_refusal one file refusal report other = one_outcome one report.gives other

module _ (words : List (List ℕ)) (asked : Asked) (is_asked : IsAsked words asked) (shelf : Shelved) (out err : Sunk) (ends : Status) where
  module _ (text : Vec ℕ Global) (wanted : Status) (answers : Answers asked.check shelf (Report text wanted)) (published : Published wanted text.items out err ends) where
    pub reports : IsTrue (is_report ends) → ForSome shelf.files (λ held. Reports words held out ends)
    reports report held told =
        elim published [
          | inl (e, got, calm, none) ↦ record {
            text = text.items;
            is = subst (IsReport (ComesTo words held) text.items) (sym e) (report_of_words is_asked (answers.2 held told));
            report = got;
          }
          | inr (e, rose, front, line) ↦ absurd (no_report ends e report)
        ]

    pub report_fails : ends ≡ status.WriteFault → Fails words shelf out err
    report_fails failed =
        published_fails words shelf out err wanted ends text.items (λ held told. report_of_words is_asked (answers.2 held told)) published (is_no_fault wanted answers.1) failed

    pub report_always_answers : NoneHasRisen shelf out err → AlwaysAnswers words ends
    report_always_answers none other is = elim published [
      | inl (e, got, calm, quiet) ↦ inl (ap is_report e ∙ answers.1)
      | inr (e, rose, front, line) ↦ absurd (none.out_faults rose)
    ]

    pub report_always : ForSome shelf.files (λ held. NoneHasRisen shelf out err → AlwaysReports words held ends)
    report_always held told none other is quiet = elim published [
      | inl (e, got, calm, silent) ↦ inl (ap is_report e ∙ answers.1)
      | inr (e, rose, front, line) ↦ absurd (none.out_faults rose)
    ]

    pub report_never_refuses : AreLaws → ForSome shelf.files (λ held. NoneHasRisen shelf out err → AlwaysRefuses words held ends)
    report_never_refuses laws held told none file refusal comes = absurd (no_refusal laws file refusal (report_of_words is_asked (answers.2 held told)) comes)

  module _ (line : Vec ℕ Global) (answers : Answers asked.check shelf (Refusal line)) (told : Told status.Refused line.items err ends) where
    pub refuses : ends ≡ status.Refused → ForSome shelf.files (λ held. Refuses words held err)
    refuses refusing held is =
        let (file, refusal, line_is, refused_so) = answers.1 in
        elim told [
          | inl (e, got, calm) ↦ record {
            file = file;
            refusal = refusal;
            is = refusal_of_words is_asked (refused_so held is);
            line = subst (Got err) line_is got;
          }
          | inr (e, rose, front) ↦ absurd (let clash = sym refusing ∙ e in cc)
        ]

    pub refusal_fails : GotNothing out → ends ≡ status.WriteFault → Fails words shelf out err
    refusal_fails quiet failed =
        let (file, refusal, line_is, refused_so) = answers.1 in
        let row : Line words shelf (refused_line file refusal) = refused file refusal (λ held is. refusal_of_words is_asked (refused_so held is)) in
        let told_line = subst (λ l. Told status.Refused l err ends) line_is told in
        told_fails words shelf out err status.Refused ends (refused_line file refusal) quiet row told_line (λ e. cc) failed

    pub refusal_always_reports : ForSome shelf.files (λ held. NoneHasRisen shelf out err → AlwaysReports words held ends)
    refusal_always_reports held is none other same quiet =
        let (file, refusal, line_is, refused_so) = answers.1 in
        absurd (quiet file refusal (refusal_of_words is_asked (refused_so held is)))

  module _ (line : Vec ℕ Global) (answers : Answers asked.check shelf (Unread line)) (told : Told status.ReadFault line.items err ends) where
    pub misses : ends ≡ status.ReadFault → Misses words shelf err
    misses missing =
        let (name, named, bad, reached, line_is) = answers.1 in
        elim told [
          | inl (e, got, calm) ↦ record {
            asked = asked;
            is_asked = is_asked;
            name = name;
            named = named;
            rose = answers.0;
            bad = bad;
            reached = reached;
            line = subst (Got err) line_is got;
          }
          | inr (e, rose, front) ↦ absurd (let clash = sym missing ∙ e in cc)
        ]

    pub unread_fails : GotNothing out → ends ≡ status.WriteFault → Fails words shelf out err
    unread_fails quiet failed =
        let (name, named, bad, reached, line_is) = answers.1 in
        let told_line = subst (λ l. Told status.ReadFault l err ends) line_is told in
        told_fails words shelf out err status.ReadFault ends (unread_line name) quiet (unread asked name is_asked named answers.0) told_line (λ e. cc) failed
