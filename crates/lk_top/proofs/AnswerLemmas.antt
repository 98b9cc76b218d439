-- What the parts of an answer say of the whole.
use Rattle.std.proofs.Common.{ℕ, ◌≡◌, ◌∙◌, Bool, true, false, if◌then◌else◌, inl, inr, List, ◌∷◌, Some, refl, sym, ap, subst}
use Rattle.lk_base.specs.declared.code.Code.{Code}
use Rattle.lk_base.specs.declared.code.Code.TheVariants.{BadSchedule, TooManyPoints, TooManyLabels}
use Rattle.lk_base.specs.declared.refusal.Refusal as base
use Rattle.lk_base.specs.declared.status.Status.{Status}
use Rattle.lk_base.specs.declared.status.Status.TheVariants as status
use Rattle.lk_facts.specs.LabelRules.{HasMoreLabels}
use Rattle.lk_facts.specs.declared.program.Program.{Program as Points}
use Rattle.lk_facts.specs.declared.verdict.Verdict.{Verdict}
use Rattle.lk_io.specs.Shelf.{Held}
use Rattle.lk_lower_unit.specs.PointNumbers.{HasMorePoints}
use Rattle.lk_program.specs.Program.{IsFault}
use Rattle.lk_safe.specs.Soundness.{HasNoOtherRaces}
use Rattle.lk_solve.specs.Verdicts.{HasVerdicts}
use Rattle.lk_play.specs.Lines.{has_race}
use Rattle.lk_play.specs.Schedules.{HasBadLine}
use Rattle.lk_play.specs.declared.schedules.Turn.{Turn}
use Rattle.lk_sources.specs.Accepting.{IsAcceptedWith, IsInFile, IsRefusedAt, RefusesExterns, RefusesSources}
use Rattle.lk_sources.specs.Externs.{Names, externs_text, listed}
use Rattle.lk_sources.specs.Numbers.{refusal_at}
use Rattle.lk_sources.specs.Readable.{Reads, FailsToRead}
use Rattle.lk_sources.specs.Shelves.{Shelved}
use Rattle.lk_sources.specs.declared.accepting.Accepted as code
use Rattle.lk_sources.specs.declared.fault.SourcesFault.{SourcesFault}
use Rattle.lk_sources.specs.declared.fault.SourcesFault.TheVariants as told
use Rattle.lk_sources.specs.declared.reading.Source.{Source}
use Rattle.lk_sources.specs.declared.reading.Texts.{Texts}
use Rattle.lk_typed.specs.Env.{Name}
use Rattle.lk_typed.specs.declared.whole.Whole.{Whole}
use Rattle.lk_words.specs.Words.{Command, Play, Task}
use Rattle.lk_top.specs.Analysis.{ArePointsOf, FindsEachRace, IsAtMain, IsNoProgram, IsToldOf, IsWhole, of_places, of_points, unlinked, too_many_points, too_many_labels}
use Rattle.lk_top.specs.Answer as judged
use Rattle.lk_top.specs.Answer.{IsAsked, JudgesWhole, Comes, JudgesFor, RefusesAsked, RefusesErrand, ShowsOrder, ShowsPlay, ShowsVerdicts, Tells, TellsAtMain, Analyses, ShowsFault, Judges, Answers, has_points, too_many_places}
use Rattle.lk_top.specs.Errands.{TellsBadSchedule, seen_errand}
use Rattle.lk_top.specs.Outcome as outcome
use Rattle.lk_top.specs.Outcome.{Becomes, Checks, Errand, Follows, Orders, Outcome, Plays, Refused}
use Rattle.lk_top.specs.Orders.{TellsOrder}
use Rattle.lk_top.specs.Plays.{TellsLines}
use Rattle.lk_top.specs.Results as results
use Rattle.lk_top.specs.Results.{IsReport, IsRefusal, has_suspect, status_of, is_report}
use Rattle.lk_top.specs.Texts.{refused_line}
use Rattle.lk_top.specs.declared.answer.Answer.{Answer}
use Rattle.lk_top.specs.declared.answer.Answer.TheVariants.{Report, Refusal, Unread}
use Rattle.lk_top.specs.declared.errand.Asked.{Asked}

-- ---- what accepted sources come to

by_suspect : (suspect : Bool) → is_report (if suspect then status.Suspects else status.Clean) ≡ true
by_suspect true = refl
by_suspect false = refl

of_verdicts : (verdicts : List Verdict) → is_report (status_of verdicts) ≡ true
of_verdicts verdicts = by_suspect (has_suspect verdicts)

module _ (sources : code.Accepted) where
  -- a line that tells a bound at main is the refusal of the program
  told_at_main : (errand : Errand) (whole : Whole) (code : Code) (answer : Answer) → TellsAtMain sources.files whole code answer → ((refusal : base.Refusal) → IsAtMain whole code refusal → IsNoProgram sources refusal) →
      Analyses errand sources answer
  told_at_main errand whole code (Report text ends) (refusal, is, tells) why = absurd tells
  told_at_main errand whole code (Refusal line) (refusal, is, (file, at_file, line_is)) why = (file, refusal, record { why = why refusal is; at = at_file }, line_is)
  told_at_main errand whole code (Unread line) (refusal, is, tells) why = absurd tells

  shown : (whole : Whole) → IsWhole sources whole → (points : Points) → (HasMorePoints whole 65536 → ⊥) → ArePointsOf whole points → (verdicts : List Verdict) (has : HasVerdicts points verdicts) →
      (HasMoreLabels points 65536 → ⊥) → FindsEachRace points verdicts has → HasNoOtherRaces points verdicts → (answer : Answer) → ShowsVerdicts sources.files points verdicts answer → Analyses Checks sources answer
  shown whole is points few are verdicts has few_labels found safe (Report text ends) (text_is, status_is) = (
    ap is_report status_is ∙ of_verdicts verdicts,
    record {
      verdicts = verdicts;
      analysed = record {
        whole = whole;
        is_whole = is;
        few_points = few;
        points = points;
        are_points = are;
        few_labels = few_labels;
        races_found = found;
        safe = safe;
        verdicts_are = has;
        text_is = text_is;
      };
      status = status_is;
    },
  )
  shown whole is points few are verdicts has few_labels found safe (Refusal line) shows = absurd shows
  shown whole is points few are verdicts has few_labels found safe (Unread line) shows = absurd shows

  -- what is told of the points
  told_of : (whole : Whole) → IsWhole sources whole → (points : Points) → (HasMorePoints whole 65536 → ⊥) → ArePointsOf whole points → (HasMoreLabels points 65536 → ⊥) → (Told : Points → Type 0) → Told points →
      IsToldOf sources Told
  told_of whole is points few are few_labels Told told_so = record {
    whole = whole;
    is_whole = is;
    few_points = few;
    points = points;
    are_points = are;
    few_labels = few_labels;
    told = told_so;
  }

  ordered : (whole : Whole) → IsWhole sources whole → (points : Points) → (HasMorePoints whole 65536 → ⊥) → ArePointsOf whole points → (HasMoreLabels points 65536 → ⊥) → (answer : Answer) →
      ShowsOrder sources.files points answer → Analyses Orders sources answer
  ordered whole is points few are few_labels (Report text ends) tells = (
    ap is_report tells.status ∙ by_suspect tells.order.cyclic,
    told_of whole is points few are few_labels (λ program. TellsOrder sources.files program text.items ends) tells,
  )
  ordered whole is points few are few_labels (Refusal line) tells = absurd tells
  ordered whole is points few are few_labels (Unread line) tells = absurd tells

  played : (whole : Whole) → IsWhole sources whole → (points : Points) → (HasMorePoints whole 65536 → ⊥) → ArePointsOf whole points → (turns : List Turn) →
      (HasMoreLabels points 65536 → ⊥) → (answer : Answer) → ShowsPlay sources.files points turns answer → Analyses (Plays turns) sources answer
  played whole is points few are turns few_labels (Report text ends) tells = (
    ap is_report tells.status ∙ by_suspect (has_race tells.lines),
    told_of whole is points few are few_labels (λ program. TellsLines sources.files program turns text.items ends) tells,
  )
  played whole is points few are turns few_labels (Refusal line) tells = absurd tells
  played whole is points few are turns few_labels (Unread line) tells = absurd tells

  pub of_whole : (errand : Errand) (whole : Whole) → IsWhole sources whole → (answer : Answer) → JudgesWhole errand sources.files whole answer → Analyses errand sources answer
  of_whole _ whole is answer (has_points points few are (judged.shows verdicts has few_labels found safe shows)) = shown whole is points few are verdicts has few_labels found safe answer shows
  of_whole _ whole is answer (has_points points few are (judged.orders few_labels tells)) = ordered whole is points few are few_labels answer tells
  of_whole _ whole is answer (has_points points few are (judged.plays {turns = turns} few_labels tells)) = played whole is points few are turns few_labels answer tells
  of_whole errand whole is answer (has_points points few are (judged.too_many more tells)) =
      told_at_main errand whole TooManyLabels answer tells (λ refusal at. too_many_labels whole is few (of_points points are more) at)
  of_whole errand whole is answer (judged.too_many_points more tells) = told_at_main errand whole TooManyPoints answer tells (λ refusal at. too_many_points whole is more at)
  of_whole errand whole is answer (too_many_places few more tells) =
      told_at_main errand whole TooManyLabels answer tells (λ refusal at. too_many_labels whole is few (of_places more) at)

  -- the line of why there is no program
  pub of_fault : (errand : Errand) (fault : SourcesFault) → IsFault sources fault → (answer : Answer) → ShowsFault fault answer → Analyses errand sources answer
  of_fault errand (told.Refused file refusal) is (Report text ends) shows = absurd shows
  of_fault errand (told.Refused file refusal) is (Refusal line) line_is = (file, refusal, record { why = unlinked is.why; at = is.at }, line_is)
  of_fault errand (told.Refused file refusal) is (Unread line) shows = absurd shows
  of_fault errand (told.Unread name) is answer shows = absurd is
  of_fault errand told.NoMemory is answer shows = absurd shows

-- a refusal by what is told of it
pub told_in : (files : List (List ℕ)) (refusal : base.Refusal) (fault : SourcesFault) (answer : Answer) → IsInFile files refusal fault → ShowsFault fault answer → Tells files refusal answer
told_in files refusal (told.Refused file is) (Report text ends) at shows = absurd shows
told_in files refusal (told.Refused file is) (Refusal line) (same, at) line_is = (file, at, line_is ∙ ap (refused_line file) same)
told_in files refusal (told.Refused file is) (Unread line) at shows = absurd shows
told_in files refusal (told.Unread name) answer at shows = absurd at
told_in files refusal told.NoMemory answer at shows = absurd shows

-- ---- what sources come to of which something is asked

module _ (errand : Errand) (names : List (List ℕ)) (listing : List Name) (sources : List Source) where
  pub judged_accepted : (result : code.Accepted) (answer : Answer) → IsAcceptedWith names listing sources result → Analyses errand result answer → JudgesFor errand names listing sources answer
  judged_accepted result (Report text ends) is (reporting, are) = (
    reporting,
    record { errand = errand; sources = result; gives = outcome.accepted result is; answered = are },
  )
  judged_accepted result (Refusal line) is (file, refusal, why, line_is) = (file, refusal, line_is, results.of_program errand result (outcome.accepted result is) why)
  judged_accepted result (Unread line) is analyses = absurd analyses

  pub judged_refused : (fault : SourcesFault) (answer : Answer) → RefusesSources names listing sources fault → ShowsFault fault answer → JudgesFor errand names listing sources answer
  judged_refused (told.Refused file refusal) (Report text ends) refuses shows = absurd shows
  judged_refused (told.Refused file refusal) (Refusal line) refuses line_is = (file, refusal, line_is, results.of_sources (outcome.refused file refusal refuses))
  judged_refused (told.Refused file refusal) (Unread line) refuses shows = absurd shows
  judged_refused (told.Unread name) answer refuses shows = absurd refuses
  judged_refused told.NoMemory answer refuses shows = absurd shows

-- ---- what holds of an outcome that is among others

module _ (Gives More : Outcome → Type 0) (more : (outcome : Outcome) → Gives outcome → More outcome) where
  pub more_report : {text : List ℕ} {ends : Status} → IsReport Gives text ends → IsReport More text ends
  more_report report = record { errand = report.errand; sources = report.sources; gives = more _ report.gives; answered = report.answered }

  pub more_refusal : (file : List ℕ) (refusal : base.Refusal) → IsRefusal Gives file refusal → IsRefusal More file refusal
  more_refusal file refusal (results.of_sources gives) = results.of_sources (more _ gives)
  more_refusal file refusal (results.of_program errand result gives why) = results.of_program errand result (more _ gives) why

  pub comes_more : (answer : Answer) → Comes Gives answer → Comes More answer
  comes_more (Report text ends) (reporting, is) = (reporting, more_report is)
  comes_more (Refusal line) (file, refusal, line_is, is) = (file, refusal, line_is, more_refusal file refusal is)
  comes_more (Unread line) comes = comes

-- ---- what is asked by the files beside the sources

pub bad_schedule : (names : List (List ℕ)) (first : Source) (more : List Source) (line : ℕ) (fault : SourcesFault) → HasBadLine first.bytes line → IsRefusedAt first.name (refusal_at names first.name BadSchedule line) fault →
    TellsBadSchedule names (first ∷ more) fault
bad_schedule names first more line (told.Refused file refusal) bad (same, is) = record {
  first = first;
  more = more;
  line = line;
  are = refl;
  bad = bad;
  file_is = same;
  is = is ∙ ap (λ n. refusal_at names n BadSchedule line) (sym same);
}
bad_schedule names first more line (told.Unread name) bad is = absurd is
bad_schedule names first more line told.NoMemory bad is = tt

pub no_schedule : (schedule : List ℕ) (names : List (List ℕ)) (others : List Source) (fault : SourcesFault) → TellsBadSchedule names others fault → RefusesErrand (Play schedule) names others fault
no_schedule schedule names others (told.Refused file refusal) tells = tells
no_schedule schedule names others (told.Unread name) tells = tells
no_schedule schedule names others told.NoMemory tells = tt

module _ (task : Task) (names : List (List ℕ)) (externs others : List Source) where
  pub externs_refused : (fault : SourcesFault) → RefusesExterns names externs fault → RefusesAsked task names externs others fault
  externs_refused (told.Refused file refusal) bad = inl bad
  externs_refused (told.Unread name) bad = bad
  externs_refused told.NoMemory bad = tt

  pub errand_refused : (listing : List Name) (fault : SourcesFault) → listed (externs_text externs) ≡ Names listing → RefusesErrand task names others fault → RefusesAsked task names externs others fault
  errand_refused listing (told.Refused file refusal) is nothing = inr (listing, is, nothing)
  errand_refused listing (told.Unread name) is nothing = nothing
  errand_refused listing told.NoMemory is nothing = tt

pub for_errand : (task : Task) (texts : Texts) (asked : Asked) (answer : Answer) → IsAsked task texts.externs texts.beside asked → JudgesFor (seen_errand asked.errand) texts.files asked.externs.items texts.sources answer → Judges task texts answer
for_errand task texts asked answer is judges =
    comes_more _ _ (λ found gives. outcome.with_errand asked.externs.items (seen_errand asked.errand) found is.listed_so is.errand_is gives) answer judges

pub not_asked : (task : Task) (texts : Texts) (fault : SourcesFault) (answer : Answer) → RefusesAsked task texts.files texts.externs texts.beside fault → ShowsFault fault answer → Judges task texts answer
not_asked task texts (told.Refused file refusal) (Report text ends) refuses shows = absurd shows
not_asked task texts (told.Refused file refusal) (Refusal line) (inl bad) line_is = (file, refusal, line_is, results.of_sources (outcome.bad_externs file refusal bad))
not_asked task texts (told.Refused file refusal) (Refusal line) (inr (listing, is, nothing)) line_is = (file, refusal, line_is, results.of_sources (outcome.no_errand listing file refusal is nothing))
not_asked task texts (told.Refused file refusal) (Unread line) refuses shows = absurd shows
not_asked task texts (told.Unread name) answer refuses shows = absurd refuses
not_asked task texts told.NoMemory answer refuses shows = absurd shows

-- ---- what a command comes to

module _ (asked : Command) (shelf : Shelved) where
  read_so : (texts : Texts) → Reads asked shelf texts → (held : Held) → shelf.files ≡ Some held → (found : Outcome) → Becomes asked.task texts.files texts.externs texts.beside texts.sources found → Follows asked held found
  read_so texts reads held there found becomes =
      outcome.read texts.externs texts.beside texts.sources found (reads.read held there)
      (subst (λ names. Becomes asked.task names texts.externs texts.beside texts.sources found) reads.files becomes)

  pub answered : (texts : Texts) (answer : Answer) → Reads asked shelf texts → Judges asked.task texts answer → Answers asked shelf answer
  answered texts (Report text ends) reads (reporting, is) = (reads.calm, reporting, λ held there. more_report _ _ (read_so texts reads held there) is)
  answered texts (Refusal line) reads (file, refusal, line_is, is) = (reads.calm, (file, refusal, line_is, λ held there. more_refusal _ _ (read_so texts reads held there) file refusal is))
  answered texts (Unread line) reads judges = absurd judges

  pub not_read : (fault : SourcesFault) (answer : Answer) → FailsToRead asked shelf fault → ShowsFault fault answer → Answers asked shelf answer
  not_read (told.Refused file refusal) (Report text ends) fails shows = absurd shows
  not_read (told.Refused file refusal) (Refusal line) (calm, is, long) line_is =
      (calm, (file, refusal, line_is, λ held there. results.of_sources (subst (λ r. Follows asked held (Refused file r)) (sym is) (outcome.too_long file (long held there)))))
  not_read (told.Refused file refusal) (Unread line) fails shows = absurd shows
  not_read (told.Unread name) (Report text ends) fails shows = absurd shows
  not_read (told.Unread name) (Refusal line) fails shows = absurd shows
  not_read (told.Unread name) (Unread line) (rose, named, bad, reaches) line_is = (rose, (name, named, bad, reaches, line_is))
  not_read told.NoMemory answer fails shows = absurd shows
