-- Words come to one outcome, but that several refusals may be right, and that accepted sources are told apart by what their trees show alone.
use Rattle.std.specs.Bool.{⊤}
use Rattle.std.proofs.Common.{ℕ, ◌≡◌, ◌∙◌, List, [], ◌∷◌, sym, subst}
use Rattle.lk_base.specs.declared.refusal.Refusal as base
use Rattle.lk_io.specs.Shelf.{Held}
use Rattle.lk_play.specs.Schedules.{HasBadLine, IsSchedule, SchedulesAreOne}
use Rattle.lk_play.specs.declared.schedules.Turn.{Turn}
use Rattle.lk_sources.specs.Accepting as bad
use Rattle.lk_sources.specs.Accepting.{IsAccepted, IsAcceptedWith, IsRefused, IsRefusedWith}
use Rattle.lk_sources.specs.Externs.{Names, externs_text, listed}
use Rattle.lk_sources.specs.Laws.{HasOneReading, NeverRefused, NeverTooLong}
use Rattle.lk_sources.specs.Numbers.{numbered}
use Rattle.lk_sources.specs.declared.accepting.Accepted as code
use Rattle.lk_sources.specs.declared.reading.Source.{Source}
use Rattle.lk_typed.specs.Env.{Name}
use Rattle.lk_words.specs.Words.{Check, Command, Order, Play, Task}
use Rattle.lk_top.specs.Outcome.{AsksNothing, Errand, HasBadSchedule, IsErrand, Outcome, Usage, Missing, Refused, Accepted, Becomes, bad_externs, no_errand, with_errand, refused, accepted, Follows, missing, too_long, read, ComesTo, no_command, follows}

-- the laws by which words come to one outcome
pub record AreLaws : Type 0 where
  pub reading : HasOneReading
  pub never_long : NeverTooLong
  pub never_refused : NeverRefused
  pub schedules : SchedulesAreOne

-- what one says of the other: a refusal and accepted sources exclude one another
abbrev pub IsAlike : Outcome → Outcome → Type 0
IsAlike Usage other = ⊤
IsAlike (Missing name) other = ⊤
IsAlike (Refused file refusal) Usage = ⊤
IsAlike (Refused file refusal) (Missing name) = ⊤
IsAlike (Refused file refusal) (Refused other second) = ⊤
IsAlike (Refused file refusal) (Accepted errand sources) = ⊥
IsAlike (Accepted errand sources) Usage = ⊤
IsAlike (Accepted errand sources) (Missing name) = ⊤
IsAlike (Accepted errand sources) (Refused file refusal) = ⊥
IsAlike (Accepted errand sources) (Accepted other more) = ⊤

beside_missing : (outcome : Outcome) (name : List ℕ) → IsAlike outcome (Missing name)
beside_missing Usage name = tt
beside_missing (Missing other) name = tt
beside_missing (Refused file refusal) name = tt
beside_missing (Accepted errand sources) name = tt

-- where --externs lists these names, what the sources come to is what they come to with its file
module _ {names : List (List ℕ)} {externs sources : List Source} (listing : List Name) (listed_so : listed (externs_text externs) ≡ Names listing) where
  accepted_so : (result : code.Accepted) → IsAcceptedWith names listing sources result → IsAccepted names externs sources result
  accepted_so result is = record { listing = listing; names_listed = listed_so; is = is }

  refused_so : (file : List ℕ) (refusal : base.Refusal) → IsRefusedWith names listing sources file refusal → IsRefused names externs sources file refusal
  refused_so file refusal is = bad.sources_refused listing listed_so is

module _ (laws : AreLaws) where
  -- a file beside the sources asks for something or for nothing
  not_both : (first : Source) (others : List Source) (turns : List Turn) → IsSchedule first.bytes turns → {names : List (List ℕ)} {file : List ℕ} {refusal : base.Refusal} → HasBadSchedule names (first ∷ others) file refusal → ⊥
  not_both first others turns is why =
      let same : why.first ≡ first = let both = why.are in cc in
      laws.schedules.not_bad first.bytes turns why.line is (subst (λ (s : Source). HasBadLine s.bytes why.line) same why.bad)

  never_unfit : (task : Task) (names : List (List ℕ)) (others : List Source) (errand : Errand) (file : List ℕ) (refusal : base.Refusal) → IsErrand task others errand → AsksNothing task names others file refusal → ⊥
  never_unfit Check names others errand file refusal is nothing = nothing
  never_unfit Order names others errand file refusal is nothing = nothing
  never_unfit (Play schedule) names [] errand file refusal is nothing = is
  never_unfit (Play schedule) names (first ∷ others) errand file refusal (turns, is, same) nothing = not_both first others turns is nothing

  one_becoming : {task : Task} {names : List (List ℕ)} {externs others sources : List Source} {a b : Outcome} → Becomes task names externs others sources a → Becomes task names externs others sources b → IsAlike a b
  one_becoming (bad_externs file refusal why) (bad_externs other second why2) = tt
  one_becoming (bad_externs file refusal why) (no_errand listing other second listed2 nothing) = tt
  one_becoming (bad_externs file refusal why) (with_errand listing errand _ listed2 is (refused other second why2)) = tt
  one_becoming (bad_externs file refusal why) (with_errand listing errand _ listed2 is (accepted result are)) =
      laws.never_refused _ _ _ result file refusal (accepted_so listing listed2 result are) (bad.bad_externs why)
  one_becoming (no_errand listing file refusal listed1 nothing) (bad_externs other second why) = tt
  one_becoming (no_errand listing file refusal listed1 nothing) (no_errand listing2 other second listed2 nothing2) = tt
  one_becoming (no_errand listing file refusal listed1 nothing) (with_errand listing2 errand _ listed2 is (refused other second why)) = tt
  one_becoming (no_errand listing file refusal listed1 nothing) (with_errand listing2 errand _ listed2 is (accepted result are)) = never_unfit _ _ _ errand file refusal is nothing
  one_becoming (with_errand listing errand _ listed1 is (refused file refusal why)) (bad_externs other second why2) = tt
  one_becoming (with_errand listing errand _ listed1 is (refused file refusal why)) (no_errand listing2 other second listed2 nothing) = tt
  one_becoming (with_errand listing errand _ listed1 is (refused file refusal why)) (with_errand listing2 errand2 _ listed2 is2 (refused other second why2)) = tt
  one_becoming {externs = externs} (with_errand listing errand _ listed1 is (refused file refusal why)) (with_errand listing2 errand2 _ listed2 is2 (accepted result are)) =
      laws.never_refused _ externs _ result file refusal (accepted_so listing2 listed2 result are) (refused_so listing listed1 file refusal why)
  one_becoming (with_errand listing errand _ listed1 is (accepted result are)) (bad_externs file refusal why) =
      laws.never_refused _ _ _ result file refusal (accepted_so listing listed1 result are) (bad.bad_externs why)
  one_becoming (with_errand listing errand _ listed1 is (accepted result are)) (no_errand listing2 file refusal listed2 nothing) = never_unfit _ _ _ errand file refusal is nothing
  one_becoming {externs = externs} (with_errand listing errand _ listed1 is (accepted result are)) (with_errand listing2 errand2 _ listed2 is2 (refused file refusal why)) =
      laws.never_refused _ externs _ result file refusal (accepted_so listing listed1 result are) (refused_so listing2 listed2 file refusal why)
  one_becoming (with_errand listing errand _ listed1 is (accepted result are)) (with_errand listing2 errand2 _ listed2 is2 (accepted other are2)) = tt

  one_following : {asked : Command} {held : Held} {a b : Outcome} → Follows asked held a → Follows asked held b → IsAlike a b
  one_following (missing name reached none) other = tt
  one_following (too_long file long) (missing name reached none) = tt
  one_following (too_long file long) (too_long other longer) = tt
  one_following (too_long file long) (read externs others sources outcome is becomes) = absurd (laws.never_long _ _ externs others sources file is long)
  one_following (read externs others sources outcome is becomes) (missing name reached none) = beside_missing outcome name
  one_following (read externs others sources outcome is becomes) (too_long file long) = absurd (laws.never_long _ _ externs others sources file is long)
  one_following {asked = asked} (read externs others sources outcome is becomes) (read externs2 others2 sources2 found is2 becomes2) =
      let names = numbered asked in
      let same = laws.reading _ _ externs others sources externs2 others2 sources2 is is2 in
      one_becoming becomes
      (subst (λ e. Becomes asked.task names e others sources found) (sym same.0)
      (subst (λ o. Becomes asked.task names externs2 o sources found) (sym same.1)
      (subst (λ s. Becomes asked.task names externs2 others2 s found) (sym same.2) becomes2)))

  pub one_outcome : {words : List (List ℕ)} {held : Held} {a b : Outcome} → ComesTo words held a → ComesTo words held b → IsAlike a b
  one_outcome (no_command e) other = tt
  one_outcome (follows asked outcome e one) (no_command d) = absurd (let clash = sym e ∙ d in cc)
  one_outcome {held = held} (follows asked outcome e one) (follows other second d two) =
      let same : asked ≡ other = let both = sym e ∙ d in cc in
      one_following one (subst (λ c. Follows c held second) (sym same) two)
