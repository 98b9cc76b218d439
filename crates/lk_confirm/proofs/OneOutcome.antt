-- Words come to one outcome, but that several refusals may be right, and that accepted sources are told apart by what their trees show alone.
use Rattle.std.specs.Bool.{⊤}
use Rattle.std.proofs.Common.{ℕ, ◌≡◌, ◌∙◌, List, ap, sym, subst}
use Rattle.std.proofs.lemmas.Option.{same_Some}
use Rattle.lk_io.specs.Shelf.{Held}
use Rattle.lk_sources.specs.Laws.{HasOneReading, NeverRefused, NeverTooLong}
use Rattle.lk_sources.specs.Numbers.{numbered}
use Rattle.lk_sources.specs.declared.reading.Source.{Source}
use Rattle.lk_words.specs.Words.{Command, command}
use Rattle.lk_confirm.specs.Outcome.{Outcome, Usage, Missing, Refused, Accepted, Becomes, refused, accepted, Follows, missing, too_long, read, ComesTo, no_command, follows}
use Rattle.lk_confirm.specs.Words.{Asked, IsAsked, Split}

-- the laws by which words come to one outcome
pub record AreLaws : Type 0 where
  pub reading : HasOneReading
  pub never_long : NeverTooLong
  pub never_refused : NeverRefused

-- what one says of the other: a refusal and accepted sources exclude one another
abbrev pub IsAlike : Outcome → Outcome → Type 0
IsAlike Usage other = ⊤
IsAlike (Missing name) other = ⊤
IsAlike (Refused file refusal) Usage = ⊤
IsAlike (Refused file refusal) (Missing name) = ⊤
IsAlike (Refused file refusal) (Refused other second) = ⊤
IsAlike (Refused file refusal) (Accepted sources) = ⊥
IsAlike (Accepted sources) Usage = ⊤
IsAlike (Accepted sources) (Missing name) = ⊤
IsAlike (Accepted sources) (Refused file refusal) = ⊥
IsAlike (Accepted sources) (Accepted other) = ⊤

beside_missing : (outcome : Outcome) (name : List ℕ) → IsAlike outcome (Missing name)
beside_missing Usage name = tt
beside_missing (Missing other) name = tt
beside_missing (Refused file refusal) name = tt
beside_missing (Accepted sources) name = tt

-- words ask for one check
one_check : {words : List (List ℕ)} (asked other : Asked) → IsAsked words asked → IsAsked words other → asked.check ≡ other.check
one_check asked other is is2 =
    let same = same_Some is.split is2.split (sym is.splits ∙ is2.splits) in
    same_Some asked.check other.check (sym is.asks.check ∙ (ap (λ (s : Split). command s.others) same ∙ is2.asks.check))

module _ (laws : AreLaws) where
  one_becoming : {names : List (List ℕ)} {externs sources : List Source} {a b : Outcome} → Becomes names externs sources a → Becomes names externs sources b → IsAlike a b
  one_becoming (refused file refusal why) (refused other second why2) = tt
  one_becoming (refused file refusal why) (accepted result is) = laws.never_refused _ _ _ result file refusal is why
  one_becoming (accepted result is) (refused file refusal why) = laws.never_refused _ _ _ result file refusal is why
  one_becoming (accepted result is) (accepted other is2) = tt

  one_following : {check : Command} {held : Held} {a b : Outcome} → Follows check held a → Follows check held b → IsAlike a b
  one_following (missing name reached none) other = tt
  one_following (too_long file long) (missing name reached none) = tt
  one_following (too_long file long) (too_long other longer) = tt
  one_following (too_long file long) (read externs others sources outcome is becomes) = absurd (laws.never_long _ _ externs others sources file is long)
  one_following (read externs others sources outcome is becomes) (missing name reached none) = beside_missing outcome name
  one_following (read externs others sources outcome is becomes) (too_long file long) = absurd (laws.never_long _ _ externs others sources file is long)
  one_following {check = check} (read externs others sources outcome is becomes) (read externs2 others2 sources2 found is2 becomes2) =
      let names = numbered check in
      let same = laws.reading _ _ externs others sources externs2 others2 sources2 is is2 in
      one_becoming becomes (subst (λ e. Becomes names e sources found) (sym same.0) (subst (λ s. Becomes names externs2 s found) (sym same.2) becomes2))

  pub one_outcome : {words : List (List ℕ)} {held : Held} {a b : Outcome} → ComesTo words held a → ComesTo words held b → IsAlike a b
  one_outcome (no_command e) other = tt
  one_outcome (follows asked outcome is one) (no_command none) = absurd (none asked is)
  one_outcome {held = held} (follows asked outcome is one) (follows other second is2 two) =
      one_following one (subst (λ c. Follows c held second) (sym (one_check asked other is is2)) two)
