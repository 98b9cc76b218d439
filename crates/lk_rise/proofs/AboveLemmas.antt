-- The locks with which an item rises, from what the code joins.
use Rattle.std.proofs.Common.{◌≡◌, ◌&&◌, ◌||◌, ◌⊎◌, ◌↔◌, ℕ, Bool, true, false, not, List, refl, sym, ◌∙◌, ⊎_elim, inl, inr}
use Rattle.std.proofs.lemmas.Bool.{and_from, and_parts, false≢true, or_cases, or_left, or_right}
use Rattle.lk_facts.specs.Flow.{Flow, RisesAs}
use Rattle.lk_facts.specs.declared.way.Way.{Way}
use Rattle.lk_links.specs.Only.{HaveRisen}
use Rattle.lk_rise.specs.Above.{HasRisenLock}
use Rattle.lk_sets.specs.Ids.{has_id}

is_so : (b : Bool) → not b ≡ true → b ≡ false
is_so true h = absurd (false≢true h)
is_so false h = refl

is_not : (b : Bool) → b ≡ false → not b ≡ true
is_not true h = absurd (false≢true (sym h))
is_not false h = refl

pub above_locks : (flow : Flow) (kept : List ℕ) (way : Way) (child : Bool) (locks risen set : List ℕ) → ((y : ℕ) → (has_id risen y ≡ true) ↔ HaveRisen flow way locks y) →
    ((y : ℕ) → has_id set y ≡ (has_id risen y || (not child && has_id kept y))) → (y : ℕ) → (has_id set y ≡ true) ↔ HasRisenLock flow kept way child locks y
above_locks flow kept way child locks risen set rise all y = (
  λ there.
      ⊎_elim (λ here. inl ((rise y).0 here))
      (λ here. let both = and_parts (not child) (has_id kept y) here in inr (is_so child both.0, both.1))
      (or_cases (has_id risen y) (not child && has_id kept y) (sym (all y) ∙ there)),
  λ either.
      all y ∙ ⊎_elim
      (λ found. or_left _ _ ((rise y).1 found))
      (λ keeps. or_right (has_id risen y) _ (and_from _ _ (is_not child keeps.0) keeps.1))
      either,
)

-- the same, where the locks are told by a test
pub locks_as : (flow : Flow) (kept : List ℕ) (way : Way) (child : Bool) (locks : List ℕ) (test : ℕ → Bool) → ((y : ℕ) → has_id locks y ≡ test y) → (x : ℕ) (P : Type 0) → P ↔ HasRisenLock flow kept way child locks x →
    P ↔ (((y : ℕ) × (test y ≡ true) × RisesAs flow way y x) ⊎ ((child ≡ false) × (has_id kept x ≡ true)))
locks_as flow kept way child locks test same x P is = (
  λ holds. ⊎_elim (λ found. inl (found.0, sym (same found.0) ∙ found.1, found.2)) (λ keeps. inr keeps) (is.0 holds),
  λ either. is.1 (⊎_elim (λ found. inl (found.0, same found.0 ∙ found.1, found.2)) (λ keeps. inr keeps) either),
)
