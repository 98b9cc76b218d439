-- Points name functions.
use Rattle.std.proofs.Common.{arith, ap, sym, subst, ⊎_elim, ◌∙◌, ◌≡◌, ◌<◌, ◌≤◌, ◌+◌, ◌⊎◌, inl, inr, ℕ, Bool, true, false, List, length, set, replicate, Some, option_map}
use Rattle.std.specs.Prelude.{◌↔◌, slice_get}
use Rattle.std.proofs.lemmas.Bool.{cases_lt}
use Rattle.std.proofs.lemmas.List.{set_past}
use Rattle.std.proofs.lemmas.Option.{same_Some}
use Rattle.lk_facts.specs.declared.action.Action.{Action}
use Rattle.lk_facts.specs.declared.action.Action.TheVariants.{Func}
use Rattle.lk_facts.specs.declared.point.Point.{Point}
use Rattle.lk_lower_parts.proofs.Marking.{none_marked, set_here, set_kept, set_only}
use Rattle.lk_lower_parts.specs.Sites.{AreUsed, IsNamedBefore}

abbrev named : Action → ℕ
named (Func f) = f
named other = 0

abbrev Says : List Point → (count k : ℕ) → List Bool → Type 0
Says points count k used = (f : ℕ) → f < count → (slice_get used f ≡ Some true) ↔ IsNamedBefore points k f

pub none_named : (points : List Point) (count : ℕ) (used : List Bool) → used ≡ replicate count false → Says points count 0 used
none_named points count used all f within = ((λ at. absurd (none_marked count f used all at)), (λ found. absurd (omega (arith, found.1))))

action_there : (points : List Point) (i : ℕ) (point : Point) (does : Action) → slice_get points i ≡ Some point → option_map (λ (one : Point). one.action) (slice_get points i) ≡ Some does → point.action ≡ does
action_there points i point does at is = same_Some point.action does (sym (ap (option_map (λ (one : Point). one.action)) at) ∙ is)

below_or : (p k : ℕ) → p < k + 1 → (p < k) ⊎ (p ≡ k)
below_or p k less = ⊎_elim (λ h. inl h) (λ h. inr (omega arith)) (cases_lt p k)

pub named_other : (points : List Point) (count i : ℕ) (point : Point) (used new : List Bool) → new ≡ used → slice_get points i ≡ Some point → ((f : ℕ) → point.action ≡ Func f → ⊥) → Says points count i used → Says points count (i + 1) new
named_other points count i point used new same at other says f within = (
  (λ marked. let found = (says f within).0 (subst (λ xs. slice_get xs f ≡ Some true) same marked) in (found.0, omega (arith, found.1), found.2)),
  (λ found. subst (λ xs. slice_get xs f ≡ Some true) (sym same) ((says f within).1 (found.0, before found.0 found.1 found.2, found.2))),
)
  where
    before : (p : ℕ) → p < i + 1 → option_map (λ (one : Point). one.action) (slice_get points p) ≡ Some (Func f) → p < i
    before p less does = ⊎_elim (λ h. h) (λ met. absurd (other f (action_there points i point (Func f) at (subst (λ k. option_map (λ (one : Point). one.action) (slice_get points k) ≡ Some (Func f)) met does)))) (below_or p i less)

pub named_all : (points : List Point) (count i : ℕ) (used : List Bool) → i ≤ length points → length points ≤ i → Says points count i used → AreUsed points count used
named_all points count i used low high says = subst (λ k. Says points count k used) (omega (arith, low, high)) says

pub named_more : (points : List Point) (count i g : ℕ) (point : Point) (used new : List Bool) → slice_get points i ≡ Some point → point.action ≡ Func g → length used ≡ count → new ≡ set used g true → Says points count i used → Says points count (i + 1) new
named_more points count i g point used new at does long put says f within = (
  (λ marked. by_marked (subst (λ xs. slice_get xs f ≡ Some true) put marked)),
  (λ found. subst (λ xs. slice_get xs f ≡ Some true) (sym put) (⊎_elim (λ less. kept ((says f within).1 (found.0, less, found.2)))
      (λ same. one_here (ap named (sym does ∙ action_there points i point (Func f) at (subst (λ k. option_map (λ (one : Point). one.action) (slice_get points k) ≡ Some (Func f)) same found.2)))) (below_or found.0 i found.1))),
)
  where
    earlier : slice_get used f ≡ Some true → IsNamedBefore points (i + 1) f
    earlier was = let found = (says f within).0 was in (found.0, omega (arith, found.1), found.2)

    by_marked : slice_get (set used g true) f ≡ Some true → IsNamedBefore points (i + 1) f
    by_marked marked =
        ⊎_elim (λ was. earlier was) (λ same. (i, omega arith, ap (option_map (λ (one : Point). one.action)) at ∙ ap Some (does ∙ ap Func same))) (set_only used g f marked)

    kept : slice_get used f ≡ Some true → slice_get (set used g true) f ≡ Some true
    kept was = ⊎_elim (λ inside. set_kept used g f inside was) (λ past. subst (λ xs. slice_get xs f ≡ Some true) (sym (set_past used g true past)) was) (cases_lt g (length used))

    one_here : g ≡ f → slice_get (set used g true) f ≡ Some true
    one_here same = subst (λ n. slice_get (set used n true) f ≡ Some true) (sym same) (set_here used f (omega (arith, within, long)))
