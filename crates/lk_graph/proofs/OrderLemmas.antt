-- Points that are marked and put into an order.
use Rattle.std.proofs.Common.{◌≡◌, ◌<◌, ◌≤◌, ◌+◌, ◌||◌, ◌++◌, ◌↔◌, ℕ, Bool, true, false, eqb, List, [], ◌∷◌, length, get_or, sym, ap, ◌∙◌, subst, inl, inr, arith}
use Rattle.std.specs.Prelude.{slice_set}
use Rattle.std.proofs.Math.Bool.{or-false}
use Rattle.std.proofs.lemmas.Bool.{cases_eq, cases_lt, both_ways, eq-eqb, ne_eqb, or_right}
use Rattle.std.proofs.lemmas.List.{get_or-set_same, get_or-set_other, get_or_past}
use Rattle.std.specs.List.Sorted.{IsPermutation}
use Rattle.std.proofs.lemmas.List.Sorted.{list_any-IsPermutation}
use Rattle.lk_graph.specs.Order.{AreMarked}
use Rattle.lk_sets.specs.Ids.{has_id}
use Rattle.lk_sets.proofs.Rising.{has_id-append}

-- what an order has with one point more
pushed : (old new : List ℕ) (p x : ℕ) → new ≡ old ++ p ∷ [] → has_id new x ≡ (has_id old x || eqb p x)
pushed old new p x is = ap (λ l. has_id l x) is ∙ has_id-append old (p ∷ []) x ∙ ap (λ b. has_id old x || b) (or-false (eqb p x))

pushed_here : (old new : List ℕ) (p x : ℕ) → new ≡ old ++ p ∷ [] → x ≡ p → has_id new x ≡ true
pushed_here old new p x is same = pushed old new p x is ∙ or_right (has_id old x) _ (eq-eqb p x (sym same))

pushed_other : (old new : List ℕ) (p x : ℕ) → new ≡ old ++ p ∷ [] → (x ≡ p → ⊥) → has_id new x ≡ has_id old x
pushed_other old new p x is other = pushed old new p x is ∙ ap (λ b. has_id old x || b) (ne_eqb p x (λ same. other (sym same))) ∙ or-false (has_id old x)

-- a point is marked and put into the order
pub marked_one : (seen new : List Bool) (order found : List ℕ) (p : ℕ) → p < length seen → new ≡ slice_set seen p true → found ≡ order ++ p ∷ [] → AreMarked seen order → AreMarked new found
marked_one seen new order found p within marks is before q =
    elim (cases_eq q p) [
      | inl same ↦ pushed_here order found p q is same ∙ sym (ap (λ l. get_or l q false) marks ∙ subst (λ r. get_or (slice_set seen p true) r false ≡ true) (sym same) (get_or-set_same seen p true false within))
      | inr other ↦ pushed_other order found p q is other ∙ before q ∙ sym (ap (λ l. get_or l q false) marks ∙ get_or-set_other seen p q true false other)
    ]

-- the points below one are in the order, and of the others those that are marked
pub record AreBelow (seen : List Bool) (order : List ℕ) (point : ℕ) : Type 0 where
  pub below : (x : ℕ) → x < point → has_id order x ≡ true
  pub above : (x : ℕ) → point ≤ x → has_id order x ≡ get_or seen x false

pub none_below : (seen : List Bool) (order : List ℕ) → AreMarked seen order → AreBelow seen order 0
none_below seen order marked = record { below = λ x within. absurd (omega arith); above = λ x from. marked x }

pub below_seen : (seen : List Bool) (order : List ℕ) (p : ℕ) → get_or seen p false ≡ true → AreBelow seen order p → AreBelow seen order (p + 1)
below_seen seen order p is before = record {
  below = λ x within. elim (cases_lt x p) [
    | inl earlier ↦ before.below x earlier
    | inr here ↦ let same : x ≡ p = omega arith in subst (λ y. has_id order y ≡ true) (sym same) (before.above p (omega arith) ∙ is)
  ];
  above = λ x from. before.above x (omega arith);
}

pub below_pushed : (seen : List Bool) (order new : List ℕ) (p : ℕ) → new ≡ order ++ p ∷ [] → AreBelow seen order p → AreBelow seen new (p + 1)
below_pushed seen order new p is before = record {
  below = λ x within. elim (cases_eq x p) [
    | inl same ↦ pushed_here order new p x is same
    | inr other ↦ pushed_other order new p x is other ∙ before.below x (omega arith)
  ];
  above = λ x from. pushed_other order new p x is (λ same. omega arith) ∙ before.above x (omega arith);
}

-- so at the end just the points are
pub all_below : (seen : List Bool) (order : List ℕ) (n point : ℕ) → length seen ≡ n → point ≡ n → AreBelow seen order point → (x : ℕ) → (has_id order x ≡ true) ↔ (x < n)
all_below seen order n point long end before x = (
  λ there. elim (cases_lt x n) [
    | inl within ↦ within
    | inr past ↦ absurd (both_ways (has_id order x) (before.above x (omega arith) ∙ get_or_past seen x false (omega arith)) there)
  ],
  λ within. before.below x (omega arith),
)

-- and the other way round too
pub reversed_all : (n m : ℕ) (order new : List ℕ) → IsPermutation order new → m ≡ n → ((x : ℕ) → (has_id order x ≡ true) ↔ (x < m)) → (x : ℕ) → (has_id new x ≡ true) ↔ (x < n)
reversed_all n m order new moved same all x =
    let answer : has_id order x ≡ has_id new x = list_any-IsPermutation (λ y. eqb y x) order new moved in (
      λ there. subst (λ k. x < k) same ((all x).0 (answer ∙ there)),
      λ below. sym answer ∙ (all x).1 (subst (λ k. x < k) (sym same) below),
    )
