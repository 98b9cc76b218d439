-- Places that ascend one by one are in their order.
use Rattle.std.proofs.Common.{arith, ap, sym, subst, ◌∙◌, ◌≡◌, ◌<◌, ◌≤◌, ◌+◌, ◌-◌, ◌⊎◌, inl, inr, ℕ, zero, suc, List, get_or, slice_get, Some}
use Rattle.std.proofs.lemmas.Bool.{cases_lt}
use Rattle.std.proofs.lemmas.Option.{get_or_from_slice_get, same_Some, slice_get_within}
use Rattle.lk_base.specs.declared.spot.Spot.{Spot}
use Rattle.lk_facts.specs.declared.place.Place.{Place}
use Rattle.lk_facts.specs.declared.root.Root.{Root}
use Rattle.lk_lower_expr.specs.Programs.{IsSpotBefore}
use Rattle.lk_lower_parts.proofs.FunctionCounts.{at_index}
use Rattle.lk_lower_parts.specs.TextOrder.{Ascend, IsBefore, IsBeforeOf}

module _ (roots : List Root) (places : List Place) where
  -- one place more stands before the next
  pub ascend_more : (from k : ℕ) (x y : Place) → x ≡ get_or places (k - 1) x → y ≡ get_or places k y → IsBefore roots x y → from < k → Ascend roots places from k → Ascend roots places from (k + 1)
  ascend_more from k x y is_x is_y before behind was n a b within below at_a at_b = elim (cases_lt (suc n) k) [
    | inl earlier ↦ was n a b within earlier at_a at_b
    | inr not ↦ subst (λ p. IsBefore roots p b) (first (omega (arith, below, not))) (subst (IsBefore roots x) (second (omega (arith, below, not))) before)
  ]
    where
      first : n ≡ k - 1 → x ≡ a
      first same = is_x ∙ (ap (λ m. get_or places m x) (sym same) ∙ get_or_from_slice_get places n a x at_a)

      second : suc n ≡ k → y ≡ b
      second same = is_y ∙ (ap (λ m. get_or places m y) (sym same) ∙ get_or_from_slice_get places (suc n) b y at_b)

  spot_then : (a b c : Spot) → IsSpotBefore a b → IsSpotBefore b c → IsSpotBefore a c
  spot_then a b c (inl p) (inl q) = inl (omega (arith, p, q))
  spot_then a b c (inl p) (inr q) = inl (omega (arith, p, q.0))
  spot_then a b c (inr p) (inl q) = inl (omega (arith, p.0, q))
  spot_then a b c (inr p) (inr q) = inr (p.0 ∙ q.0, lines p.1 q.1)
    where
      lines : ((a.line < b.line) ⊎ ((a.line ≡ b.line) × (a.col < b.col))) → ((b.line < c.line) ⊎ ((b.line ≡ c.line) × (b.col < c.col))) → (a.line < c.line) ⊎ ((a.line ≡ c.line) × (a.col < c.col))
      lines (inl v) (inl w) = inl (omega (arith, v, w))
      lines (inl v) (inr w) = inl (omega (arith, v, w.0))
      lines (inr v) (inl w) = inl (omega (arith, v.0, w))
      lines (inr v) (inr w) = inr (v.0 ∙ w.0, omega (arith, v.1, w.1))

  behind_then : (a b c : Place) → (a.root < b.root) ⊎ ((a.root ≡ b.root) × (a.node.number < b.node.number)) → (b.root < c.root) ⊎ ((b.root ≡ c.root) × (b.node.number < c.node.number)) →
      (a.root < c.root) ⊎ ((a.root ≡ c.root) × (a.node.number < c.node.number))
  behind_then a b c (inl v) (inl w) = inl (omega (arith, v, w))
  behind_then a b c (inl v) (inr w) = inl (omega (arith, v, w.0))
  behind_then a b c (inr v) (inl w) = inl (omega (arith, v.0, w))
  behind_then a b c (inr v) (inr w) = inr (v.0 ∙ w.0, omega (arith, v.1, w.1))

  of_then : (ra rb rc : Root) (a b c : Place) → IsBeforeOf ra rb a b → IsBeforeOf rb rc b c → IsBeforeOf ra rc a c
  of_then ra rb rc a b c (inl p) (inl q) = inl (spot_then ra.spot rb.spot rc.spot p q)
  of_then ra rb rc a b c (inl p) (inr q) = inl (subst (IsSpotBefore ra.spot) q.0 p)
  of_then ra rb rc a b c (inr p) (inl q) = inl (subst (λ spot. IsSpotBefore spot rc.spot) (sym p.0) q)
  of_then ra rb rc a b c (inr p) (inr q) = inr (p.0 ∙ q.0, behind_then a b c p.1 q.1)

  before_then : (a b c : Place) → IsBefore roots a b → IsBefore roots b c → IsBefore roots a c
  before_then a b c p q = record {
    ra = p.ra;
    rb = q.rb;
    of_a = p.of_a;
    of_b = q.of_b;
    before = of_then p.ra p.rb q.rb a b c p.before (subst (λ r. IsBeforeOf r q.rb b c) (same_Some q.ra p.rb (sym q.of_a ∙ p.of_b)) q.before);
  }

  last_step : (from to : ℕ) → Ascend roots places from to → (n m : ℕ) (a b c : Place) → from ≤ n → n < suc m → suc m < to → slice_get places n ≡ Some a → slice_get places (suc m) ≡ Some b → slice_get places m ≡ Some c →
      (n < m → IsBefore roots a c) → IsBefore roots a b
  last_step from to steps n m a b c within order below at_a at_b at_c earlier = elim (cases_lt n m) [
    | inl before ↦ before_then a c b (earlier before) (steps m c b (omega (arith, within, before)) below at_c at_b)
    | inr not ↦ one (omega (arith, order, not))
  ]
    where
      one : m ≡ n → IsBefore roots a b
      one same = steps n a b within (omega (arith, same, below)) at_a (subst (λ k. slice_get places (suc k) ≡ Some b) same at_b)

  -- where each stands before the next, each stands before each later one
  pub in_order : (from to : ℕ) → Ascend roots places from to → (n m : ℕ) (a b : Place) → from ≤ n → n < m → m < to → slice_get places n ≡ Some a → slice_get places m ≡ Some b → IsBefore roots a b
  in_order from to steps n zero a b within order below at_a at_b = absurd (omega (arith, order))
  in_order from to steps n (suc m) a b within order below at_a at_b =
      let c = at_index places m (let h = slice_get_within places (suc m) b at_b in omega (arith, h)) in
      last_step from to steps n m a b c.0 within order below at_a at_b c.1 (λ before. in_order from to steps n m a c.0 within before (omega (arith, below)) at_a c.1)
