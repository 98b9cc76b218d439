use Rattle.std.proofs.Common.{◌<◌, ◌≤◌, ◌↔◌, ℕ, All, Contains, length}
use Rattle.lk_order.specs.Acts.{basis_in, linear_in, functions_in, labels_in}
use Rattle.lk_order.specs.Pairing.{IsPair, IsPairAbove, IsPairAt, IsPairBelow}
use Rattle.lk_order.specs.Work.{IsWork}
use Rattle.lk_order.specs.declared.pairing.Paired.{Paired}
use Rattle.lk_rise.specs.Links.{links_into}
use Rattle.lk_order.proofs.acts.Acts.pairs.Given as goal

-- the pairs of the points so far are found
abbrev pub invariant-loop-point : goal.invariant-loop-point
invariant-loop-point l = record {
  found : (pair : Paired) → Contains l.pairs.keys pair ↔ ((p : ℕ) × (p < l.point) × IsPairAt (basis_in l.self) (linear_in l.self) p pair);
  below : All (IsPairBelow (functions_in l.self) (labels_in l.self)) l.pairs.keys;
}

-- what rises from the first k pairs is found
abbrev pub invariant-loop-k : goal.invariant-loop-k
invariant-loop-k l = record {
  work : IsWork (λ (pair : Paired). (p : ℕ) × IsPairAt (basis_in l.self) (linear_in l.self) p pair) (λ (pair : Paired). IsPairAbove (basis_in l.self) (linear_in l.self) (links_into l.self.into.now pair.function) pair) l.pairs.keys l.k;
  sound : (pair : Paired) → Contains l.pairs.keys pair → IsPair (basis_in l.self) (linear_in l.self) pair;
  below : All (IsPairBelow (functions_in l.self) (labels_in l.self)) l.pairs.keys;
  within : l.k ≤ length l.pairs.keys;
}
