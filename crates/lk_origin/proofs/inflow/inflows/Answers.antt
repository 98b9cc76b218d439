use Rattle.std.proofs.Common.{rules}
use Rattle.std.proofs.lemmas.List.Sorted.{Contains-permutation, IsNonDecreasingBy-from_sort_by_key, IsPermutation-sym}
use Rattle.lk_origin.proofs.inflow.inflows.Goals as goal

pub returns-clause-each : goal.returns-clause-each
returns-clause-each c =
    let moved = c.in_ok-sort_by_key.ensures.permutation in
    λ x.
    let each = c.in_ok-all.ensures x in
    (λ h. each.0 (Contains-permutation _ _ x (IsPermutation-sym _ _ moved) h), λ given. Contains-permutation _ _ x moved (each.1 given))

pub returns-clause-sorted : goal.returns-clause-sorted
returns-clause-sorted c = IsNonDecreasingBy-from_sort_by_key (λ x. x.inside) _ c.in_ok-sort_by_key.ensures.sorted (λ a r q k. search rules)
