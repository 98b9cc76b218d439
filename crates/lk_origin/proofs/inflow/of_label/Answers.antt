use Rattle.std.proofs.Common.{leb, ltb, rules}
use Rattle.std.proofs.lemmas.List.Sorted.{IsNonDecreasingBy-drop, IsNonDecreasingBy-take, IsPartitionPoint-from_clause, IsPartitionedBy-leb, IsPartitionedBy-ltb}
use Rattle.lk_match.proofs.KeyLemmas.{of_one_key}
use Rattle.lk_origin.proofs.inflow.of_label.Goals as goal

pub returns : goal.returns
returns c =
    let all = c.args.all.now in
    let first = c.partition_point-first.result in
    let start =
    IsPartitionPoint-from_clause (λ x. ltb x.inside c.args.label) _ _ c.partition_point-first.ensures.partitioned (IsPartitionedBy-ltb (λ x. x.inside) _ c.args.label c.requires) (λ a r q k. search rules) in
    let sorted = IsNonDecreasingBy-take (λ x. x.inside) _ _ (IsNonDecreasingBy-drop (λ x. x.inside) first all c.requires) in
    let end =
    IsPartitionPoint-from_clause (λ x. leb x.inside c.args.label) _ _ c.partition_point.ensures.partitioned (IsPartitionedBy-leb (λ x. x.inside) _ c.args.label sorted) (λ a r q k. search rules) in
    of_one_key (λ x. x.inside) all c.args.label first c.partition_point.result c.partition_point-first.ensures.bound c.partition_point.ensures.bound start end
