use Rattle.std.proofs.Common.{leb, ltb, rules}
use Rattle.std.proofs.lemmas.List.Sorted.{IsNonDecreasingBy-drop, IsNonDecreasingBy-take, IsPartitionPoint-from_clause, IsPartitionedBy-leb, IsPartitionedBy-ltb}
use Rattle.lk_match.proofs.KeyLemmas.{of_one_key}
use Rattle.lk_match.proofs.passage.of_site.Goals as goal

pub returns : goal.returns
returns c =
    let all = c.args.all.now in
    let first = c.partition_point-first.result in
    let start =
    IsPartitionPoint-from_clause (λ x. ltb x.site c.args.site) _ _ c.partition_point-first.ensures.partitioned (IsPartitionedBy-ltb (λ x. x.site) _ c.args.site c.requires) (λ a r q k. search rules) in
    let sorted = IsNonDecreasingBy-take (λ x. x.site) _ _ (IsNonDecreasingBy-drop (λ x. x.site) first all c.requires) in
    let end =
    IsPartitionPoint-from_clause (λ x. leb x.site c.args.site) _ _ c.partition_point.ensures.partitioned (IsPartitionedBy-leb (λ x. x.site) _ c.args.site sorted) (λ a r q k. search rules) in
    of_one_key (λ x. x.site) all c.args.site first c.partition_point.result c.partition_point-first.ensures.bound c.partition_point.ensures.bound start end
