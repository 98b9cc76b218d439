use Rattle.std.proofs.Common.{eqb, sym, ◌∙◌, ap}
use Rattle.std.proofs.lemmas.List.Filters.{dedup_is}
use Rattle.std.proofs.lemmas.List.Sorted.{list_any-IsPermutation}
use Rattle.std.proofs.lemmas.Map.Keys.{IsStrictlyIncreasing-dedup}
use Rattle.lk_sets.specs.Ids.{has_id}
use Rattle.lk_sets.proofs.Members.{has_id-dedup}
use Rattle.lk_sets.proofs.id_set.IdSet.from_list.Goals as goal

pub invariant_of-result : goal.invariant_of-result
invariant_of-result c =
    rw (dedup_is eqb _ _ c.dedup.ensures.filtered) (IsStrictlyIncreasing-dedup _ c.sort_unstable.ensures.sorted)

pub returns : goal.returns
returns c = record {
  sorted = invariant_of-result c;
  members = λ x.
      ap (λ ids. has_id ids x) (dedup_is eqb _ _ c.dedup.ensures.filtered)
      ∙ has_id-dedup _ x
      ∙ sym (list_any-IsPermutation (λ y. eqb y x) _ _ c.sort_unstable.ensures.permutation)
      ∙ ap (λ ids. has_id ids x) c.in_ok-ids.ensures.items;
}
