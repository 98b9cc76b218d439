use Rattle.std.proofs.Common.{◌∙◌, subst, sym}
use Rattle.lk_join.specs.Entities.{HaveNumbers}
use Rattle.lk_join.proofs.RowNumbers.{rows_have_numbers}
use Rattle.lk_join.proofs.linking.join.Goals as goal

pub join_entities-requires-clause-numbers : goal.join_entities-requires-clause-numbers
join_entities-requires-clause-numbers c =
    let types = c.in_ok-types.ensures in
    let rows = c.in_ok-types.types.rows.items in
    let numbers = rows_have_numbers _ types.structs _ rows _ types.put in
    subst (HaveNumbers c.as_slice-2.result.now) (sym c.as_slice-3.ensures.value)
    (subst (λ units. HaveNumbers units rows) (c.as_slice.ensures.value ∙ sym c.as_slice-2.ensures.value) numbers)
