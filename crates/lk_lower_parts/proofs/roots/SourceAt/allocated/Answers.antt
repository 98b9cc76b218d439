use Rattle.std.proofs.Common.{ap, ◌∙◌, ◌≡◌, slice_get, Some}
use Rattle.std.proofs.lemmas.Result.{IfOk-weaker}
use Rattle.lk_lower_parts.proofs.Rooted.{later_array}
use Rattle.lk_lower_parts.specs.Wanted.{array_in}
use Rattle.lk_types.specs.declared.c_type.CType.TheVariants.{Array}
use Rattle.lk_lower_parts.proofs.roots.SourceAt.allocated.Goals as goal

pub returns-else-one-clause-allocated : goal.returns-else-one-clause-allocated
returns-else-one-clause-allocated c =
    rw c.if-one.false
    (IfOk-weaker c.unsized_array.result (λ array. slice_get c.unsized_array.new.table.types array ≡ Some (Array c.type_here-here.result 0)) _
    (λ here there forms later. later_array c.unsized_array.new.table forms c.type_here-here.result here later there ∙ ap (array_in forms) c.type_here-here.ensures) c.unsized_array.ensures.array)
