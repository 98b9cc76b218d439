use Rattle.std.proofs.Common.{◌∙◌, sym}
use Rattle.lk_point_types.proofs.Alike.{stands_there}
use Rattle.lk_point_types.proofs.Found.{points_there}
use Rattle.lk_point_types.proofs.readers.target.Goals as goal

pub returns-clause-same : goal.returns-clause-same
returns-clause-same c =
    points_there c.args.points.now c.args.p c.in_ok-value_type.field-0 c.target_of.result
    (sym c.value_type.ensures.value ∙ c.in_ok-value_type.was) (rw c.types-types.ensures at c.target_of.ensures.form)

pub returns-clause-alike : goal.returns-clause-alike
returns-clause-alike c =
    stands_there c.args.points.now c.args.p c.in_ok-value_type.field-0 c.target_of.result (rw c.types-types.ensures at c.is_table.ensures)
    (sym c.value_type.ensures.value ∙ c.in_ok-value_type.was) (rw c.types-types.ensures at c.target_of.ensures.form) (rw c.types-types.ensures at c.target_of.ensures.known)
