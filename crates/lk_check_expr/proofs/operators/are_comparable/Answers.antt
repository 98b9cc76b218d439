use Rattle.lk_check_expr.proofs.Rows.{same_any}
use Rattle.lk_check_expr.proofs.operators.are_comparable.Goals as goal

pub returns : goal.returns
returns c = λ p q.
    same_any c.any_of.ensures c.are_same_pointers-same.ensures (c.is_pointer_beside_null-null_behind.ensures p q) (c.is_pointer_beside_null-null_before.ensures q p)
    c.are_void_and_object-object.ensures
