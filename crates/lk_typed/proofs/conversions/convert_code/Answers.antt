use Rattle.lk_typed.proofs.LeastCodes.{told_conversion}
use Rattle.lk_typed.proofs.conversions.convert_code.Goals as goal

pub returns : goal.returns
returns c = λ p.
    told_conversion (c.converts-exists.ensures p) (c.is_integer_and_pointer-integer_and_pointer.ensures p) c.are_different_pointers-different_pointers.ensures
    c.is_struct-of_struct.ensures c.has_lock-of_lock.ensures c.named_code-named.ensures c.code_unless.ensures
