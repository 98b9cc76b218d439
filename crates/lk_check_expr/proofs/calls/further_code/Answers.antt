use Rattle.std.proofs.Common.{◌∙◌, [], ◌∷◌, sym, ap}
use Rattle.std.specs.Prelude.{if◌then◌else◌}
use Rattle.lk_base.specs.declared.code.Code.TheVariants.{StructValue}
use Rattle.lk_typed.specs.Addresses.{value}
use Rattle.lk_typed.specs.Codes.{least_code}
use Rattle.lk_typed.specs.Operators.{is_scalar, must_be}
use Rattle.lk_typed.specs.Typings.{typing}
use Rattle.lk_check_expr.proofs.calls.further_code.Goals as goal

pub returns-then-is_struct : goal.returns-then-is_struct
returns-then-is_struct c = λ p.
    let x = typing c.args.types.now c.args.e.now p in
    ap (λ b. least_code (if b then StructValue ∷ [] else must_be is_scalar (value x).type)) (sym (sym c.is_struct.ensures ∙ c.if-is_struct.true))

pub returns-else-is_struct : goal.returns-else-is_struct
returns-else-is_struct c = λ p.
    let x = typing c.args.types.now c.args.e.now p in
    c.scalar_code.ensures ∙ ap (λ t. least_code (must_be is_scalar t)) (c.value-v.ensures.value p).type ∙
    ap (λ b. least_code (if b then StructValue ∷ [] else must_be is_scalar (value x).type)) (sym (sym c.is_struct.ensures ∙ c.if-is_struct.false))
