use Rattle.std.proofs.Common.{false, ap, subst, sym}
use Rattle.lk_typed.specs.Elaborated.{IsConverted}
use Rattle.lk_typed.specs.Env.{ConvertedTo, converted_to}
use Rattle.lk_typed.specs.LocalInits.IsLocalValue.{expression}
use Rattle.lk_typed.specs.Nodes.{AnExpression}
use Rattle.lk_typed.specs.Units.{at_end}
use Rattle.lk_elaborate.proofs.local_inits.value_for.Goals as goal

pub returns-clause-value : goal.returns-clause-value
returns-clause-value c externs unit told tables leads env t type node =
    let e = c.args.e.now in
    let here = converted_to env t in
    expression (subst (λ u. IsConverted tables false (here, e) u c.in_ok-value.value) type
    (c.in_ok-value.ensures.made (at_end externs unit) here (told.told here (AnExpression e) node) (ap ConvertedTo (sym type)) tables leads))
