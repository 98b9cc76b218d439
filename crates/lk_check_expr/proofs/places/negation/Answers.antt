use Rattle.std.proofs.Common.{subst}
use Rattle.lk_typed.specs.Operators.{must_be, is_condition}
use Rattle.lk_typed.specs.Places as spec
use Rattle.lk_typed.specs.Ty.{kind_of}
use Rattle.lk_typed.specs.Typings.{typing, IsTyping}
use Rattle.lk_typed.proofs.Verdicts.{unless_verdict}
use Rattle.lk_check_expr.proofs.places.negation.Goals as goal

pub returns : goal.returns
returns c = λ p.
    let table = c.args.types.now in
    let x = typing table c.args.e.now p in
    let typed = subst (λ kind. IsTyping table c.not_of-typed.result (spec.not_of x kind)) c.kind_of-kind.ensures (c.not_of-typed.ensures table c.requires.ready p) in
    unless_verdict table c.not_of-typed.result (must_be is_condition x.type) (spec.not_of x (kind_of x.type)) c.unless.ensures c.condition_code-code.ensures typed
