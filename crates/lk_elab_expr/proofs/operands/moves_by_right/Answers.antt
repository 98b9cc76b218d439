use Rattle.std.proofs.Common.{◌∙◌}
use Rattle.lk_typed.specs.Typings.{typing}
use Rattle.lk_elab_expr.proofs.Operating.{moves_is}
use Rattle.lk_elab_expr.proofs.operands.moves_by_right.Goals as goal

pub returns-in-Sum : goal.returns-in-Sum
returns-in-Sum c = λ p q. c.is_move.ensures p q ∙ moves_is c.args.row (typing c.args.types.now c.args.a.now p) (typing c.args.types.now c.args.b.now q) c.in-Sum.is
