use Rattle.lk_check_unit.proofs.Heading.{begins_by_declaration, begins_by_expression}
use Rattle.std.proofs.lemmas.Result.{IfOk-weaker}
use Rattle.lk_check_unit.proofs.heads.first_part.Goals as goal

pub returns-in-Expr-clause-asks : goal.returns-in-Expr-clause-asks
returns-in-Expr-clause-asks c =
    IfOk-weaker c.dropped_if_any.result _ _ (λ asked asks. begins_by_expression c.args.first.now c.in-Expr.e c.args.checker.now c.dropped_if_any.new.checker asked c.in-Expr.is asks) c.dropped_if_any.ensures.asks

pub returns-in_ok-declaration_in_block-in-Declare-clause-asks : goal.returns-in_ok-declaration_in_block-in-Declare-clause-asks
returns-in_ok-declaration_in_block-in-Declare-clause-asks c =
    begins_by_declaration c.args.first.now c.in-Declare.node c.args.checker.now c.declaration_in_block.new.checker c.nothing.result c.in-Declare.is c.nothing.ensures c.in_ok-declaration_in_block-in-Declare.ensures.walks
