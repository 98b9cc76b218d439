use Rattle.std.proofs.lemmas.Result.{on_ok_weaker}
use Rattle.lk_check_unit.proofs.Bodied.{definition_walked}
use Rattle.lk_check_unit.proofs.definitions.definition.Goals as goal

pub returns-clause-walks : goal.returns-clause-walks
returns-clause-walks c =
    on_ok_weaker c.body.result
    (λ walks. definition_walked c.args.checker.now c.head.new.checker c.body.new.checker c.args.node.now c.in_ok-headed.headed c.in_ok-headed.ensures.heads c.in_ok-headed.ensures.further walks)
    c.body.ensures.walks
