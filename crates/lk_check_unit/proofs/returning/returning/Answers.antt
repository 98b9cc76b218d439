use Rattle.std.proofs.Common.{sym, subst}
use Rattle.lk_check_unit.specs.Bodies.{WalksReturn}
use Rattle.lk_check_unit.proofs.Returned.{returns_nothing}
use Rattle.lk_check_unit.proofs.returning.returning.Goals as goal

pub returns-in-None-clause-walks : goal.returns-in-None-clause-walks
returns-in-None-clause-walks c =
    subst (λ e. WalksReturn e c.args.checker.now c.args.checker.now c.args.body.now.returned c.return_code.result) (sym c.in-None.is)
    (returns_nothing c.args.checker.now c.args.body.now.returned c.return_code.result c.requires.sound c.return_code.ensures)
