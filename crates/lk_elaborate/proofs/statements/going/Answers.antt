use Rattle.std.proofs.Common.{sym, subst}
use Rattle.lk_tree.specs.declared.statement.BlockItem.TheOpen.{StmtForm-F}
use Rattle.lk_elaborate.proofs.Carried.{goes_same}
use Rattle.lk_elaborate.proofs.Making.{gone}
use Rattle.lk_elaborate.proofs.Shaping.{a_goto}
use Rattle.lk_elaborate.specs.Making.{MakesForm}
use Rattle.lk_elaborate.proofs.PuttingStatements as put
use Rattle.lk_elaborate.proofs.statements.going.Goals as goal

pub returns-clause-makes : goal.returns-clause-makes
returns-clause-makes c =
    subst (MakesForm c.args.walk.now c.args.walk.now c.args.around.now (StmtForm-F.Goto c.args.name.now)) (sym (a_goto c.in_ok-label.label))
    (gone c.args.around.now c.args.walk.now c.args.walk.now c.args.name.now c.in_ok-label.label c.in_ok-label.ensures)

pub returns-clause-goes_on : goal.returns-clause-goes_on
returns-clause-goes_on c = goes_same c.args.walk.now

pub returns-clause-puts : goal.returns-clause-puts
returns-clause-puts c = put.gone c.args.walk.now c.args.name.now
