use Rattle.std.proofs.Common.{sym, subst}
use Rattle.lk_tree.specs.declared.statement.BlockItem.TheOpen.{StmtForm-F}
use Rattle.lk_elaborator.proofs.Growing.{grows_on}
use Rattle.lk_elaborate.proofs.Making.{done}
use Rattle.lk_elaborate.proofs.Shaping.{a_do}
use Rattle.lk_elaborate.specs.Making.{MakesForm}
use Rattle.lk_elaborate.proofs.PuttingStatements as put
use Rattle.lk_elaborate.proofs.statements.dropped.Goals as goal

pub returns-clause-makes : goal.returns-clause-makes
returns-clause-makes c =
    subst (MakesForm c.args.walk.now c.value_if_any.new.walk c.args.around.now (StmtForm-F.Do c.args.e.now)) (sym (a_do c.in_ok-value.value))
    (done c.args.around.now c.args.walk.now c.value_if_any.new.walk c.args.e.now c.in_ok-value.value c.in_ok-value.ensures.makes)

pub returns-clause-goes_on : goal.returns-clause-goes_on
returns-clause-goes_on c = grows_on c.args.walk.now c.value_if_any.new.walk c.in_ok-value.ensures.grows

pub returns-clause-puts : goal.returns-clause-puts
returns-clause-puts c = put.done c.args.walk.now c.value_if_any.new.walk c.args.e.now c.in_ok-value.ensures.grows
