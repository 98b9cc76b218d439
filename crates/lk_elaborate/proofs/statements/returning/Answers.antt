use Rattle.std.proofs.Common.{None, Some, sym, subst}
use Rattle.lk_tree.specs.declared.statement.BlockItem.TheOpen.{StmtForm-F}
use Rattle.lk_typed.specs.declared.statement.TypedStmtForm.{out-TypedStmtForm}
use Rattle.lk_typed.specs.declared.statement.TypedStmtForm.TheVariants as typed
use Rattle.lk_elaborator.proofs.Growing.{grows_on, grows_same}
use Rattle.lk_elaborate.proofs.Carried.{goes_same}
use Rattle.lk_elaborate.proofs.Making.{returned, returned_nothing}
use Rattle.lk_elaborate.proofs.Shaping.{a_return}
use Rattle.lk_elaborate.specs.Making.{MakesForm}
use Rattle.lk_elaborate.proofs.PuttingStatements as put
use Rattle.lk_elaborate.proofs.statements.returning.Goals as goal

pub returns-in_ok-value-in-Some-clause-makes : goal.returns-in_ok-value-in-Some-clause-makes
returns-in_ok-value-in-Some-clause-makes c =
    subst (λ e. MakesForm c.args.walk.now c.returned_value.new.walk c.args.around.now (StmtForm-F.Return e) (out-TypedStmtForm (typed.Return (Some c.in_ok-value-in-Some.value)))) (sym c.in-Some.is)
    (subst (MakesForm c.args.walk.now c.returned_value.new.walk c.args.around.now (StmtForm-F.Return (Some c.in-Some.e))) (sym (a_return (Some c.in_ok-value-in-Some.value)))
    (returned c.args.around.now c.args.walk.now c.returned_value.new.walk c.in-Some.e c.in_ok-value-in-Some.value c.in_ok-value-in-Some.ensures.makes))

pub returns-in-None-clause-makes : goal.returns-in-None-clause-makes
returns-in-None-clause-makes c =
    subst (λ e. MakesForm c.args.walk.now c.args.walk.now c.args.around.now (StmtForm-F.Return e) (out-TypedStmtForm (typed.Return None))) (sym c.in-None.is)
    (subst (MakesForm c.args.walk.now c.args.walk.now c.args.around.now (StmtForm-F.Return None)) (sym (a_return None)) (returned_nothing c.args.around.now c.args.walk.now c.args.walk.now))

pub returns-in_ok-value-in-Some-clause-goes_on : goal.returns-in_ok-value-in-Some-clause-goes_on
returns-in_ok-value-in-Some-clause-goes_on c = grows_on c.args.walk.now c.returned_value.new.walk c.in_ok-value-in-Some.ensures.grows

pub returns-in-None-clause-goes_on : goal.returns-in-None-clause-goes_on
returns-in-None-clause-goes_on c = goes_same c.args.walk.now

pub returns-in_ok-value-in-Some-clause-puts : goal.returns-in_ok-value-in-Some-clause-puts
returns-in_ok-value-in-Some-clause-puts c = put.returned c.args.walk.now c.returned_value.new.walk c.args.e.now c.in_ok-value-in-Some.ensures.grows

pub returns-in-None-clause-puts : goal.returns-in-None-clause-puts
returns-in-None-clause-puts c = put.returned c.args.walk.now c.args.walk.now c.args.e.now (grows_same c.args.walk.now)
