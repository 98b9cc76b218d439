-- What the lowering of a statement adds and answers, by the flow of the statement.
use Rattle.std.specs.Prelude.{◌≡◌, ◌++◌, ℕ, List, Result, IfOk, OnOk}
use Rattle.lk_lower_expr.specs.Laid.{laid}
use Rattle.lk_lower_expr.specs.Statements.{Flow}
use Rattle.lk_lower_expr.specs.declared.goals.Goals.{Goals}
use Rattle.lk_lower_expr.specs.declared.step.NamedStep.{NamedStep}
use Rattle.lk_lower_stmt.specs.declared.lowering.Lowered.{Lowered}

-- it answers the point at which the statement begins, and adds its steps to others
pub record Adds {E : Type 0} (flow : Flow) (go : Goals) (old new : List NamedStep)
    (result : Result ℕ E) : Type 0 where
  pub first : IfOk result (λ point. point ≡ flow.first go)
  pub steps : OnOk result (new ≡ laid (flow.all go) old)

-- and where each `case` and `default` of the `switch` around it begins, to others
pub record Lays {E : Type 0} (flow : Flow) (go : Goals) (old new : Lowered)
    (result : Result ℕ E) : Type 0 where
  pub first : IfOk result (λ point. point ≡ flow.first go)
  pub steps : OnOk result (new.steps.items ≡ laid (flow.all go) old.steps.items)
  pub labelled : OnOk result (new.labelled.items ≡ old.labelled.items ++ flow.labelled go)
