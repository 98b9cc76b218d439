use Rattle.std.proofs.Common.{◌∙◌, sym}
use Rattle.std.proofs.lemmas.Result.{IfOk-weaker}
use Rattle.lk_flow.proofs.ActionLists.{nothing_put, row_at}
use Rattle.lk_flow.proofs.actions.put_row.Goals as goal

pub returns-then-is_local : goal.returns-then-is_local
returns-then-is_local c =
    IfOk-weaker c.put_local.result _ _ (λ _ adds. row_at c.args.points.now c.args.labels.now.names c.args.p c.function-f.result c.action-action.result.now c.args.found.now c.put_local.new.found c.action-action.ensures.value c.function-f.ensures.value adds) c.put_local.ensures

pub returns-then-is_passing : goal.returns-then-is_passing
returns-then-is_passing c =
    IfOk-weaker c.put_passing.result _ _ (λ _ adds. row_at c.args.points.now c.args.labels.now.names c.args.p c.function-f.result c.action-action.result.now c.args.found.now c.put_passing.new.found c.action-action.ensures.value c.function-f.ensures.value adds) c.put_passing.ensures

pub returns : goal.returns
returns c =
    row_at c.args.points.now c.args.labels.now.names c.args.p c.function-f.result c.action-action.result.now c.args.found.now c.args.found.now c.action-action.ensures.value c.function-f.ensures.value
    (nothing_put c.args.points.now c.args.labels.now.names c.args.p c.function-f.result c.action-action.result.now c.args.found.now (sym c.is_local.ensures ∙ c.if-is_local.false) (sym c.is_passing.ensures ∙ c.if-is_passing.false))
