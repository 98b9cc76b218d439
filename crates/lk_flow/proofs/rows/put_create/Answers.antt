use Rattle.std.proofs.Common.{◌∷◌, []}
use Rattle.std.proofs.lemmas.Result.{IfOk-weaker}
use Rattle.lk_flow.proofs.RowLists.{passes_at, no_passes}
use Rattle.lk_flow.proofs.rows.put_create.Goals as goal

pub returns-in-Some : goal.returns-in-Some
returns-in-Some c =
    IfOk-weaker c.put_arguments.result _ _ (λ _ adds. passes_at c.args.points.now c.args.labels.now.names c.args.p c.in-Some.site c.args.g (c.args.a ∷ []) c.args.found.now c.put_arguments.new.found c.in-Some.ensures.value adds) c.put_arguments.ensures

pub returns-in-None : goal.returns-in-None
returns-in-None c = no_passes c.args.points.now c.args.labels.now.names c.args.p c.args.g (c.args.a ∷ []) c.args.found.now c.in-None.ensures.value
