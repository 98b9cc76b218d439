use Rattle.std.proofs.lemmas.Result.{IfOk-weaker}
use Rattle.lk_flow.proofs.RowLists.{call_both, no_call}
use Rattle.lk_flow.proofs.rows.put_call.Goals as goal

pub returns-in_ok-put_arguments-in-Some : goal.returns-in_ok-put_arguments-in-Some
returns-in_ok-put_arguments-in-Some c =
    IfOk-weaker c.put_sub.result _ _ (λ _ adds. call_both c.args.points.now c.args.labels.now.names c.args.p c.in-Some.site c.args.g c.args.args.now c.args.found.now c.put_arguments.new.found c.put_sub.new.found c.in-Some.ensures.value c.in_ok-put_arguments-in-Some.ensures adds) c.put_sub.ensures

pub returns-in-None : goal.returns-in-None
returns-in-None c = no_call c.args.points.now c.args.labels.now.names c.args.p c.args.g c.args.args.now c.args.found.now c.in-None.ensures.value
