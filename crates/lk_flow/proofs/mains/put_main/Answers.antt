use Rattle.std.proofs.Common.{◌∙◌, sym}
use Rattle.std.proofs.lemmas.Result.{IfOk-weaker}
use Rattle.lk_flow.proofs.ActionLists.{argv_put, args_put, no_main}
use Rattle.lk_flow.proofs.mains.put_main.Goals as goal

pub returns-then-is_argv : goal.returns-then-is_argv
returns-then-is_argv c =
    IfOk-weaker c.put_argv.result _ _ (λ _ adds. argv_put c.args.points.now c.args.labels.now.names c.args.r c.root.result.now c.args.found.now c.put_argv.new.found c.root.ensures.value (sym c.is_argv.ensures ∙ c.if-is_argv.true) adds) c.put_argv.ensures

pub returns-then-is_args : goal.returns-then-is_args
returns-then-is_args c =
    IfOk-weaker c.put_args.result _ _ (λ _ adds. args_put c.args.points.now c.args.labels.now.names c.args.r c.root.result.now c.args.found.now c.put_args.new.found c.root.ensures.value (sym c.is_args.ensures ∙ c.if-is_args.true) adds) c.put_args.ensures

pub returns : goal.returns
returns c = no_main c.args.points.now c.args.labels.now.names c.args.r c.root.result.now c.args.found.now c.root.ensures.value (sym c.is_argv.ensures ∙ c.if-is_argv.false) (sym c.is_args.ensures ∙ c.if-is_args.false)
