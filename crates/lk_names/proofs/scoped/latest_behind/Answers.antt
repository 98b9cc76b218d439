use Rattle.std.proofs.Common.{◌∙◌, Some, None, ap, drop}
use Rattle.lk_names.proofs.LatestNames.{found_by_bytes}
use Rattle.lk_names.proofs.scoped.latest_behind.Goals as goal

pub returns-in-Some : goal.returns-in-Some
returns-in-Some g c =
    found_by_bytes g.T.TellsName.told_name (drop c.args.base c.args.declared.now) c.bytes.result.now c.args.name.now (Some c.scoped.inside.item) (ap Some c.scoped.view_is ∙ c.in-Some.ensures) c.bytes.ensures.value

pub returns-in-None : goal.returns-in-None
returns-in-None g c = found_by_bytes g.T.TellsName.told_name (drop c.args.base c.args.declared.now) c.bytes.result.now c.args.name.now None c.in-None.ensures c.bytes.ensures.value
