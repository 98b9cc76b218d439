use Rattle.std.proofs.Common.{◌∙◌, sym}
use Rattle.lk_play.proofs.Taking.{none_told}
use Rattle.lk_play.proofs.running.access.Goals as goal

pub returns : goal.returns
returns c =
    none_told c.args.points.now c.args.state.now c.args.thread c.in-Some-2.touched (sym c.in_ok-touched.ensures ∙ c.in-Some-2.is) c.in-None.ensures
