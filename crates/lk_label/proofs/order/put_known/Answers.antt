use Rattle.std.proofs.Common.{refl}
use Rattle.lk_label.specs.Gathering.PutsKnown.{put, over}
use Rattle.lk_label.proofs.WalkSteps.{missing_from}
use Rattle.lk_label.proofs.order.put_known.Goals as goal

pub returns-then-not-has : goal.returns-then-not-has
returns-then-not-has c = over (missing_from c.args.names.now c.args.name.now c.has.result c.has.ensures c.if-not-has.true) refl

pub returns : goal.returns
returns c = put _ (c.has.ensures.0 c.if-not-has.false) c.in_ok-put.ensures
