use Rattle.std.proofs.Common.{◌∙◌}
use Rattle.std.proofs.lemmas.List.{take_all}
use Rattle.lk_label.proofs.HolderNumbers.{put_next}
use Rattle.lk_label.proofs.holder_set.HolderSet.of.Goals as goal

pub loop-holder-preserved : goal.loop-holder-preserved
loop-holder-preserved c = put_next c.args.holders.now c.loop-holder.set c.put.new.self c.loop-holder.holder-index _ c.requires c.loop-holder-test.true c.loop-holder.invariant c.in_ok-put.ensures

pub returns : goal.returns
returns c = c.loop-holder.invariant ∙ take_all c.loop-holder.holder-index c.args.holders.now c.loop-holder-test.false
