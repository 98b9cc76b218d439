use Rattle.std.proofs.Common.{take}
use Rattle.lk_label.specs.Gathering.{AreLabelsOf}
use Rattle.lk_label.proofs.gather.labels_by_holder.Given as goal

abbrev pub invariant-loop-holder : goal.invariant-loop-holder
invariant-loop-holder l = AreLabelsOf l.points (take l.holder-index l.holders) l.names
