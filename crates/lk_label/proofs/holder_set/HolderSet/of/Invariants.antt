use Rattle.std.proofs.Common.{◌≡◌, take}
use Rattle.lk_label.proofs.holder_set.HolderSet.of.Given as goal

abbrev pub invariant-loop-holder : goal.invariant-loop-holder
invariant-loop-holder l = l.set ≡ take l.holder-index l.holders
