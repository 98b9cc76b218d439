use Rattle.std.proofs.Common.{take}
use Rattle.lk_order.specs.Pairing.{IsPairWith}
use Rattle.lk_order.specs.Work.{Finds}
use Rattle.lk_sets.specs.Adding.{IsGiven}
use Rattle.lk_order.proofs.pairing.put_wanted.Given as goal

abbrev pub invariant-loop-label : goal.invariant-loop-label
invariant-loop-label l = Finds (IsGiven (IsPairWith l.function l.held) (take l.label-index l.wanted)) l.fn.pairs.keys l.pairs.keys
