use Rattle.std.proofs.Common.{take}
use Rattle.lk_label.specs.Gathering.{PutsNames}
use Rattle.lk_label.proofs.gather.put_names.Given as goal

abbrev pub invariant-loop-node : goal.invariant-loop-node
invariant-loop-node l = PutsNames l.fn.holder l.initial.names (take l.node-index l.nodes) l.names
