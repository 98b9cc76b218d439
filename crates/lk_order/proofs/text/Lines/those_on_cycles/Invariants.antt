use Rattle.std.proofs.Common.{◌≡◌, take}
use Rattle.std.specs.List.{filter}
use Rattle.lk_order.specs.Table.{on_cycle}
use Rattle.lk_order.proofs.text.Lines.those_on_cycles.Given as goal

abbrev pub invariant-loop-q : goal.invariant-loop-q
invariant-loop-q l = l.those.items ≡ filter (on_cycle l.self.order.now) (take l.q-index l.places)
