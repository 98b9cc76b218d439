use Rattle.std.proofs.Common.{◌≡◌, ◌++◌, reverse, drop}
use Rattle.lk_label.proofs.walk.push_ahead.Given as goal

abbrev pub invariant-loop-index : goal.invariant-loop-index
invariant-loop-index l = reverse l.ahead.items ≡ drop l.index l.nodes ++ reverse l.initial.ahead.items
