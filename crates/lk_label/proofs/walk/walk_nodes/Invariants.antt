use Rattle.std.proofs.Common.{reverse}
use Rattle.lk_label.specs.Walking.{IsWalking}
use Rattle.lk_label.proofs.walk.walk_nodes.Given as goal

abbrev pub invariant-loop : goal.invariant-loop
invariant-loop l = IsWalking l.types l.fn.t l.counter l.listed (reverse l.ahead.items)
