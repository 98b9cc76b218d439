use Rattle.std.proofs.Common.{◌<◌, All, length}
use Rattle.lk_graph.proofs.order.entries.Given as goal

abbrev pub invariant-loop-function : goal.invariant-loop-function
invariant-loop-function l = All (λ p. p < length l.points.points) l.entries.items
