use Rattle.std.proofs.Common.{◌≡◌, ◌<◌, All, length}
use Rattle.std.specs.List.{range_with_len}
use Rattle.lk_graph.proofs.order.all_functions.Given as goal

abbrev pub invariant-loop-function : goal.invariant-loop-function
invariant-loop-function l = (l.functions.items ≡ range_with_len 0 l.function) × All (λ f. f < length l.points.functions) l.functions.items
