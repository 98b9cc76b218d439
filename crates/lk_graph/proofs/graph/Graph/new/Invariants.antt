use Rattle.std.proofs.Common.{◌≡◌, [], All, length}
use Rattle.lk_graph.proofs.graph.Graph.new.Given as goal

abbrev pub invariant-loop : goal.invariant-loop
invariant-loop l = record { long : length l.ends.items ≡ l.counter; empty : All (λ ends. ends ≡ []) l.ends.items }
