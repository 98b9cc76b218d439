use Rattle.std.proofs.Common.{◌≡◌, drop}
use Rattle.lk_types.specs.Nodes.{IsNode, node_of}
use Rattle.lk_cells.specs.Parts.{node_along}
use Rattle.lk_meaning.proofs.locating.node_along.Given as goal

-- the node so far, from which the rest of the path goes on
abbrev pub invariant-loop-step : goal.invariant-loop-step
invariant-loop-step l =
    IsNode l.types l.node × (node_along l.types (node_of l.types l.node) (drop l.step-index l.path) ≡ node_along l.types (node_of l.types l.fn.start) l.path)
