use Rattle.std.proofs.Common.{take}
use Rattle.lk_lower_parts.specs.Within.{AreCells, IsInRoots}
use Rattle.lk_lower_parts.proofs.places.all_cells.Given as goal

abbrev pub invariant-loop-root : goal.invariant-loop-root
invariant-loop-root l = AreCells l.types (IsInRoots l.types l.roots (take l.root-index l.root-items)) l.cells
