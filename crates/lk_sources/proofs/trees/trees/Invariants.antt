use Rattle.std.proofs.Common.{map, take}
use Rattle.lk_sources.specs.Trees.{AreTrees}
use Rattle.lk_sources.proofs.trees.trees.Given as goal

-- the trees so far
abbrev pub invariant-loop-index : goal.invariant-loop-index
invariant-loop-index l = AreTrees (take l.index l.sources) (take l.index l.lists) (map (λ parsed. parsed.unit) l.trees.items)
