use Rattle.std.proofs.Common.{◌↔◌, Contains, take}
use Rattle.lk_conflict.specs.Kinds.{HasKind}
use Rattle.lk_conflict.specs.declared.pairs.Kind.{Kind}
use Rattle.lk_conflict.proofs.grounds.Grounds.kinds.Given as goal

abbrev pub invariant-loop-item : goal.invariant-loop-item
invariant-loop-item l = (k : Kind) → Contains l.kinds.keys k ↔ HasKind l.self.items.now.facts.program (take l.item-index l.items) k
