use Rattle.std.proofs.Common.{drop}
use Rattle.lk_elaborate.proofs.Casing.{ArePut}
use Rattle.lk_elaborate.proofs.cases.Cases.+cases.Given as goal

abbrev pub invariant-put_items-loop-item : goal.invariant-put_items-loop-item
invariant-put_items-loop-item l = ArePut l.walk l.kind l.items (drop l.item-index l.items) l.initial.self l.self
