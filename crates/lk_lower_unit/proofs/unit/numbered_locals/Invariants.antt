use Rattle.std.proofs.Common.{◌≡◌, ◌++◌, drop}
use Rattle.std.specs.Prelude.{map}
use Rattle.lk_lower_unit.specs.Bodies.{named_local}
use Rattle.lk_lower_unit.proofs.unit.numbered_locals.Given as goal

abbrev pub invariant-loop-local : goal.invariant-loop-local
invariant-loop-local l = map (named_local l.names.by_node) l.locals ≡ l.list.items ++ map (named_local l.names.by_node) (drop l.local-index l.locals)
