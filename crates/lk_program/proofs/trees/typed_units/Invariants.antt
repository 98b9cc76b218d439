use Rattle.std.specs.List.{AllZip}
use Rattle.lk_program.specs.Trees.{TypesSource}
use Rattle.lk_program.proofs.trees.typed_units.Given as goal

-- the sources so far come to the typed trees
abbrev pub invariant-loop-source : goal.invariant-loop-source
invariant-loop-source l = AllZip TypesSource l.yielded l.units.items
