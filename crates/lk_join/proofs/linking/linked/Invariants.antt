use Rattle.std.proofs.Common.{◌≡◌, ◌++◌, map}
use Rattle.std.specs.Vec.Iter.{into_iter_items}
use Rattle.lk_typed.specs.declared.whole.Linked.{Linked}
use Rattle.lk_join.proofs.linking.linked.Given as goal

-- the first sources have their numbers, and the others are left
abbrev pub invariant-loop-unit : goal.invariant-loop-unit
invariant-loop-unit l =
    (l.fn.units.items ≡ map (λ (source : Linked). source.unit) l.sources.items ++ into_iter_items l.unit-iterator)
    × (l.fn.types.items ≡ map (λ (source : Linked). source.types) l.sources.items ++ into_iter_items l.rows)
    × (l.fn.entities.items ≡ map (λ (source : Linked). source.entities) l.sources.items ++ into_iter_items l.numbers)
