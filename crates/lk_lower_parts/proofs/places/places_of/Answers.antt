use Rattle.std.proofs.Common.{subst, sym, ◌++◌}
use Rattle.lk_facts.specs.Places.{AreDifferent}
use Rattle.lk_lower_parts.proofs.PlaceLists.{front_different}
use Rattle.lk_lower_parts.proofs.places.places_of.Goals as goal

pub put_all-requires-clause-different : goal.put_all-requires-clause-different
put_all-requires-clause-different c =
    subst (λ xs. AreDifferent (xs ++ c.deref.result.now)) (sym c.new-places.ensures)
    (subst AreDifferent (sym c.deref.ensures.value) (front_different c.args.cells.now.values.items c.args.cells.now.locks.items c.requires.different))
