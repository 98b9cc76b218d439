use Rattle.std.proofs.Common.{arith, ap, subst, sym, length, length-append, All}
use Rattle.lk_lower_parts.proofs.PlaceLists.{cells_different, cell_nodes, places_of_cells, more_cells, not_full}
use Rattle.lk_lower_parts.proofs.places.all_places.Goals as goal
use Rattle.lk_lower_parts.specs.Cells.{IsPlaceIn}
use Rattle.lk_lower_parts.specs.Within.{count_of_cells}

pub places_of-requires-clause-different : goal.places_of-requires-clause-different
places_of-requires-clause-different c = cells_different c.args.types.now c.args.roots.now c.in_ok-cells.cells c.in_ok-cells.ensures.cells c.in_ok-cells.ensures.order

pub places_of-requires-clause-room : goal.places_of-requires-clause-room
places_of-requires-clause-room c = not_full c.is_full.result 65536 (count_of_cells c.in_ok-cells.cells) c.if-is_full.false c.is_full.ensures

pub returns-clause-nodes : goal.returns-clause-nodes
returns-clause-nodes c = subst (All (IsPlaceIn c.args.types.now)) (sym c.in_ok-places.ensures) (cell_nodes c.args.types.now c.args.roots.now c.in_ok-cells.cells c.in_ok-cells.ensures.cells)

pub returns-clause-places : goal.returns-clause-places
returns-clause-places c =
    places_of_cells c.args.types.now c.args.roots.now c.in_ok-cells.cells c.in_ok-cells.ensures.cells c.in_ok-cells.ensures.order c.in_ok-places.places c.in_ok-locations.locations
    (not_full c.is_full.result 65536 (count_of_cells c.in_ok-cells.cells) c.if-is_full.false c.is_full.ensures) c.in_ok-places.ensures (omega (arith, c.in_ok-locations.ensures, c.len.ensures, c.in_ok-cells.cells.values.ok.0))

pub returns-clause-few : goal.returns-clause-few
returns-clause-few c =
    let few = not_full c.is_full.result 65536 (count_of_cells c.in_ok-cells.cells) c.if-is_full.false c.is_full.ensures in
    omega (arith, few, ap length c.in_ok-places.ensures, length-append c.in_ok-cells.cells.values.items c.in_ok-cells.cells.locks.items)

pub returns-then-is_full-clause-many : goal.returns-then-is_full-clause-many
returns-then-is_full-clause-many c =
    λ e. more_cells c.args.types.now c.args.roots.now c.in_ok-cells.cells c.in_ok-cells.ensures.cells c.in_ok-cells.ensures.order (c.is_full.ensures.0 c.if-is_full.true)
