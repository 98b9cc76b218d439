use Rattle.std.proofs.Common.{arith, sym, ◌∙◌, ap, take, drop, ◌++◌, ◌∷◌, ◌+◌}
use Rattle.std.specs.Prelude.{map}
use Rattle.std.specs.Option.{option_map, option_or}
use Rattle.lk_change.specs.Fills.{path_counted, first_index}
use Rattle.lk_base.specs.declared.cell.CellStep.TheVariants.{Field}
use Rattle.lk_cells.proofs.PartLemmas.{joined-ends}
use Rattle.lk_change.proofs.FillLemmas.{next_path-stops, counted-or}
use Rattle.lk_change.proofs.fills.last_turn.Goals as goal

pub returns-in-None-clause-value : goal.returns-in-None-clause-value
returns-in-None-clause-value c =
    let steps = c.args.steps.now in
    let best = path_counted steps c.loop-place.found in
    let stops = next_path-stops c.args.types.now c.args.object.now.length steps c.loop-place.place c.loop-place.reached (Field 0) (omega arith) (sym c.part_at.ensures ∙ c.in-None.is) in
    let ends = joined-ends (take c.loop-place.place steps) (map first_index (drop (c.loop-place.place + 1) steps)) _ _ best stops in
    let newer = counted-or steps c.loop-place.place c.index_after-next.result c.loop-place.found in
    sym c.loop-place.invariant.0 ∙ ends ∙ ap (λ n. option_or (option_map (λ s. take c.loop-place.place steps ++ s ∷ map first_index (drop (c.loop-place.place + 1) steps)) n) best) (sym c.index_after-next.ensures)
    ∙ sym newer ∙ ap (path_counted steps) (sym c.newer-found.ensures)
