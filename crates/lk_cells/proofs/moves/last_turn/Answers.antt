use Rattle.std.proofs.Common.{arith, sym, ◌∙◌, ap, take, ◌++◌, ◌∷◌, []}
use Rattle.std.specs.Option.{option_map, option_or}
use Rattle.lk_cells.specs.Moves.{path_turned}
use Rattle.lk_base.specs.declared.cell.CellStep.TheVariants.{Field}
use Rattle.lk_cells.proofs.PartLemmas.{joined-ends, path_after-stops, turned-or}
use Rattle.lk_cells.proofs.moves.last_turn.Goals as goal

pub returns-in-None-clause-value : goal.returns-in-None-clause-value
returns-in-None-clause-value c =
    let steps = c.args.steps.now in
    let best = path_turned steps c.loop-place.found in
    let stops = path_after-stops c.args.types.now c.args.object.now.length steps c.loop-place.place c.loop-place.reached (Field 0) (omega arith) (sym c.part_at.ensures ∙ c.in-None.is) in
    let ends = joined-ends (take c.loop-place.place steps) [] _ _ best stops in
    let newer = turned-or steps c.loop-place.place c.next_at-next.result c.loop-place.found in
    sym c.loop-place.invariant.0 ∙ ends ∙ ap (λ n. option_or (option_map (λ s. take c.loop-place.place steps ++ s ∷ []) n) best) (sym c.next_at-next.ensures)
    ∙ sym newer ∙ ap (path_turned steps) (sym c.newer-found.ensures)
