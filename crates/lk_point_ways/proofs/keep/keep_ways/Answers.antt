use Rattle.std.proofs.Common.{◌∙◌, sym}
use Rattle.std.proofs.lemmas.Bool.{false≢true}
use Rattle.lk_point_ways.proofs.Whole.{whole, points_kept, functions_kept, roots_kept}
use Rattle.lk_point_ways.proofs.keep.keep_ways.Goals as goal
use Rattle.lk_point_ways.proofs.keep.keep_ways.Goals.{then-keep_points, else-keep_points}

pub returns-then-keep_functions : goal.returns-then-keep_functions
returns-then-keep_functions c =
    let program = c.args.points.now in (
      (λ holds.
          elim c.if-keep_points.branch [
            | then-keep_points w ↦ whole program (c.keep_points.ensures.0 w.if-keep_points.true) (w.keep_functions.ensures.0 (sym w.value-is ∙ c.if-keep_functions.true)) (c.keep_roots.ensures.0 holds)
            | else-keep_points w ↦ absurd (false≢true (sym w.if-keep_points.false ∙ (sym w.value-is ∙ c.if-keep_functions.true)))
          ]),
      (λ keeps. c.keep_roots.ensures.1 (roots_kept program keeps)),
    )

pub returns-else-keep_functions : goal.returns-else-keep_functions
returns-else-keep_functions c =
    let program = c.args.points.now in (
      (λ holds. absurd (false≢true (sym c.if-keep_functions.false ∙ holds))),
      (λ keeps.
          elim c.if-keep_points.branch [
            | then-keep_points w ↦ w.value-is ∙ w.keep_functions.ensures.1 (functions_kept program keeps)
            | else-keep_points w ↦ absurd (false≢true (sym w.if-keep_points.false ∙ c.keep_points.ensures.1 (points_kept program keeps)))
          ]),
    )
