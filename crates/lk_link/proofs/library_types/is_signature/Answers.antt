use Rattle.std.proofs.Common.{◌∙◌, not, sym, ap}
use Rattle.std.specs.Bool.{beq}
use Rattle.lk_typed.specs.Meaning.{meaning}
use Rattle.lk_link.proofs.LibraryRows.{other_dots, other_result, by_parameters}
use Rattle.lk_link.proofs.Meeting.{bools_same}
use Rattle.lk_link.proofs.library_types.is_signature.Goals as goal
use Rattle.lk_link.proofs.library_types.is_signature.Goals.{then-dots-has_dots-via-then-dots-has_dots, then-dots-has_dots-via-else-dots-has_dots+then-not-is_result}

pub returns-then-dots-has_dots : goal.returns-then-dots-has_dots
returns-then-dots-has_dots c = λ row there.
    let m = meaning c.args.types.now in
    elim c.then-dots-has_dots.branch [
      | then-dots-has_dots-via-then-dots-has_dots w ↦
          sym (other_dots m c.args.result_type c.args.params.now c.args.dots c.args.function row there (ap (λ b. not (beq c.args.dots b)) (sym c.has_dots.ensures) ∙ w.if-dots-has_dots.true))
      | then-dots-has_dots-via-else-dots-has_dots+then-not-is_result w ↦
          sym (other_result m c.args.result_type c.args.params.now c.args.dots c.args.function row there (sym w.is_result.ensures ∙ w.if-not-is_result.true))
    ]

pub returns : goal.returns
returns c = λ row there.
    let m = meaning c.args.types.now in
    c.are_parameters.ensures ∙
    sym (by_parameters m c.args.result_type c.args.params.now c.args.dots c.args.function row there c.parameters.result.now c.parameters.ensures
    (bools_same c.args.dots c.has_dots.result c.if-dots-has_dots.false ∙ c.has_dots.ensures) (sym c.is_result.ensures ∙ c.if-not-is_result.false))
