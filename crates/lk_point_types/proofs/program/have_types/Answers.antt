use Rattle.std.proofs.Common.{◌∙◌, sym}
use Rattle.std.proofs.lemmas.Bool.{false≢true}
use Rattle.lk_point_types.proofs.WholeLemmas.{typed_code, typed_data, typed_whole}
use Rattle.lk_point_types.proofs.program.have_types.Goals as goal

pub returns-then-is_code_typed : goal.returns-then-is_code_typed
returns-then-is_code_typed c =
    let program = c.args.points.now in (
      (λ yes_. typed_whole program (c.is_code_typed.ensures.0 c.if-is_code_typed.true) (c.is_data_typed.ensures.0 yes_)),
      (λ have. c.is_data_typed.ensures.1 (typed_data program have)),
    )

pub returns-else-is_code_typed : goal.returns-else-is_code_typed
returns-else-is_code_typed c = (
  (λ yes_. absurd (false≢true (sym c.if-is_code_typed.false ∙ yes_))),
  (λ have. absurd (false≢true (sym c.if-is_code_typed.false ∙ c.is_code_typed.ensures.1 (typed_code c.args.points.now have)))),
)
