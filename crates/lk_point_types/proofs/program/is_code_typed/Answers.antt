use Rattle.lk_point_types.proofs.program.is_code_typed.Goals as goal

pub returns-then-are_points_typed : goal.returns-then-are_points_typed
returns-then-are_points_typed c = (
  (λ typed. (c.are_points_typed.ensures.0 c.if-are_points_typed.true, c.are_functions_typed.ensures.0 typed)),
  (λ both. c.are_functions_typed.ensures.1 both.1),
)
