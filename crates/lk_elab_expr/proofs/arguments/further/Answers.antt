use Rattle.std.proofs.Common.{subst}
use Rattle.lk_typed.specs.Elaborated.{IsConverted}
use Rattle.lk_elab_expr.proofs.arguments.further.Goals as goal

pub returns-clause-promoted : goal.returns-clause-promoted
returns-clause-promoted c = λ p same true_of tables leads folded t is.
    let has = c.in_ok-target.ensures.promoted p same true_of in
    (has.typing, has.found, subst (λ ty. IsConverted tables folded p ty t) has.means (c.in_ok-part.ensures.converted p same true_of tables leads folded t is))
