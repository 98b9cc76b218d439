use Rattle.lk_typed.specs.Elaborated.{IsConverted}
use Rattle.lk_typed.specs.Elaborated.IsTyped.{promoting_operator}
use Rattle.std.proofs.Common.{subst}
use Rattle.lk_elab_expr.proofs.operators.promoted_operand.Goals as goal

pub returns-clause-one : goal.returns-clause-one
returns-clause-one c = λ o promotes p i form same own true_of tables leads folded.
    let by = c.in_ok-target.ensures.promoted i same true_of in
    record {
      role = c.in_ok-part.ensures.role _ _;
      gives = λ x is t makes. promoting_operator form promotes by.found
          (subst (λ ty. IsConverted tables folded i ty x) by.means (c.in_ok-part.ensures.converted i same true_of tables leads folded x is)) makes;
    }
