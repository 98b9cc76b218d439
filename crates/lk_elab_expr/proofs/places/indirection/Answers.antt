use Rattle.lk_typed.specs.Elaborated.IsTyped.{indirection}
use Rattle.lk_elab_expr.proofs.places.indirection.Goals as goal

pub returns-clause-one : goal.returns-clause-one
returns-clause-one c = λ p i form same own true_of tables leads folded. record {
  role = c.in_ok-part.ensures.role _ _;
  gives = λ x is t makes. indirection form (c.in_ok-part.ensures.value i same true_of tables leads folded x is) makes;
}
