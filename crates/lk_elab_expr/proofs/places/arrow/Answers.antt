use Rattle.lk_elab_expr.proofs.Decided.{arrow_is}
use Rattle.lk_elab_expr.proofs.places.arrow.Goals as goal

pub returns-clause-one : goal.returns-clause-one
returns-clause-one c = λ p i form same own true_of tables leads folded. record {
  role = c.in_ok-part.ensures.role _ _;
  gives = λ x is t makes. arrow_is c.args.walk.now tables folded p i _ _ x t own form (c.in_ok-number.ensures i same true_of) (c.in_ok-part.ensures.value i same true_of tables leads folded x is) makes;
}
