use Rattle.lk_elab_expr.proofs.Decided.{member_is}
use Rattle.lk_elab_expr.proofs.places.member.Goals as goal

pub returns : goal.returns
returns c = λ p i form same own true_of tables leads folded. record {
  role = c.itself_part.ensures.role _ _;
  gives = λ x is t makes. member_is c.args.walk.now tables folded p i _ _ x t own form (c.in_ok-number.ensures i same true_of) (c.itself_part.ensures.typed tables folded i x is) makes;
}
