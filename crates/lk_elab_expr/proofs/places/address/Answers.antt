use Rattle.lk_typed.specs.Elaborated.IsTyped.{address}
use Rattle.lk_elab_expr.proofs.places.address.Goals as goal

pub returns : goal.returns
returns c = λ p i form table tables folded. record {
  role = c.itself_part.ensures.role _ _;
  gives = λ x is t makes. address form (c.itself_part.ensures.typed tables folded i x is) makes;
}
