use Rattle.std.proofs.Common.{◌≡◌, ◌∙◌, subst}
use Rattle.lk_typed.specs.Addresses.{value}
use Rattle.lk_typed.specs.Elaborated.{IsOperand}
use Rattle.lk_typed.specs.Elaborated.IsTyped.{index}
use Rattle.lk_typed.specs.Meaning.{meaning_of}
use Rattle.std.proofs.Common.{true}
use Rattle.lk_elaborator.proofs.Growing.{leads_before, true_on, type_on}
use Rattle.lk_elab_expr.proofs.Giving.{and_true}
use Rattle.lk_elab_expr.proofs.places.index.Goals as goal

pub returns-clause-two : goal.returns-clause-two
returns-clause-two c = λ p l r form first second own left right tables leads.
    let old = c.args.walk.now in
    let middle = c.value_of.new.walk in
    let has = c.in_ok-v.ensures.value r second right in
    let grows = c.in_ok-left.ensures.grows in
    let target : meaning_of middle.types c.in_ok-v.v.ty ≡ (value has.typing).type = type_on old middle grows own.ready c.in_ok-v.v.ty c.in_ok-v.ensures.operand.known ∙ has.is.type in
    record {
      left = c.in_ok-left.ensures.role _ _;
      right = c.in_ok-right.ensures.role _ _;
      gives = λ x y is_x is_y t makes.
          index form has.found
          (c.in_ok-left.ensures.value l first left tables (leads_before middle c.operand_part.new.walk tables c.in_ok-right.ensures.grows leads) c.args.folded x is_x)
          (subst (λ ty. IsOperand tables c.args.folded true r ty y) target
          (c.in_ok-right.ensures.operand r second (true_on old middle grows r right) tables leads c.args.folded y is_y true (and_true c.args.folded)))
          makes;
    }
