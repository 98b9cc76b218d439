use Rattle.std.proofs.Common.{◌∙◌, subst}
use Rattle.lk_typed.specs.Elaborated.{IsConverted}
use Rattle.lk_typed.specs.Elaborated.IsTyped.{choice}
use Rattle.lk_elaborator.proofs.Growing.{grows_then, leads_before, true_on, type_on}
use Rattle.lk_elab_expr.proofs.operators.choice.Goals as goal

pub returns-clause-three : goal.returns-clause-three
returns-clause-three c = λ p cond l r form same first second third own condition taken other tables leads folded.
    let a = c.args.walk.now in
    let b = c.value_of.new.walk in
    let d = c.converted_operand.new.walk in
    let e = c.converted_operand-2.new.walk in
    let to_b = c.in_ok-first.ensures.grows in
    let to_d = grows_then a b d to_b c.in_ok-second.ensures.grows in
    let leads_d = leads_before d e tables c.in_ok-third.ensures.grows leads in
    let leads_b = leads_before b d tables c.in_ok-second.ensures.grows leads_d in
    let has = c.in_ok-typing.ensures.typing p same own in
    let ty = c.in_ok-typing.typing.ty in
    let known = c.in_ok-typing.ensures.operand.known in
    record {
      condition = c.in_ok-first.ensures.role _ _;
      taken = c.in_ok-second.ensures.role _ _;
      other = c.in_ok-third.ensures.role _ _;
      gives = λ x y z is_x is_y is_z t makes.
          choice form has.found
          (c.in_ok-first.ensures.value cond first condition tables leads_b folded x is_x)
          (subst (λ ty. IsConverted tables folded l ty y) (type_on a b to_b own.ready ty known ∙ has.is.type)
          (c.in_ok-second.ensures.converted l second (true_on a b to_b l taken) tables leads_d folded y is_y))
          (subst (λ ty. IsConverted tables folded r ty z) (type_on a d to_d own.ready ty known ∙ has.is.type)
          (c.in_ok-third.ensures.converted r third (true_on a d to_d r other) tables leads folded z is_z))
          makes;
    }
