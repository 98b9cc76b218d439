use Rattle.std.proofs.Common.{◌≡◌, ◌∙◌, false, refl, sym, ap, subst}
use Rattle.lk_tree.specs.declared.operators.AssignOperator.TheVariants as assigning
use Rattle.lk_typed.specs.Elaborated.{IsConverted}
use Rattle.lk_typed.specs.Elaborated.IsTyped.{assignment}
use Rattle.lk_typed.specs.Env.{ConvertedTo}
use Rattle.lk_typed.specs.Meaning.{meaning_of}
use Rattle.lk_typed.specs.Ty.{is_function}
use Rattle.lk_elab_expr.proofs.Roles.{right_given}
use Rattle.lk_elab_expr.proofs.sides.assignment.Goals as goal

pub returns-clause-two : goal.returns-clause-two
returns-clause-two c = λ folded p l r form first second own left right tables leads.
    let has = c.in_ok-typing.ensures.typing l first left in
    let test : is_function (meaning_of c.args.walk.now.types c.in_ok-typing.typing.ty) ≡ false = rw (sym c.table.ensures.value) (sym c.is_function.ensures ∙ c.if-is_function.false) in
    let plain : is_function has.typing.type ≡ false = ap is_function (sym has.is.type) ∙ test in
    record {
      left = c.itself_part.ensures.role _ _;
      right = c.in_ok-value.ensures.role r.0.role own.ready (right_given p assigning.Plain l r form has.typing refl has.found plain ∙ ap ConvertedTo (sym has.is.type));
      gives = λ x y is_x is_y t makes.
          assignment form has.found (c.itself_part.ensures.typed tables folded l x is_x)
          (subst (λ ty. IsConverted tables folded r ty y) has.is.type (c.in_ok-value.ensures.converted r second right tables leads folded y is_y)) makes;
    }
