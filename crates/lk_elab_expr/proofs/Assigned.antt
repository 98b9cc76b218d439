-- Assignments, ++ and -- (C99 6.5.16, 6.5.2.4, 6.5.3.1).
use Rattle.std.proofs.Common.{◌≡◌, Bool, None, Some, ℕ, sym, refl}
use Rattle.lk_tree.specs.declared.operators.AssignOperator.{AssignOperator}
use Rattle.lk_tree.specs.declared.operators.AssignOperator.TheVariants as assigning
use Rattle.lk_tree.specs.declared.operators.StepOperator.{StepOperator}
use Rattle.lk_typed.specs.Assignments.{operator_of}
use Rattle.lk_typed.specs.Elaborated.{InPlace, IsTyped, form_of, typing_at}
use Rattle.lk_typed.specs.Elaborated.IsTyped.{step_after, step_before}
use Rattle.lk_typed.specs.Operands.{step_type}
use Rattle.lk_typed.specs.Tables.{Tables}
use Rattle.lk_typed.specs.Ty.{Means}
use Rattle.lk_typed.specs.Typing.{Typing}
use Rattle.lk_typed.specs.declared.expression.Callee.TheOpen.{TypedForm-F}
use Rattle.lk_typed.specs.declared.expression.Change.{Change}
use Rattle.lk_typed.specs.declared.expression.Change.TheVariants.{After, Before}
use Rattle.lk_typed.specs.declared.expression.TypedExpr.{TypedExpr}
use Rattle.lk_elaborator.specs.Standing.{MakesOwn}
use Rattle.lk_elaborator.proofs.Knowing.{some_none}
use Rattle.lk_elab_expr.specs.Deciding.{step_form}

pub plain_is : (o : AssignOperator) → operator_of o ≡ None → o ≡ assigning.Plain
plain_is assigning.Plain e = refl
plain_is assigning.Multiply e = absurd (some_none (sym e))
plain_is assigning.Divide e = absurd (some_none (sym e))
plain_is assigning.Remainder e = absurd (some_none (sym e))
plain_is assigning.Add e = absurd (some_none (sym e))
plain_is assigning.Subtract e = absurd (some_none (sym e))
plain_is assigning.ShiftLeft e = absurd (some_none (sym e))
plain_is assigning.ShiftRight e = absurd (some_none (sym e))
plain_is assigning.BitAnd e = absurd (some_none (sym e))
plain_is assigning.BitXor e = absurd (some_none (sym e))
plain_is assigning.BitOr e = absurd (some_none (sym e))

module _ (tables : Tables) (folded : Bool) (p i : InPlace) (o : StepOperator) (place : Typing) (at : ℕ) (a t : TypedExpr) where
  pub stepped : (change : Change) → form_of p ≡ step_form change o i → typing_at i ≡ Some place → IsTyped tables folded i a → Means tables.types at (step_type place.type) →
      MakesOwn tables p (TypedForm-F.Step o change a at) t → IsTyped tables folded p t
  stepped After form found typed means makes = step_after form found typed means makes
  stepped Before form found typed means makes = step_before form found typed means makes
