-- What the operands stand as that are converted directly to a type (C99 6.5.2.2, 6.5.4, 6.5.16.1).
use Rattle.std.proofs.Common.{◌≡◌, ◌∙◌, false, List, [], ◌∷◌, ℕ, zero, suc, Option, Some, None, sym, ap, subst}
use Rattle.std.specs.Prelude.{⊤, if◌then◌else◌}
use Rattle.std.specs.List.{slice_get}
use Rattle.lk_tree.specs.declared.expression.DeclaratorForm.TheOpen.{ExprForm-F}
use Rattle.lk_tree.specs.declared.expression.Expr.{Expr}
use Rattle.lk_tree.specs.declared.expression.ExprForm.{out-ExprForm}
use Rattle.lk_tree.specs.declared.expression.TypeName.{TypeName}
use Rattle.lk_tree.specs.declared.operators.AssignOperator.{AssignOperator}
use Rattle.lk_tree.specs.declared.operators.BinaryOperator.{BinaryOperator}
use Rattle.lk_typed.specs.Assignments.{operator_of}
use Rattle.lk_typed.specs.Elaborated.{InPlace, PlacedForm, form_of, name_in, type_named, typing_at}
use Rattle.lk_typed.specs.Env.{Env, AsOperand, ConvertedTo}
use Rattle.lk_typed.specs.Expressions.{expression}
use Rattle.lk_typed.specs.Forms.{as_cast, as_passed, as_right, behind, placed, placed_arguments}
use Rattle.lk_typed.specs.Library.{Passing, Converted, NullFor, Routine, Size}
use Rattle.lk_typed.specs.Ty.{Ty, is_function}
use Rattle.lk_typed.specs.Typing.{Typing}
use Rattle.lk_rules.proofs.Found.{Layer}
use Rattle.lk_elaborator.proofs.Knowing.{same_some, some_none}
use Rattle.lk_elab_expr.specs.PassedArguments.{StandsPassed, passes_to}

-- what a form says of its operand that is converted directly
abbrev Says : PlacedForm → Type 0
Says (ExprForm-F.Comma l r) = ⊤
Says (ExprForm-F.Assign o l r) = (x : Typing) → operator_of o ≡ None → typing_at l ≡ Some x → is_function x.type ≡ false → r.0.role ≡ ConvertedTo x.type
Says (ExprForm-F.Choice c l r) = ⊤
Says (ExprForm-F.Binary o l r) = ⊤
Says (ExprForm-F.Cast n i) = (t : Ty) → type_named n ≡ Some t → i.0.role ≡ ConvertedTo t
Says (ExprForm-F.Pre o i) = ⊤
Says (ExprForm-F.Prefix o i) = ⊤
Says (ExprForm-F.SizeofExpr i) = ⊤
Says (ExprForm-F.SizeofType n) = ⊤
Says (ExprForm-F.Index l r) = ⊤
Says (ExprForm-F.Call f ps) = (index : ℕ) (q : InPlace) → slice_get ps index ≡ Some q → StandsPassed (slice_get (passes_to f) index) q.0.role
Says (ExprForm-F.Member i name) = ⊤
Says (ExprForm-F.Arrow i name) = ⊤
Says (ExprForm-F.Post o i) = ⊤
Says (ExprForm-F.Word name) = ⊤
Says (ExprForm-F.Number k n) = ⊤
Says (ExprForm-F.Char n) = ⊤
Says (ExprForm-F.Text bytes) = ⊤
Says (ExprForm-F.Paren i) = ⊤

cast_role : (env : Env) (o : Option Ty) (t : Ty) → o ≡ Some t → (as_cast o env).role ≡ ConvertedTo t
cast_role env o t is = ap (λ o. (as_cast o env).role) is

right_role : (env : Env) (o : Option BinaryOperator) (l : Option Typing) (x : Typing) → o ≡ None → l ≡ Some x → is_function x.type ≡ false → (as_right o l env).role ≡ ConvertedTo x.type
right_role env o l x none is plain =
    ap (λ o. (as_right o l env).role) none ∙ ap (λ l. (as_right None l env).role) is ∙ ap (λ b. (if b then record env { role = AsOperand } else record env { role = ConvertedTo x.type }).role) plain

passed_role : (env : Env) (pass : Passing) (e : Expr) (q : InPlace) → (as_passed pass env, e) ≡ q → StandsPassed (Some pass) q.0.role
passed_role env (Converted t) e q is = ap (λ (q : InPlace). q.0.role) (sym is)
passed_role env (NullFor t code) e q is = tt
passed_role env Routine e q is = tt
passed_role env Size e q is = tt

argument_role : (env : Env) (passes : List Passing) (es : List Expr) (index : ℕ) (q : InPlace) → slice_get (placed_arguments expression env passes es) index ≡ Some q → StandsPassed (slice_get passes index) q.0.role
argument_role env [] es index q at = tt
argument_role env (pass ∷ passes) [] index q at = absurd (some_none at)
argument_role env (pass ∷ passes) (e ∷ es) zero q at = passed_role env pass e q (same_some at)
argument_role env (pass ∷ passes) (e ∷ es) (suc i) q at = argument_role (behind env (expression e (as_passed pass env))) passes es i q at

said : (env : Env) (form : Layer) → Says (placed expression name_in env form)
said env (ExprForm-F.Comma l r) = tt
said env (ExprForm-F.Assign o l r) = λ x none is plain. right_role _ (operator_of o) _ x none is plain
said env (ExprForm-F.Choice c l r) = tt
said env (ExprForm-F.Binary o l r) = tt
said env (ExprForm-F.Cast n i) = λ t is. cast_role _ _ t is
said env (ExprForm-F.Pre o i) = tt
said env (ExprForm-F.Prefix o i) = tt
said env (ExprForm-F.SizeofExpr i) = tt
said env (ExprForm-F.SizeofType n) = tt
said env (ExprForm-F.Index l r) = tt
said env (ExprForm-F.Call f arguments) = λ index q at. argument_role _ _ arguments index q at
said env (ExprForm-F.Member i name) = tt
said env (ExprForm-F.Arrow i name) = tt
said env (ExprForm-F.Post o i) = tt
said env (ExprForm-F.Word name) = tt
said env (ExprForm-F.Number k n) = tt
said env (ExprForm-F.Char n) = tt
said env (ExprForm-F.Text bytes) = tt
said env (ExprForm-F.Paren i) = tt

module _ (p : InPlace) where
  said_of : (form : PlacedForm) → form_of p ≡ form → Says form
  said_of form is = subst Says is (said p.0 (out-ExprForm p.1.form))

  pub cast_given : (n : Env × TypeName) (i : InPlace) → form_of p ≡ ExprForm-F.Cast n i → (t : Ty) → type_named n ≡ Some t → i.0.role ≡ ConvertedTo t
  cast_given n i is = said_of (ExprForm-F.Cast n i) is

  pub right_given : (o : AssignOperator) (l r : InPlace) → form_of p ≡ ExprForm-F.Assign o l r → (x : Typing) → operator_of o ≡ None → typing_at l ≡ Some x → is_function x.type ≡ false →
      r.0.role ≡ ConvertedTo x.type
  right_given o l r is = said_of (ExprForm-F.Assign o l r) is

  pub argument_given : (f : InPlace) (ps : List InPlace) → form_of p ≡ ExprForm-F.Call f ps → (index : ℕ) (q : InPlace) → slice_get ps index ≡ Some q → StandsPassed (slice_get (passes_to f) index) q.0.role
  argument_given f ps is = said_of (ExprForm-F.Call f ps) is
