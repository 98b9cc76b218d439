-- The form of an expression in its place, by the variant of the tree; and that of a node.
use Rattle.std.proofs.Common.{◌≡◌, ◌∙◌, ◌⊎◌, inl, inr, ℕ, List, [], ◌∷◌, Some, map, refl, sym, ap}
use Rattle.lk_tree.specs.declared.expression.DeclaratorForm.TheOpen.{ExprForm-F}
use Rattle.lk_tree.specs.declared.expression.Expr.{Expr}
use Rattle.lk_tree.specs.declared.expression.ExprForm.{ExprForm, out-ExprForm, roll-ExprForm, out-roll-ExprForm}
use Rattle.lk_tree.specs.declared.expression.ExprForm.TheVariants as tree
use Rattle.lk_tree.specs.declared.expression.TypeName.{TypeName}
use Rattle.lk_tree.specs.declared.operators.AssignOperator.{AssignOperator}
use Rattle.lk_tree.specs.declared.operators.BinaryOperator.{BinaryOperator}
use Rattle.lk_tree.specs.declared.operators.PrefixOperator.{PrefixOperator}
use Rattle.lk_tree.specs.declared.operators.StepOperator.{StepOperator}
use Rattle.lk_typed.specs.Elaborated.{InPlace, PlacedForm, form_of, name_in}
use Rattle.lk_typed.specs.Env.{Env, as_function, as_operand}
use Rattle.lk_typed.specs.Expressions.{expression}
use Rattle.lk_typed.specs.Forms.{as_passed, behind, placed, placed_arguments}
use Rattle.lk_typed.specs.Library.{Passing}
use Rattle.lk_typed.specs.LibraryCalls.{OpenLibraryCall}
use Rattle.lk_typed.specs.declared.expression.Callee.{Callee, out-Callee, roll-Callee, out-roll-Callee}
use Rattle.lk_typed.specs.declared.expression.Callee.TheOpen.{Callee-F}
use Rattle.lk_typed.specs.declared.expression.TypedExpr.{TypedExpr}
use Rattle.lk_typed.specs.declared.library.LibraryCall.{LibraryCall, out-LibraryCall, roll-LibraryCall, out-roll-LibraryCall}
use Rattle.lk_typed.specs.declared.expression.TypedForm.{TypedForm, out-TypedForm, roll-TypedForm, out-roll-TypedForm}
use Rattle.lk_rules.proofs.Found.{Layer}
use Rattle.lk_elaborator.specs.Standing.{OpenForm}
use Rattle.lk_elab_expr.specs.PassedArguments.{passes_to}
use Rattle.lk_elab_expr.specs.Walking.{one_in, two_in}

abbrev pub OpenCallee : Type 0
OpenCallee = Callee-F Callee TypedForm LibraryCall TypedExpr

pub form_at : (p : InPlace) (f : ExprForm) (form : Layer) → p.1.form ≡ f → roll-ExprForm form ≡ f → form_of p ≡ placed expression name_in p.0 form
form_at p f form is rolls = ap (placed expression name_in p.0) (ap out-ExprForm (is ∙ sym rolls) ∙ out-roll-ExprForm form)

pub made_of : (f : TypedForm) (form : OpenForm) → roll-TypedForm form ≡ f → out-TypedForm f ≡ form
made_of f form rolls = ap out-TypedForm (sym rolls) ∙ out-roll-TypedForm form

pub call_made_of : (f : LibraryCall) (form : OpenLibraryCall) → roll-LibraryCall form ≡ f → out-LibraryCall f ≡ form
call_made_of f form rolls = ap out-LibraryCall (sym rolls) ∙ out-roll-LibraryCall form

-- ---- forms with one operand, and with two

pub record HasOneAt (p : InPlace) (x : Expr) : Type 0 where
  pub operand : InPlace
  pub at : one_in (form_of p) ≡ Some operand
  pub is : operand.1 ≡ x

abbrev IsOneFormOf : ExprForm → Expr → Type 0
IsOneFormOf f x =
    ((n : TypeName) × (f ≡ tree.Cast n x)) ⊎ (((o : StepOperator) × (f ≡ tree.Pre o x)) ⊎ (((o : PrefixOperator) × (f ≡ tree.Prefix o x)) ⊎
    (((name : List ℕ) × (f ≡ tree.Member x name)) ⊎ (((name : List ℕ) × (f ≡ tree.Arrow x name)) ⊎ (((o : StepOperator) × (f ≡ tree.Post o x)) ⊎ (f ≡ tree.Paren x))))))

has_one : (p : InPlace) (x : Expr) (e : Env) (form : PlacedForm) → form_of p ≡ form → one_in form ≡ Some (e, x) → HasOneAt p x
has_one p x e form is at = record { operand = (e, x); at = ap one_in is ∙ at; is = refl }

pub one_at : (p : InPlace) (x : Expr) → IsOneFormOf p.1.form x → HasOneAt p x
one_at p x (inl is) = has_one p x _ _ (form_at p (tree.Cast is.0 x) (ExprForm-F.Cast is.0 x) is.1 (tree.rolls-Cast is.0 x)) refl
one_at p x (inr (inl is)) = has_one p x _ _ (form_at p (tree.Pre is.0 x) (ExprForm-F.Pre is.0 x) is.1 (tree.rolls-Pre is.0 x)) refl
one_at p x (inr (inr (inl is))) = has_one p x _ _ (form_at p (tree.Prefix is.0 x) (ExprForm-F.Prefix is.0 x) is.1 (tree.rolls-Prefix is.0 x)) refl
one_at p x (inr (inr (inr (inl is)))) = has_one p x _ _ (form_at p (tree.Member x is.0) (ExprForm-F.Member x is.0) is.1 (tree.rolls-Member x is.0)) refl
one_at p x (inr (inr (inr (inr (inl is))))) = has_one p x _ _ (form_at p (tree.Arrow x is.0) (ExprForm-F.Arrow x is.0) is.1 (tree.rolls-Arrow x is.0)) refl
one_at p x (inr (inr (inr (inr (inr (inl is)))))) = has_one p x _ _ (form_at p (tree.Post is.0 x) (ExprForm-F.Post is.0 x) is.1 (tree.rolls-Post is.0 x)) refl
one_at p x (inr (inr (inr (inr (inr (inr is)))))) = has_one p x _ _ (form_at p (tree.Paren x) (ExprForm-F.Paren x) is (tree.rolls-Paren x)) refl

pub record HasTwoAt (p : InPlace) (x y : Expr) : Type 0 where
  pub left : InPlace
  pub right : InPlace
  pub at : two_in (form_of p) ≡ Some (left, right)
  pub left_is : left.1 ≡ x
  pub right_is : right.1 ≡ y

abbrev IsTwoFormOf : ExprForm → Expr → Expr → Type 0
IsTwoFormOf f x y = (f ≡ tree.Comma x y) ⊎ (((o : AssignOperator) × (f ≡ tree.Assign o x y)) ⊎ (((o : BinaryOperator) × (f ≡ tree.Binary o x y)) ⊎ (f ≡ tree.Index x y)))

has_two : (p : InPlace) (x y : Expr) (a b : Env) (form : PlacedForm) → form_of p ≡ form → two_in form ≡ Some ((a, x), (b, y)) → HasTwoAt p x y
has_two p x y a b form is at = record { left = (a, x); right = (b, y); at = ap two_in is ∙ at; left_is = refl; right_is = refl }

pub two_at : (p : InPlace) (x y : Expr) → IsTwoFormOf p.1.form x y → HasTwoAt p x y
two_at p x y (inl is) = has_two p x y _ _ _ (form_at p (tree.Comma x y) (ExprForm-F.Comma x y) is (tree.rolls-Comma x y)) refl
two_at p x y (inr (inl is)) = has_two p x y _ _ _ (form_at p (tree.Assign is.0 x y) (ExprForm-F.Assign is.0 x y) is.1 (tree.rolls-Assign is.0 x y)) refl
two_at p x y (inr (inr (inl is))) = has_two p x y _ _ _ (form_at p (tree.Binary is.0 x y) (ExprForm-F.Binary is.0 x y) is.1 (tree.rolls-Binary is.0 x y)) refl
two_at p x y (inr (inr (inr is))) = has_two p x y _ _ _ (form_at p (tree.Index x y) (ExprForm-F.Index x y) is (tree.rolls-Index x y)) refl

-- ---- calls

pub record HasCallAt (p : InPlace) (x : Expr) (es : List Expr) : Type 0 where
  pub function : InPlace
  pub arguments : List InPlace
  pub at : form_of p ≡ ExprForm-F.Call function arguments
  pub is : function.1 ≡ x
  pub are : map (λ (a : InPlace). a.1) arguments ≡ es

placed_same : (env : Env) (passes : List Passing) (es : List Expr) → map (λ (a : InPlace). a.1) (placed_arguments expression env passes es) ≡ es
placed_same env [] [] = refl
placed_same env (pass ∷ passes) [] = refl
placed_same env [] (e ∷ es) = ap (λ es. e ∷ es) (placed_same (behind env (expression e (as_operand env))) [] es)
placed_same env (pass ∷ passes) (e ∷ es) = ap (λ es. e ∷ es) (placed_same (behind env (expression e (as_passed pass env))) passes es)

pub call_at : (p : InPlace) (x : Expr) (es : List Expr) → p.1.form ≡ tree.Call x es → HasCallAt p x es
call_at p x es is = record {
  function = (as_function p.0, x);
  arguments = placed_arguments expression (behind p.0 (expression x (as_function p.0))) (passes_to (as_function p.0, x)) es;
  at = form_at p (tree.Call x es) (ExprForm-F.Call x es) is (tree.rolls-Call x es);
  is = refl;
  are = placed_same _ _ es;
}

pub callee_made_of : (f : Callee) (form : OpenCallee) → roll-Callee form ≡ f → out-Callee f ≡ form
callee_made_of f form rolls = ap out-Callee (sym rolls) ∙ out-roll-Callee form
