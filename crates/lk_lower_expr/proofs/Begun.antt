-- Where an expression begins, of the forms that choose among several rules.
use Rattle.std.proofs.Common.{IfOk, Result, subst, ap, ◌∙◌, ◌≡◌, ℕ, Bool, true, false, ◌||◌, Option, None, Some, nat_eq, refl}
use Rattle.std.specs.Prelude.{if◌then◌else◌}
use Rattle.lk_arith.specs.declared.operators.Op.{Op}
use Rattle.lk_base.specs.declared.kind.Kind.TheVariants.{Int as IntKind}
use Rattle.lk_lower_expr.proofs.Forms.{as_form, of_Choice, of_Compound, of_Step, of_Paren, of_Library}
use Rattle.lk_lower_expr.specs.Counts.{place_first}
use Rattle.lk_lower_expr.specs.Expressions.{part, library_part}
use Rattle.lk_lower_expr.specs.Names.{Names, Node}
use Rattle.lk_lower_expr.specs.Naming.{node_of}
use Rattle.lk_lower_expr.specs.Parts.{Part, first_of, place_of, paren_of}
use Rattle.lk_lower_expr.specs.Values.{choice_part, choice_of, compound_part, step_part, is_pointer}
use Rattle.lk_tree.specs.declared.operators.StepOperator.{StepOperator}
use Rattle.lk_typed.specs.declared.expression.Change.{Change}
use Rattle.lk_typed.specs.declared.expression.TypedExpr.{TypedExpr}
use Rattle.lk_typed.specs.declared.expression.TypedForm.TheVariants as form
use Rattle.lk_typed.specs.declared.library.LibraryCall.{LibraryCall}
use Rattle.lk_types.specs.Predeclared.{kind_id}
use Rattle.lk_types.specs.declared.c_type.CType.{CType}
use Rattle.lk_types.specs.declared.c_type.CType.TheVariants.{Void, Int, ThreadId, Mutex, Cond, Pointer, Array, Struct, Function, Opaque}

abbrev first_in : Part → ℕ
first_in part = part.first

both : (test : Bool) (x y : Part) (n : ℕ) → x.first ≡ n → y.first ≡ n → first_in (if test then x else y) ≡ n
both true x y n left right = left
both false x y n left right = right

choice_first_of : (names : Names) (form : CType) (node : Node) (c a b : Part) → (choice_of names form node c a b).first ≡ c.first
choice_first_of names Void node c a b = refl
choice_first_of names (Int k) node c a b = refl
choice_first_of names ThreadId node c a b = refl
choice_first_of names Mutex node c a b = refl
choice_first_of names Cond node c a b = refl
choice_first_of names (Pointer t) node c a b = refl
choice_first_of names (Array t n) node c a b = refl
choice_first_of names (Struct s) node c a b = refl
choice_first_of names (Function result params dots) node c a b = refl
choice_first_of names (Opaque n) node c a b = refl

pub choice_first : (names : Names) (e c a b : TypedExpr) → e.form ≡ form.Choice c a b → (part names e).first ≡ (part names c).first
unfolding choice_part
choice_first names e c a b is = ap first_in (as_form names e (form.Choice c a b) _ is (of_Choice names c a b)) ∙ choice_first_of names (names.form e.ty) _ _ _ _

pub compound_first : (names : Names) (e a b : TypedExpr) (op : Op) (t : ℕ) → e.form ≡ form.Compound op a b t → (part names e).first ≡ place_first names (part names a) e.ordinal
unfolding compound_part
compound_first names e a b op t is = ap first_in (as_form names e (form.Compound op a b t) _ is (of_Compound names op a b t)) ∙
    both (nat_eq (part names a).node.type t) _ _ _ refl refl

pub step_first : (names : Names) (e a : TypedExpr) (operator : StepOperator) (change : Change) (t : ℕ) → e.form ≡ form.Step operator change a t →
    (part names e).first ≡ place_first names (part names a) e.ordinal
unfolding step_part
step_first names e a operator change t is = ap first_in (as_form names e (form.Step operator change a t) _ is (of_Step names operator change a t)) ∙
    both (nat_eq (part names a).node.type t) _ _ _ (both (is_pointer (names.form t) || nat_eq t (kind_id IntKind)) _ _ _ refl refl) refl

paren_first_of : (names : Names) (slot : Option ℕ) (node : Node) (a : Part) → (paren_of names slot node a).first ≡ first_of (place_of names slot a) (names.at node.ordinal 0)
paren_first_of names None node a = refl
paren_first_of names (Some slot) node a = refl

pub paren_first : (names : Names) (e a : TypedExpr) → e.form ≡ form.Paren a → (part names e).first ≡ place_first names (part names a) e.ordinal
paren_first names e a is = ap first_in (as_form names e (form.Paren a) _ is (of_Paren names a)) ∙ paren_first_of names (part names a).slot _ _

pub library_first : (names : Names) (e : TypedExpr) (call : LibraryCall) → e.form ≡ form.Library call → (part names e).first ≡ (library_part names call (node_of e)).first
library_first names e call is = ap first_in (as_form names e (form.Library call) _ is (of_Library names call))

-- an answer that is one number is another that is equal
pub as_other : {E : Type 0} (answer : Result ℕ E) (x y : ℕ) → x ≡ y → IfOk answer (λ point. point ≡ x) → IfOk answer (λ point. point ≡ y)
as_other answer x y same is = subst (λ n. IfOk answer (λ point. point ≡ n)) same is
