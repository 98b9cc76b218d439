-- Which step gives the value of an expression, of the forms that choose among several, and of calls.
use Rattle.std.proofs.Common.{ap, ◌∙◌, ◌≡◌, ℕ, Bool, true, false, ◌||◌, List, nat_eq, refl}
use Rattle.std.specs.Prelude.{if◌then◌else◌}
use Rattle.lk_arith.specs.declared.operators.Op.{Op}
use Rattle.lk_base.specs.declared.kind.Kind.TheVariants.{Int as IntKind}
use Rattle.lk_lower_expr.proofs.Chosen.{of_sides, type_of}
use Rattle.lk_lower_expr.proofs.Forms.{as_form, of_Choice, of_Compound, of_Step, of_Library, of_Call}
use Rattle.lk_lower_expr.specs.Counts.{choice_step, compound_step, written_step}
use Rattle.lk_lower_expr.specs.Expressions.{part, library_part, of_callee, of_form, of_library, of_expr}
use Rattle.lk_lower_expr.specs.Library.{Called, by_name, by_pointer, call_part}
use Rattle.lk_lower_expr.specs.Names.{Names, Node}
use Rattle.lk_lower_expr.specs.Naming.{node_of}
use Rattle.lk_lower_expr.specs.Parts.{Part}
use Rattle.lk_lower_expr.specs.Values.{choice_part, choice_of, compound_part, step_part, is_pointer}
use Rattle.lk_tree.specs.declared.operators.StepOperator.{StepOperator}
use Rattle.lk_typed.specs.declared.expression.Callee.{Callee}
use Rattle.lk_typed.specs.declared.expression.Callee.TheFolds.{fold_out-LibraryCall}
use Rattle.lk_typed.specs.declared.expression.Callee.TheOpen.{LibraryCall-F}
use Rattle.lk_typed.specs.declared.expression.Change.TheVariants.{After, Before}
use Rattle.lk_typed.specs.declared.expression.TypedExpr.{TypedExpr}
use Rattle.lk_typed.specs.declared.expression.TypedForm.TheVariants as form
use Rattle.lk_typed.specs.declared.library.LibraryCall.{LibraryCall}
use Rattle.lk_types.specs.Predeclared.{kind_id}
use Rattle.lk_types.specs.declared.c_type.CType.{CType}
use Rattle.lk_types.specs.declared.c_type.CType.TheVariants.{Void, Int, ThreadId, Mutex, Cond, Pointer, Array, Struct, Function, Opaque}

abbrev value_in : Part → ℕ
value_in part = part.value

choice_value_of : (names : Names) (form : CType) (node : Node) (c a b : Part) → (choice_of names form node c a b).value ≡ names.at node.ordinal (choice_step form)
choice_value_of names Void node c a b = refl
choice_value_of names (Int k) node c a b = refl
choice_value_of names ThreadId node c a b = refl
choice_value_of names Mutex node c a b = refl
choice_value_of names Cond node c a b = refl
choice_value_of names (Pointer t) node c a b = refl
choice_value_of names (Array t n) node c a b = refl
choice_value_of names (Struct s) node c a b = refl
choice_value_of names (Function result params dots) node c a b = refl
choice_value_of names (Opaque n) node c a b = refl

-- a function of a choice is the choice of its values
of_choice : {A B : Type 0} (f : A → B) (test : Bool) (x y : A) → (if test then f x else f y) ≡ f (if test then x else y)
of_choice f true x y = refl
of_choice f false x y = refl

pub choice_value : (names : Names) (e c a b : TypedExpr) → e.form ≡ form.Choice c a b → (part names e).value ≡ names.at e.ordinal (choice_step (names.form e.ty))
unfolding choice_part
choice_value names e c a b is = ap value_in (as_form names e (form.Choice c a b) _ is (of_Choice names c a b)) ∙ choice_value_of names (names.form e.ty) _ _ _ _

pub compound_value : (names : Names) (e a b : TypedExpr) (op : Op) (t : ℕ) → e.form ≡ form.Compound op a b t → (part names e).value ≡ names.at e.ordinal (compound_step a.ty t)
unfolding compound_part
compound_value names e a b op t is = ap value_in (as_form names e (form.Compound op a b t) _ is (of_Compound names op a b t)) ∙
    of_sides value_in (nat_eq (part names a).node.type t) _ _ (names.at e.ordinal 1) (names.at e.ordinal 3) refl refl ∙
    of_choice (names.at e.ordinal) (nat_eq (part names a).node.type t) 1 3 ∙ ap (λ n. names.at e.ordinal (compound_step n t)) (type_of names a)

-- what `++` and `--` give, where the value was read before
pub read_value : (names : Names) (e a : TypedExpr) (operator : StepOperator) (t : ℕ) → e.form ≡ form.Step operator After a t → (part names e).value ≡ names.at e.ordinal 0
unfolding step_part
read_value names e a operator t is = ap value_in (as_form names e (form.Step operator After a t) _ is (of_Step names operator After a t)) ∙
    both (nat_eq (part names a).node.type t) _ _ _ (both (is_pointer (names.form t) || nat_eq t (kind_id IntKind)) _ _ _ refl refl) refl
  where
    both : (test : Bool) (x y : Part) (n : ℕ) → x.value ≡ n → y.value ≡ n → value_in (if test then x else y) ≡ n
    both true x y n left right = left
    both false x y n left right = right

-- a place of pointers or of int
abbrev is_plain : Names → ℕ → Bool
is_plain names t = is_pointer (names.form t) || nat_eq t (kind_id IntKind)

-- and where it is that which is written
pub written_value : (names : Names) (e a : TypedExpr) (operator : StepOperator) (t : ℕ) → e.form ≡ form.Step operator Before a t →
    (part names e).value ≡ names.at e.ordinal (written_step (names.form t) a.ty t)
unfolding step_part
written_value names e a operator t is = ap value_in (as_form names e (form.Step operator Before a t) _ is (of_Step names operator Before a t)) ∙
    of_sides value_in (nat_eq (part names a).node.type t) _ _ (if is_plain names t then names.at e.ordinal 2 else names.at e.ordinal 3) (names.at e.ordinal 4)
    (of_sides value_in (is_plain names t) _ _ (names.at e.ordinal 2) (names.at e.ordinal 3) refl refl) refl ∙
    ap (λ n. if nat_eq (part names a).node.type t then n else names.at e.ordinal 4) (of_choice (names.at e.ordinal) (is_plain names t) 2 3) ∙
    of_choice (names.at e.ordinal) (nat_eq (part names a).node.type t) (if is_plain names t then 2 else 3) 4 ∙
    ap (λ n. names.at e.ordinal (written_step (names.form t) n t)) (type_of names a)

module _ (names : Names) (node : Node) where
  in_library : (x : LibraryCall-F Called (Node → Part) (Node → Part) Part) → (of_library names x node).value ≡ names.at node.ordinal 0
  in_library (LibraryCall-F.Create id entity argument) = refl
  in_library (LibraryCall-F.Join a) = refl
  in_library (LibraryCall-F.Detach a) = refl
  in_library (LibraryCall-F.ExitThread a) = refl
  in_library LibraryCall-F.SelfId = refl
  in_library (LibraryCall-F.Equal a b) = refl
  in_library (LibraryCall-F.Init a) = refl
  in_library (LibraryCall-F.Destroy a) = refl
  in_library (LibraryCall-F.Lock a) = refl
  in_library (LibraryCall-F.Unlock a) = refl
  in_library (LibraryCall-F.Signal a) = refl
  in_library (LibraryCall-F.Wait cond mutex) = refl
  in_library (LibraryCall-F.Allocate t count zeroed) = refl
  in_library (LibraryCall-F.Free a) = refl
  in_library (LibraryCall-F.Exit status) = refl
  in_library (LibraryCall-F.Scan a) = refl
  in_library (LibraryCall-F.Print format args) = refl
  in_library (LibraryCall-F.Compute args) = refl

  pub of_call : (call : LibraryCall) → (library_part names call node).value ≡ names.at node.ordinal 0
  unfolding library_part
  of_call call = ap (λ (f : Node → Part). (f node).value) (fold_out-LibraryCall Called (Node → Part) (Node → Part) Part (of_callee names) (of_form names) (of_library names) (of_expr names) call) ∙ in_library _

  of_called : (callee : Called) (args : List Part) → (call_part names node callee args).value ≡ names.at node.ordinal 0
  of_called (by_name entity) args = refl
  of_called (by_pointer a) args = refl

pub library_value : (names : Names) (e : TypedExpr) (call : LibraryCall) → e.form ≡ form.Library call → (part names e).value ≡ names.at e.ordinal 0
library_value names e call is = ap value_in (as_form names e (form.Library call) _ is (of_Library names call)) ∙ of_call names (node_of e) call

pub call_value : (names : Names) (e : TypedExpr) (callee : Callee) (args : List TypedExpr) → e.form ≡ form.Call callee args → (part names e).value ≡ names.at e.ordinal 0
call_value names e callee args is = ap value_in (as_form names e (form.Call callee args) _ is (of_Call names callee args)) ∙ of_called names (node_of e) _ _
