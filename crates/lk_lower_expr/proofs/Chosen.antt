-- What the rules have in common that choose among several.
use Rattle.std.proofs.Common.{arith, ◌+◌, sym, ap, ◌∙◌, ◌≡◌, ℕ, Bool, true, false, ◌||◌, Option, None, nat_eq, refl}
use Rattle.std.specs.Prelude.{if◌then◌else◌, length, map, suc, List, [], ◌∷◌}
use Rattle.lk_lower_expr.specs.Library.{texts_of, is_text}
use Rattle.lk_lower_expr.specs.Naming.{names_of}
use Rattle.lk_lower_expr.specs.declared.names.SourceNames.{SourceNames}
use Rattle.lk_types.specs.Table.{Table, type_at}
use Rattle.lk_arith.specs.declared.operators.Op.{Op}
use Rattle.lk_lower_expr.specs.Names.{Names, Node}
use Rattle.lk_lower_expr.specs.Parts.{Part}
use Rattle.lk_lower_expr.specs.Values.{choice_part, choice_of, compound_part, step_part, is_pointer}
use Rattle.lk_types.specs.Predeclared.{kind_id}
use Rattle.lk_tree.specs.declared.operators.StepOperator.{StepOperator}
use Rattle.lk_typed.specs.declared.expression.Change.{Change}
use Rattle.lk_base.specs.declared.kind.Kind.TheVariants.{Int as IntKind}
use Rattle.lk_lower_expr.specs.Counts.{text_count, choice_count, compound_count, step_count}
use Rattle.lk_lower_expr.specs.Expressions.{part, library_part}
use Rattle.lk_lower_expr.proofs.Forms.{as_form, of_Choice, of_Compound, of_Step, of_Library}
use Rattle.lk_lower_expr.proofs.Calls.{of_Print}
use Rattle.lk_lower_expr.proofs.Nodes.{stands_at}
use Rattle.lk_lower_expr.specs.Naming.{node_of}
use Rattle.lk_typed.specs.declared.library.LibraryCall.{LibraryCall}
use Rattle.lk_typed.specs.declared.library.LibraryCall.TheVariants as library
use Rattle.lk_typed.specs.declared.expression.TypedExpr.{TypedExpr}
use Rattle.lk_typed.specs.declared.expression.TypedForm.TheVariants as form
use Rattle.lk_types.specs.declared.c_type.CType.{CType}
use Rattle.lk_types.specs.declared.c_type.CType.TheVariants.{Void, Int, ThreadId, Mutex, Cond, Pointer, Array, Struct, Function, Opaque}

abbrev slot_in : Part → Option ℕ
slot_in part = part.slot

-- what holds of both sides of a choice holds of the choice
pub of_both : {A B : Type 0} (f : A → B) (b : B) (test : Bool) (x y : A) → f x ≡ b → f y ≡ b → f (if test then x else y) ≡ b
of_both f b true x y left right = left
of_both f b false x y left right = right

pub choice_slot_of : (names : Names) (form : CType) (node : Node) (c a b : Part) → (choice_of names form node c a b).slot ≡ None
choice_slot_of names Void node c a b = refl
choice_slot_of names (Int k) node c a b = refl
choice_slot_of names ThreadId node c a b = refl
choice_slot_of names Mutex node c a b = refl
choice_slot_of names Cond node c a b = refl
choice_slot_of names (Pointer t) node c a b = refl
choice_slot_of names (Array t n) node c a b = refl
choice_slot_of names (Struct s) node c a b = refl
choice_slot_of names (Function result params dots) node c a b = refl
choice_slot_of names (Opaque n) node c a b = refl

pub choice_slot : (names : Names) (node : Node) (c a b : Part) → (choice_part names node c a b).slot ≡ None
unfolding choice_part
choice_slot names node c a b = choice_slot_of names (names.form node.type) node c a b

pub compound_slot : (names : Names) (node : Node) (op : Op) (a b : Part) (t : ℕ) → (compound_part names node op a b t).slot ≡ None
unfolding compound_part
compound_slot names node op a b t = of_both slot_in None (nat_eq a.node.type t) _ _ refl refl

pub step_slot : (names : Names) (node : Node) (operator : StepOperator) (change : Change) (a : Part) (t : ℕ) → (step_part names node operator change a t).slot ≡ None
unfolding step_part
step_slot names node operator change a t = of_both slot_in None (nat_eq a.node.type t) _ _ (of_both slot_in None _ _ _ refl refl) refl

pub choice_at : (names : Names) (e c a b : TypedExpr) → e.form ≡ form.Choice c a b → None ≡ (part names e).slot
choice_at names e c a b is = sym (ap slot_in (as_form names e (form.Choice c a b) _ is (of_Choice names c a b)) ∙ choice_slot names _ _ _ _)

pub compound_at : (names : Names) (e a b : TypedExpr) (op : Op) (t : ℕ) → e.form ≡ form.Compound op a b t → None ≡ (part names e).slot
compound_at names e a b op t is = sym (ap slot_in (as_form names e (form.Compound op a b t) _ is (of_Compound names op a b t)) ∙ compound_slot names _ _ _ _ _)

pub step_at : (names : Names) (e a : TypedExpr) (operator : StepOperator) (change : Change) (t : ℕ) → e.form ≡ form.Step operator change a t → None ≡ (part names e).slot
step_at names e a operator change t is = sym (ap slot_in (as_form names e (form.Step operator change a t) _ is (of_Step names operator change a t)) ∙ step_slot names _ _ _ _ _)

-- ---- how many steps such a node has

abbrev count_in : Part → ℕ
count_in part = part.count

pub choice_counts_of : (names : Names) (form : CType) (node : Node) (c a b : Part) → (choice_of names form node c a b).count ≡ choice_count form
choice_counts_of names Void node c a b = refl
choice_counts_of names (Int k) node c a b = refl
choice_counts_of names ThreadId node c a b = refl
choice_counts_of names Mutex node c a b = refl
choice_counts_of names Cond node c a b = refl
choice_counts_of names (Pointer t) node c a b = refl
choice_counts_of names (Array t n) node c a b = refl
choice_counts_of names (Struct s) node c a b = refl
choice_counts_of names (Function result params dots) node c a b = refl
choice_counts_of names (Opaque n) node c a b = refl

-- what holds on each side of a choice holds of the choice
pub of_sides : {A B : Type 0} (f : A → B) (test : Bool) (x y : A) (b c : B) → f x ≡ b → f y ≡ c → f (if test then x else y) ≡ (if test then b else c)
of_sides f true x y b c left right = left
of_sides f false x y b c left right = right

-- the part of an expression has the type of its node
pub type_of : (names : Names) (e : TypedExpr) → (part names e).node.type ≡ e.ty
type_of names e = ap (λ (n : Node). n.type) (stands_at names e)

pub library_counts : (names : Names) (e : TypedExpr) (call : LibraryCall) → e.form ≡ form.Library call → (part names e).count ≡ (library_part names call (node_of e)).count
library_counts names e call is = ap count_in (as_form names e (form.Library call) _ is (of_Library names call))

pub choice_counts : (names : Names) (e c a b : TypedExpr) → e.form ≡ form.Choice c a b → (part names e).count ≡ choice_count (names.form e.ty)
unfolding choice_part
choice_counts names e c a b is = ap count_in (as_form names e (form.Choice c a b) _ is (of_Choice names c a b)) ∙ choice_counts_of names (names.form e.ty) _ _ _ _

pub compound_counts : (names : Names) (e a b : TypedExpr) (op : Op) (t : ℕ) → e.form ≡ form.Compound op a b t → (part names e).count ≡ compound_count a.ty t
unfolding compound_part
compound_counts names e a b op t is = ap count_in (as_form names e (form.Compound op a b t) _ is (of_Compound names op a b t)) ∙
    of_sides count_in (nat_eq (part names a).node.type t) _ _ 3 5 refl refl ∙ ap (λ n. compound_count n t) (type_of names a)

pub step_counts : (names : Names) (e a : TypedExpr) (operator : StepOperator) (change : Change) (t : ℕ) → e.form ≡ form.Step operator change a t →
    (part names e).count ≡ step_count (names.form t) a.ty t
unfolding step_part
step_counts names e a operator change t is = ap count_in (as_form names e (form.Step operator change a t) _ is (of_Step names operator change a t)) ∙
    of_sides count_in (nat_eq (part names a).node.type t) _ _ (if (is_pointer (names.form t) || nat_eq t (kind_id IntKind)) then 4 else 5) 6
    (of_sides count_in (is_pointer (names.form t) || nat_eq t (kind_id IntKind)) _ _ 4 5 refl refl) refl ∙ ap (λ n. step_count (names.form t) n t) (type_of names a)

-- ---- the operands of `printf`

count_of_both : (test : Bool) (x : Part) (xs : List Part) → length (if test then x ∷ xs else xs) ≡ (if test then suc (length xs) else length xs)
count_of_both true x xs = refl
count_of_both false x xs = refl

pub texts_counted : (table : Table) (source : SourceNames) (es : List TypedExpr) →
    length (texts_of (names_of table source) (map (part (names_of table source)) es)) ≡ text_count table es
texts_counted table source [] = refl
texts_counted table source (e ∷ es) =
    count_of_both (is_text (type_at table (part (names_of table source) e).node.type)) _ _ ∙
    ap (λ t. if is_text (type_at table t) then suc (length (texts_of (names_of table source) (map (part (names_of table source)) es)))
    else length (texts_of (names_of table source) (map (part (names_of table source)) es))) (type_of (names_of table source) e) ∙
    ap (λ n. if is_text (type_at table e.ty) then suc n else n) (texts_counted table source es)

pub print_counts : (table : Table) (source : SourceNames) (call : LibraryCall) (format : TypedExpr) (args : List TypedExpr) (node : Node) → call ≡ library.Print format args →
    text_count table args + 1 ≡ (library_part (names_of table source) call node).count
print_counts table source call format args node is = sym (ap (λ c. (library_part (names_of table source) c node).count) is ∙
    ap (λ (f : Node → Part). (f node).count) (of_Print (names_of table source) format args) ∙ ap suc (texts_counted table source args) ∙ one_more (text_count table args))
  where
    one_more : (n : ℕ) → suc n ≡ n + 1
    one_more n = omega arith
