-- The steps of each form of expression, as equations of the fold over typed trees.
use Rattle.std.proofs.Common.{sym, ap, ◌∙◌, ◌≡◌, ℕ, ℤ, List}
use Rattle.std.specs.Prelude.{pos, map}
use Rattle.lk_arith.specs.declared.operators.Op.{Op}
use Rattle.lk_arith.specs.declared.operators.UnaryOp.{UnaryOp}
use Rattle.lk_lower_expr.specs.Expressions.{part, form_part, library_part, callee_part, of_callee, of_form, of_library, of_expr}
use Rattle.lk_lower_expr.specs.Library.{Called, call_part, extern_part}
use Rattle.lk_lower_expr.specs.Names.{Names, Node}
use Rattle.lk_lower_expr.specs.Naming.{node_of}
use Rattle.lk_lower_expr.specs.Parts as parts
use Rattle.lk_lower_expr.specs.Parts.{Part}
use Rattle.lk_lower_expr.specs.Values as rules
use Rattle.lk_tree.specs.declared.operators.StepOperator.{StepOperator}
use Rattle.lk_typed.specs.declared.expression.Callee.{Callee}
use Rattle.lk_typed.specs.declared.expression.Callee.TheFolds.{fold-roll-TypedForm, fold_out-TypedExpr}
use Rattle.lk_typed.specs.declared.expression.Callee.TheOpen.{TypedForm-F}
use Rattle.lk_typed.specs.declared.expression.Change.{Change}
use Rattle.lk_typed.specs.declared.expression.Storage.{Storage}
use Rattle.lk_typed.specs.declared.expression.TypedExpr.{TypedExpr}
use Rattle.lk_typed.specs.declared.expression.TypedForm.{TypedForm}
use Rattle.lk_typed.specs.declared.expression.TypedForm.TheVariants as form
use Rattle.lk_typed.specs.declared.library.LibraryCall.{LibraryCall}

pub of_expression : (names : Names) (e : TypedExpr) → part names e ≡ form_part names e.form (node_of e)
unfolding part form_part
of_expression names e = fold_out-TypedExpr Called (Node → Part) (Node → Part) Part (of_callee names) (of_form names) (of_library names) (of_expr names) e

-- an expression of a form has the steps of that form
pub as_form : (names : Names) (e : TypedExpr) (f : TypedForm) (is : Node → Part) → e.form ≡ f → form_part names f ≡ is → part names e ≡ is (node_of e)
as_form names e f is so rolls = of_expression names e ∙ ap (λ g. form_part names g (node_of e)) so ∙ ap (λ (g : Node → Part). g (node_of e)) rolls

pub of_Object : (names : Names) (storage : Storage) → form_part names (form.Object storage) ≡ (λ node. rules.name_part names node storage)
unfolding part form_part library_part callee_part
of_Object names storage = ap (form_part names) (sym (form.rolls-Object storage)) ∙ fold-roll-TypedForm Called (Node → Part) (Node → Part) Part (of_callee names) (of_form names) (of_library names) (of_expr names) (TypedForm-F.Object storage)

pub of_Text : (names : Names) (bytes : List ℕ) → form_part names (form.Text bytes) ≡ (λ node. rules.text_part names node)
unfolding part form_part library_part callee_part
of_Text names bytes = ap (form_part names) (sym (form.rolls-Text bytes)) ∙ fold-roll-TypedForm Called (Node → Part) (Node → Part) Part (of_callee names) (of_form names) (of_library names) (of_expr names) (TypedForm-F.Text bytes)

pub of_Member : (names : Names) (a : TypedExpr) (k : ℕ) → form_part names (form.Member a k) ≡ (λ node. rules.member_part names node (part names a) k)
unfolding part form_part library_part callee_part
of_Member names a k = ap (form_part names) (sym (form.rolls-Member a k)) ∙ fold-roll-TypedForm Called (Node → Part) (Node → Part) Part (of_callee names) (of_form names) (of_library names) (of_expr names) (TypedForm-F.Member a k)

pub of_Arrow : (names : Names) (a : TypedExpr) (k : ℕ) → form_part names (form.Arrow a k) ≡ (λ node. rules.member_part names node (part names a) k)
unfolding part form_part library_part callee_part
of_Arrow names a k = ap (form_part names) (sym (form.rolls-Arrow a k)) ∙ fold-roll-TypedForm Called (Node → Part) (Node → Part) Part (of_callee names) (of_form names) (of_library names) (of_expr names) (TypedForm-F.Arrow a k)

pub of_Index : (names : Names) (a : TypedExpr) (b : TypedExpr) → form_part names (form.Index a b) ≡ (λ node. rules.index_part names node (part names a) (part names b))
unfolding part form_part library_part callee_part
of_Index names a b = ap (form_part names) (sym (form.rolls-Index a b)) ∙ fold-roll-TypedForm Called (Node → Part) (Node → Part) Part (of_callee names) (of_form names) (of_library names) (of_expr names) (TypedForm-F.Index a b)

pub of_Indirection : (names : Names) (a : TypedExpr) → form_part names (form.Indirection a) ≡ (λ node. parts.stands_for names node (part names a))
unfolding part form_part library_part callee_part
of_Indirection names a = ap (form_part names) (sym (form.rolls-Indirection a)) ∙ fold-roll-TypedForm Called (Node → Part) (Node → Part) Part (of_callee names) (of_form names) (of_library names) (of_expr names) (TypedForm-F.Indirection a)

pub of_Paren : (names : Names) (a : TypedExpr) → form_part names (form.Paren a) ≡ (λ node. parts.paren_of names (part names a).slot node (part names a))
unfolding part form_part library_part callee_part
of_Paren names a = ap (form_part names) (sym (form.rolls-Paren a)) ∙ fold-roll-TypedForm Called (Node → Part) (Node → Part) Part (of_callee names) (of_form names) (of_library names) (of_expr names) (TypedForm-F.Paren a)

pub of_Number : (names : Names) (number : ℤ) → form_part names (form.Number number) ≡ (λ node. rules.number_part names node number)
unfolding part form_part library_part callee_part
of_Number names number = ap (form_part names) (sym (form.rolls-Number number)) ∙ fold-roll-TypedForm Called (Node → Part) (Node → Part) Part (of_callee names) (of_form names) (of_library names) (of_expr names) (TypedForm-F.Number number)

pub of_Function : (names : Names) (entity : ℕ) → form_part names (form.Function entity) ≡ (λ node. rules.function_part names node entity)
unfolding part form_part library_part callee_part
of_Function names entity = ap (form_part names) (sym (form.rolls-Function entity)) ∙ fold-roll-TypedForm Called (Node → Part) (Node → Part) Part (of_callee names) (of_form names) (of_library names) (of_expr names) (TypedForm-F.TypedForm::Function entity)

pub of_Address : (names : Names) (a : TypedExpr) → form_part names (form.Address a) ≡ (λ node. parts.stands_for names node (part names a))
unfolding part form_part library_part callee_part
of_Address names a = ap (form_part names) (sym (form.rolls-Address a)) ∙ fold-roll-TypedForm Called (Node → Part) (Node → Part) Part (of_callee names) (of_form names) (of_library names) (of_expr names) (TypedForm-F.Address a)

pub of_Unary : (names : Names) (op : UnaryOp) (a : TypedExpr) → form_part names (form.Unary op a) ≡ (λ node. rules.unary_part names node op (part names a))
unfolding part form_part library_part callee_part
of_Unary names op a = ap (form_part names) (sym (form.rolls-Unary op a)) ∙ fold-roll-TypedForm Called (Node → Part) (Node → Part) Part (of_callee names) (of_form names) (of_library names) (of_expr names) (TypedForm-F.Unary op a)

pub of_Binary : (names : Names) (op : Op) (a : TypedExpr) (b : TypedExpr) → form_part names (form.Binary op a b) ≡ (λ node. rules.binary_part names node op (part names a) (part names b))
unfolding part form_part library_part callee_part
of_Binary names op a b = ap (form_part names) (sym (form.rolls-Binary op a b)) ∙ fold-roll-TypedForm Called (Node → Part) (Node → Part) Part (of_callee names) (of_form names) (of_library names) (of_expr names) (TypedForm-F.Binary op a b)

pub of_And : (names : Names) (a : TypedExpr) (b : TypedExpr) → form_part names (form.And a b) ≡ (λ node. rules.and_part names node (part names a) (part names b))
unfolding part form_part library_part callee_part
of_And names a b = ap (form_part names) (sym (form.rolls-And a b)) ∙ fold-roll-TypedForm Called (Node → Part) (Node → Part) Part (of_callee names) (of_form names) (of_library names) (of_expr names) (TypedForm-F.And a b)

pub of_Or : (names : Names) (a : TypedExpr) (b : TypedExpr) → form_part names (form.Or a b) ≡ (λ node. rules.or_part names node (part names a) (part names b))
unfolding part form_part library_part callee_part
of_Or names a b = ap (form_part names) (sym (form.rolls-Or a b)) ∙ fold-roll-TypedForm Called (Node → Part) (Node → Part) Part (of_callee names) (of_form names) (of_library names) (of_expr names) (TypedForm-F.Or a b)

pub of_Choice : (names : Names) (c : TypedExpr) (a : TypedExpr) (b : TypedExpr) → form_part names (form.Choice c a b) ≡ (λ node. rules.choice_part names node (part names c) (part names a) (part names b))
unfolding part form_part library_part callee_part
of_Choice names c a b = ap (form_part names) (sym (form.rolls-Choice c a b)) ∙ fold-roll-TypedForm Called (Node → Part) (Node → Part) Part (of_callee names) (of_form names) (of_library names) (of_expr names) (TypedForm-F.Choice c a b)

pub of_Comma : (names : Names) (a : TypedExpr) (b : TypedExpr) → form_part names (form.Comma a b) ≡ (λ node. rules.comma_part names node (part names a) (part names b))
unfolding part form_part library_part callee_part
of_Comma names a b = ap (form_part names) (sym (form.rolls-Comma a b)) ∙ fold-roll-TypedForm Called (Node → Part) (Node → Part) Part (of_callee names) (of_form names) (of_library names) (of_expr names) (TypedForm-F.Comma a b)

pub of_Assign : (names : Names) (a : TypedExpr) (b : TypedExpr) → form_part names (form.Assign a b) ≡ (λ node. rules.assign_part names node (part names a) (part names b))
unfolding part form_part library_part callee_part
of_Assign names a b = ap (form_part names) (sym (form.rolls-Assign a b)) ∙ fold-roll-TypedForm Called (Node → Part) (Node → Part) Part (of_callee names) (of_form names) (of_library names) (of_expr names) (TypedForm-F.Assign a b)

pub of_Compound : (names : Names) (op : Op) (a : TypedExpr) (b : TypedExpr) (t : ℕ) → form_part names (form.Compound op a b t) ≡ (λ node. rules.compound_part names node op (part names a) (part names b) t)
unfolding part form_part library_part callee_part
of_Compound names op a b t = ap (form_part names) (sym (form.rolls-Compound op a b t)) ∙ fold-roll-TypedForm Called (Node → Part) (Node → Part) Part (of_callee names) (of_form names) (of_library names) (of_expr names) (TypedForm-F.Compound op a b t)

pub of_Step : (names : Names) (operator : StepOperator) (change : Change) (a : TypedExpr) (t : ℕ) → form_part names (form.Step operator change a t) ≡ (λ node. rules.step_part names node operator change (part names a) t)
unfolding part form_part library_part callee_part
of_Step names operator change a t = ap (form_part names) (sym (form.rolls-Step operator change a t)) ∙ fold-roll-TypedForm Called (Node → Part) (Node → Part) Part (of_callee names) (of_form names) (of_library names) (of_expr names) (TypedForm-F.Step operator change a t)

pub of_Call : (names : Names) (callee : Callee) (args : List TypedExpr) → form_part names (form.Call callee args) ≡ (λ node. call_part names node (callee_part names callee) (map (part names) args))
unfolding part form_part library_part callee_part
of_Call names callee args = ap (form_part names) (sym (form.rolls-Call callee args)) ∙ fold-roll-TypedForm Called (Node → Part) (Node → Part) Part (of_callee names) (of_form names) (of_library names) (of_expr names) (TypedForm-F.Call callee args)

pub of_Extern : (names : Names) (entity : ℕ) (args : List TypedExpr) → form_part names (form.Extern entity args) ≡ (λ node. extern_part names node entity (map (part names) args))
unfolding part form_part library_part callee_part
of_Extern names entity args = ap (form_part names) (sym (form.rolls-Extern entity args)) ∙ fold-roll-TypedForm Called (Node → Part) (Node → Part) Part (of_callee names) (of_form names) (of_library names) (of_expr names) (TypedForm-F.Extern entity args)

pub of_Library : (names : Names) (call : LibraryCall) → form_part names (form.Library call) ≡ (λ node. library_part names call node)
unfolding part form_part library_part callee_part
of_Library names call = ap (form_part names) (sym (form.rolls-Library call)) ∙ fold-roll-TypedForm Called (Node → Part) (Node → Part) Part (of_callee names) (of_form names) (of_library names) (of_expr names) (TypedForm-F.Library call)

pub of_Size : (names : Names) (count : ℕ) → form_part names (form.Size count) ≡ (λ node. rules.number_part names node (pos count))
unfolding part form_part library_part callee_part
of_Size names count = ap (form_part names) (sym (form.rolls-Size count)) ∙ fold-roll-TypedForm Called (Node → Part) (Node → Part) Part (of_callee names) (of_form names) (of_library names) (of_expr names) (TypedForm-F.Size count)

pub of_Load : (names : Names) (a : TypedExpr) → form_part names (form.Load a) ≡ (λ node. rules.load_part names node (part names a))
unfolding part form_part library_part callee_part
of_Load names a = ap (form_part names) (sym (form.rolls-Load a)) ∙ fold-roll-TypedForm Called (Node → Part) (Node → Part) Part (of_callee names) (of_form names) (of_library names) (of_expr names) (TypedForm-F.Load a)

pub of_Decay : (names : Names) (a : TypedExpr) → form_part names (form.Decay a) ≡ (λ node. rules.decay_part names node (part names a))
unfolding part form_part library_part callee_part
of_Decay names a = ap (form_part names) (sym (form.rolls-Decay a)) ∙ fold-roll-TypedForm Called (Node → Part) (Node → Part) Part (of_callee names) (of_form names) (of_library names) (of_expr names) (TypedForm-F.Decay a)

pub of_Convert : (names : Names) (a : TypedExpr) → form_part names (form.Convert a) ≡ (λ node. rules.convert_part names node (part names a))
unfolding part form_part library_part callee_part
of_Convert names a = ap (form_part names) (sym (form.rolls-Convert a)) ∙ fold-roll-TypedForm Called (Node → Part) (Node → Part) Part (of_callee names) (of_form names) (of_library names) (of_expr names) (TypedForm-F.Convert a)

pub of_Discard : (names : Names) (a : TypedExpr) → form_part names (form.Discard a) ≡ (λ node. parts.stands_for names node (part names a))
unfolding part form_part library_part callee_part
of_Discard names a = ap (form_part names) (sym (form.rolls-Discard a)) ∙ fold-roll-TypedForm Called (Node → Part) (Node → Part) Part (of_callee names) (of_form names) (of_library names) (of_expr names) (TypedForm-F.Discard a)

pub of_Null : (names : Names) → form_part names form.Null ≡ (λ node. rules.null_part names node)
unfolding part form_part library_part callee_part
of_Null names = ap (form_part names) (sym form.rolls-Null) ∙ fold-roll-TypedForm Called (Node → Part) (Node → Part) Part (of_callee names) (of_form names) (of_library names) (of_expr names) TypedForm-F.Null
