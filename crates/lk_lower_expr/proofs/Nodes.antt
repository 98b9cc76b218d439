-- The part of an expression stands at the expression's node.
use Rattle.std.proofs.Common.{ap, ◌∙◌, ◌≡◌, refl, ℕ, Bool, true, false, Option, None, Some, List}
use Rattle.std.specs.Prelude.{if◌then◌else◌}
use Rattle.lk_lower_expr.proofs.Forms.{of_expression}
use Rattle.lk_lower_expr.specs.Naming.{node_of}
use Rattle.lk_lower_expr.specs.Expressions.{part, form_part, library_part, of_callee, of_form, of_library, of_expr}
use Rattle.lk_lower_expr.specs.Library.{Called, by_name, by_pointer, call_part}
use Rattle.lk_lower_expr.specs.Names.{Names, Node}
use Rattle.lk_lower_expr.specs.Parts.{Part, paren_of}
use Rattle.lk_lower_expr.specs.Values.{choice_part, choice_of, compound_part, name_of, slot_named, step_part}
use Rattle.lk_typed.specs.declared.expression.Callee.{Callee}
use Rattle.lk_typed.specs.declared.expression.Callee.TheFolds.{fold_out-TypedForm, fold_out-LibraryCall, map-TypedForm, fold-Callee}
use Rattle.lk_typed.specs.declared.expression.Callee.TheOpen.{TypedForm-F, LibraryCall-F}
use Rattle.lk_typed.specs.declared.expression.Storage.{Storage}
use Rattle.lk_typed.specs.declared.expression.TypedExpr.{TypedExpr}
use Rattle.lk_typed.specs.declared.expression.TypedForm.{TypedForm}
use Rattle.lk_typed.specs.declared.library.LibraryCall.{LibraryCall}
use Rattle.lk_types.specs.declared.c_type.CType.{CType}
use Rattle.lk_types.specs.declared.c_type.CType.TheVariants.{Void, Int, ThreadId, Mutex, Cond, Pointer, Array, Struct, Function, Opaque}

abbrev node_in : Part → Node
node_in part = part.node

both : (test : Bool) (x y : Part) (node : Node) → x.node ≡ node → y.node ≡ node → node_in (if test then x else y) ≡ node
both true x y node left right = left
both false x y node left right = right

choice_node : (names : Names) (form : CType) (node : Node) (c a b : Part) → (choice_of names form node c a b).node ≡ node
choice_node names Void node c a b = refl
choice_node names (Int k) node c a b = refl
choice_node names ThreadId node c a b = refl
choice_node names Mutex node c a b = refl
choice_node names Cond node c a b = refl
choice_node names (Pointer t) node c a b = refl
choice_node names (Array t n) node c a b = refl
choice_node names (Struct s) node c a b = refl
choice_node names (Function result params dots) node c a b = refl
choice_node names (Opaque n) node c a b = refl

paren_node : (names : Names) (slot : Option ℕ) (node : Node) (a : Part) → (paren_of names slot node a).node ≡ node
paren_node names None node a = refl
paren_node names (Some slot) node a = refl

name_node : (names : Names) (slot : Option ℕ) (node : Node) (storage : Storage) → (name_of names slot node storage).node ≡ node
name_node names None node storage = refl
name_node names (Some slot) node storage = refl

call_node : (names : Names) (node : Node) (callee : Called) (args : List Part) → (call_part names node callee args).node ≡ node
call_node names node (by_name entity) args = refl
call_node names node (by_pointer a) args = refl

module _ (names : Names) (node : Node) where
  -- each call of the library
  in_library : (x : LibraryCall-F Called (Node → Part) (Node → Part) Part) → (of_library names x node).node ≡ node
  in_library (LibraryCall-F.Create id entity argument) = refl
  in_library (LibraryCall-F.Join a) = refl
  in_library (LibraryCall-F.Detach a) = refl
  in_library (LibraryCall-F.ExitThread a) = refl
  in_library LibraryCall-F.SelfId = refl
  in_library (LibraryCall-F.Equal a b) = refl
  in_library (LibraryCall-F.Init a) = refl
  in_library (LibraryCall-F.Destroy a) = refl
  in_library (LibraryCall-F.Lock a) = refl
  in_library (LibraryCall-F.Unlock a) = refl
  in_library (LibraryCall-F.Signal a) = refl
  in_library (LibraryCall-F.Wait cond mutex) = refl
  in_library (LibraryCall-F.Allocate t count zeroed) = refl
  in_library (LibraryCall-F.Free a) = refl
  in_library (LibraryCall-F.Exit status) = refl
  in_library (LibraryCall-F.Scan a) = refl
  in_library (LibraryCall-F.Print format args) = refl
  in_library (LibraryCall-F.Compute args) = refl

  pub of_call : (call : LibraryCall) → (library_part names call node).node ≡ node
  unfolding library_part
  of_call call = ap (λ (f : Node → Part). (f node).node) (fold_out-LibraryCall Called (Node → Part) (Node → Part) Part (of_callee names) (of_form names) (of_library names) (of_expr names) call) ∙ in_library _

  -- each form, where the calls inside it have their node
  in_form : (x : TypedForm-F Callee TypedForm LibraryCall TypedExpr) → (of_form names (map-TypedForm Callee TypedForm LibraryCall TypedExpr Called (Node → Part) (Node → Part) Part
      (fold-Callee Called (Node → Part) (Node → Part) Part (of_callee names) (of_form names) (of_library names) (of_expr names)) (form_part names) (library_part names) (part names) x) node).node ≡ node
  unfolding choice_part compound_part step_part
  in_form (TypedForm-F.Object storage) = name_node names (slot_named names.slot storage) node storage
  in_form (TypedForm-F.Text bytes) = refl
  in_form (TypedForm-F.Member a k) = refl
  in_form (TypedForm-F.Arrow a k) = refl
  in_form (TypedForm-F.Index a b) = refl
  in_form (TypedForm-F.Indirection a) = refl
  in_form (TypedForm-F.Paren a) = paren_node names (part names a).slot node _
  in_form (TypedForm-F.Number number) = refl
  in_form (TypedForm-F.TypedForm::Function entity) = refl
  in_form (TypedForm-F.Address a) = refl
  in_form (TypedForm-F.Unary op a) = refl
  in_form (TypedForm-F.Binary op a b) = refl
  in_form (TypedForm-F.And a b) = refl
  in_form (TypedForm-F.Or a b) = refl
  in_form (TypedForm-F.Choice c a b) = choice_node names (names.form node.type) node _ _ _
  in_form (TypedForm-F.Comma a b) = refl
  in_form (TypedForm-F.Assign a b) = refl
  in_form (TypedForm-F.Compound op a b t) = both _ _ _ node refl refl
  in_form (TypedForm-F.Step operator change a t) = both _ _ _ node (both _ _ _ node refl refl) refl
  in_form (TypedForm-F.Size count) = refl
  in_form (TypedForm-F.Load a) = refl
  in_form (TypedForm-F.Decay a) = refl
  in_form (TypedForm-F.Convert a) = refl
  in_form (TypedForm-F.Discard a) = refl
  in_form TypedForm-F.Null = refl
  in_form (TypedForm-F.Call callee args) = call_node names node _ _
  in_form (TypedForm-F.Library call) = of_call call
  in_form (TypedForm-F.Extern entity args) = refl

pub stands_at : (names : Names) (e : TypedExpr) → (part names e).node ≡ node_of e
unfolding part form_part library_part
stands_at names e = ap node_in (of_expression names e) ∙
    ap (λ (f : Node → Part). (f (node_of e)).node) (fold_out-TypedForm Called (Node → Part) (Node → Part) Part (of_callee names) (of_form names) (of_library names) (of_expr names) e.form) ∙ in_form names (node_of e) _
