-- The steps of an expression: each form by its rule.
use Rattle.std.specs.Prelude.{pos, []}
use Rattle.lk_facts.specs.declared.action.Action.TheVariants as does
use Rattle.lk_lower_expr.specs.Library as calls
use Rattle.lk_lower_expr.specs.Library.{Called, by_name, by_pointer}
use Rattle.lk_lower_expr.specs.Names.{Names, Node}
use Rattle.lk_lower_expr.specs.Parts as parts
use Rattle.lk_lower_expr.specs.Parts.{Part}
use Rattle.lk_lower_expr.specs.Values as rules
use Rattle.lk_typed.specs.declared.expression.Callee.{Callee}
use Rattle.lk_typed.specs.declared.expression.Callee.TheFolds.{fold-TypedExpr, fold-TypedForm, fold-LibraryCall, fold-Callee}
use Rattle.lk_typed.specs.declared.expression.Callee.TheOpen.{Callee-F, TypedForm-F, LibraryCall-F, TypedExpr-F}
use Rattle.lk_typed.specs.declared.expression.TypedExpr.{TypedExpr}
use Rattle.lk_typed.specs.declared.expression.TypedForm.{TypedForm}
use Rattle.lk_typed.specs.declared.library.LibraryCall.{LibraryCall}

module _ (names : Names) where
  abbrev pub of_callee : Callee-F Called (Node → Part) (Node → Part) Part → Called
  of_callee (Callee-F.Callee::Function entity) = by_name entity
  of_callee (Callee-F.Pointer a) = by_pointer a

  abbrev pub of_library : LibraryCall-F Called (Node → Part) (Node → Part) Part → Node → Part
  of_library (LibraryCall-F.Create id entity argument) node = calls.create_part names node id entity argument
  of_library (LibraryCall-F.Join a) node = calls.on_one names node does.Join a
  of_library (LibraryCall-F.Detach a) node = calls.on_one names node does.Detach a
  of_library (LibraryCall-F.ExitThread a) node = calls.exit_thread_part names node a
  of_library LibraryCall-F.SelfId node =
      parts.then_one names node [] does.SelfId (parts.value_of names node.type)
  of_library (LibraryCall-F.Equal a b) node = calls.equal_part names node a b
  of_library (LibraryCall-F.Init a) node = calls.on_one names node does.Init a
  of_library (LibraryCall-F.Destroy a) node = calls.on_one names node does.Destroy a
  of_library (LibraryCall-F.Lock a) node = calls.on_one names node does.Lock a
  of_library (LibraryCall-F.Unlock a) node = calls.on_one names node does.Unlock a
  of_library (LibraryCall-F.Signal a) node = calls.on_one names node does.Signal a
  of_library (LibraryCall-F.Wait cond mutex) node = calls.wait_part names node cond mutex
  of_library (LibraryCall-F.Allocate t count zeroed) node = calls.allocate_part names node t count zeroed
  of_library (LibraryCall-F.Free a) node = calls.on_one names node does.Free a
  of_library (LibraryCall-F.Exit status) node = calls.exit_part names node status
  of_library (LibraryCall-F.Scan a) node = calls.scan_part names node a
  of_library (LibraryCall-F.Print format args) node = calls.print_part names node format args
  of_library (LibraryCall-F.Compute args) node = calls.compute_part names node args

  abbrev pub of_form : TypedForm-F Called (Node → Part) (Node → Part) Part → Node → Part
  of_form (TypedForm-F.Object storage) node = rules.name_part names node storage
  of_form (TypedForm-F.Text bytes) node = rules.text_part names node
  of_form (TypedForm-F.Member a k) node = rules.member_part names node a k
  of_form (TypedForm-F.Arrow a k) node = rules.member_part names node a k
  of_form (TypedForm-F.Index a b) node = rules.index_part names node a b
  of_form (TypedForm-F.Indirection a) node = parts.stands_for names node a
  of_form (TypedForm-F.Paren a) node = parts.paren_of names a.slot node a
  of_form (TypedForm-F.Number number) node = rules.number_part names node number
  of_form (TypedForm-F.TypedForm::Function entity) node = rules.function_part names node entity
  of_form (TypedForm-F.Address a) node = parts.stands_for names node a
  of_form (TypedForm-F.Unary op a) node = rules.unary_part names node op a
  of_form (TypedForm-F.Binary op a b) node = rules.binary_part names node op a b
  of_form (TypedForm-F.And a b) node = rules.and_part names node a b
  of_form (TypedForm-F.Or a b) node = rules.or_part names node a b
  of_form (TypedForm-F.Choice c a b) node = rules.choice_part names node c a b
  of_form (TypedForm-F.Comma a b) node = rules.comma_part names node a b
  of_form (TypedForm-F.Assign a b) node = rules.assign_part names node a b
  of_form (TypedForm-F.Compound op a b t) node = rules.compound_part names node op a b t
  of_form (TypedForm-F.Step operator change a t) node = rules.step_part names node operator change a t
  of_form (TypedForm-F.Call callee args) node = calls.call_part names node callee args
  of_form (TypedForm-F.Library call) node = call node
  of_form (TypedForm-F.Extern entity args) node = calls.extern_part names node entity args
  of_form (TypedForm-F.Size count) node = rules.number_part names node (pos count)
  of_form (TypedForm-F.Load a) node = rules.load_part names node a
  of_form (TypedForm-F.Decay a) node = rules.decay_part names node a
  of_form (TypedForm-F.Convert a) node = rules.convert_part names node a
  of_form (TypedForm-F.Discard a) node = parts.stands_for names node a
  of_form TypedForm-F.Null node = rules.null_part names node

  abbrev pub of_expr : TypedExpr-F Called (Node → Part) (Node → Part) Part → Part
  of_expr e = e.form (record { ordinal = e.ordinal; spot = e.spot; type = e.ty })

  unfoldable pub part : TypedExpr → Part
  part = fold-TypedExpr Called (Node → Part) (Node → Part) Part of_callee of_form of_library of_expr

  -- the same of a form, by its node
  unfoldable pub form_part : TypedForm → Node → Part
  form_part = fold-TypedForm Called (Node → Part) (Node → Part) Part of_callee of_form of_library of_expr

  -- and of a call of the library
  unfoldable pub library_part : LibraryCall → Node → Part
  library_part = fold-LibraryCall Called (Node → Part) (Node → Part) Part of_callee of_form of_library of_expr

  -- and of what is called
  unfoldable pub callee_part : Callee → Called
  callee_part = fold-Callee Called (Node → Part) (Node → Part) Part of_callee of_form of_library of_expr
