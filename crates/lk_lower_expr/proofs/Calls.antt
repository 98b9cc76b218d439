-- The steps of each call of the library, as equations of the fold over typed trees.
use Rattle.std.proofs.Common.{sym, ap, ◌∙◌, ◌≡◌, ℕ, List, Bool, Option, None, Some}
use Rattle.std.specs.Prelude.{map, []}
use Rattle.std.specs.Option.{option_map}
use Rattle.lk_facts.specs.declared.action.Action.TheVariants as does
use Rattle.lk_lower_expr.specs.Expressions.{part, form_part, library_part, callee_part, of_callee, of_form, of_library, of_expr}
use Rattle.lk_lower_expr.specs.Library as calls
use Rattle.lk_lower_expr.specs.Library.{Called}
use Rattle.lk_lower_expr.specs.Names.{Names, Node}
use Rattle.lk_lower_expr.specs.Parts as parts
use Rattle.lk_lower_expr.specs.Parts.{Part}
use Rattle.lk_typed.specs.declared.expression.Callee.TheFolds.{fold-roll-LibraryCall}
use Rattle.lk_typed.specs.declared.expression.Callee.TheOpen.{LibraryCall-F}
use Rattle.lk_typed.specs.declared.expression.TypedExpr.{TypedExpr}
use Rattle.lk_typed.specs.declared.library.LibraryCall.{LibraryCall}
use Rattle.lk_typed.specs.declared.library.LibraryCall.TheVariants as library

-- a call is put together by its rule
pub as_call : (names : Names) (call c : LibraryCall) (is : Node → Part) (node : Node) → call ≡ c → library_part names c ≡ is → library_part names call node ≡ is node
as_call names call c is node so rolls = ap (λ x. library_part names x node) so ∙ ap (λ (f : Node → Part). f node) rolls

pub of_Create : (names : Names) (id : TypedExpr) (entity : ℕ) (argument : TypedExpr) → library_part names (library.Create id entity argument) ≡ (λ node. calls.create_part names node (part names id) entity (part names argument))
unfolding part form_part library_part callee_part
of_Create names id entity argument = ap (library_part names) (sym (library.rolls-Create id entity argument)) ∙
    fold-roll-LibraryCall Called (Node → Part) (Node → Part) Part (of_callee names) (of_form names) (of_library names) (of_expr names) (LibraryCall-F.Create id entity argument)

pub of_Join : (names : Names) (a : TypedExpr) → library_part names (library.Join a) ≡ (λ node. calls.on_one names node does.Join (part names a))
unfolding part form_part library_part callee_part
of_Join names a = ap (library_part names) (sym (library.rolls-Join a)) ∙
    fold-roll-LibraryCall Called (Node → Part) (Node → Part) Part (of_callee names) (of_form names) (of_library names) (of_expr names) (LibraryCall-F.Join a)

pub of_Detach : (names : Names) (a : TypedExpr) → library_part names (library.Detach a) ≡ (λ node. calls.on_one names node does.Detach (part names a))
unfolding part form_part library_part callee_part
of_Detach names a = ap (library_part names) (sym (library.rolls-Detach a)) ∙
    fold-roll-LibraryCall Called (Node → Part) (Node → Part) Part (of_callee names) (of_form names) (of_library names) (of_expr names) (LibraryCall-F.Detach a)

pub of_Init : (names : Names) (a : TypedExpr) → library_part names (library.Init a) ≡ (λ node. calls.on_one names node does.Init (part names a))
unfolding part form_part library_part callee_part
of_Init names a = ap (library_part names) (sym (library.rolls-Init a)) ∙
    fold-roll-LibraryCall Called (Node → Part) (Node → Part) Part (of_callee names) (of_form names) (of_library names) (of_expr names) (LibraryCall-F.Init a)

pub of_Destroy : (names : Names) (a : TypedExpr) → library_part names (library.Destroy a) ≡ (λ node. calls.on_one names node does.Destroy (part names a))
unfolding part form_part library_part callee_part
of_Destroy names a = ap (library_part names) (sym (library.rolls-Destroy a)) ∙
    fold-roll-LibraryCall Called (Node → Part) (Node → Part) Part (of_callee names) (of_form names) (of_library names) (of_expr names) (LibraryCall-F.Destroy a)

pub of_Lock : (names : Names) (a : TypedExpr) → library_part names (library.Lock a) ≡ (λ node. calls.on_one names node does.Lock (part names a))
unfolding part form_part library_part callee_part
of_Lock names a = ap (library_part names) (sym (library.rolls-Lock a)) ∙
    fold-roll-LibraryCall Called (Node → Part) (Node → Part) Part (of_callee names) (of_form names) (of_library names) (of_expr names) (LibraryCall-F.Lock a)

pub of_Unlock : (names : Names) (a : TypedExpr) → library_part names (library.Unlock a) ≡ (λ node. calls.on_one names node does.Unlock (part names a))
unfolding part form_part library_part callee_part
of_Unlock names a = ap (library_part names) (sym (library.rolls-Unlock a)) ∙
    fold-roll-LibraryCall Called (Node → Part) (Node → Part) Part (of_callee names) (of_form names) (of_library names) (of_expr names) (LibraryCall-F.Unlock a)

pub of_Signal : (names : Names) (a : TypedExpr) → library_part names (library.Signal a) ≡ (λ node. calls.on_one names node does.Signal (part names a))
unfolding part form_part library_part callee_part
of_Signal names a = ap (library_part names) (sym (library.rolls-Signal a)) ∙
    fold-roll-LibraryCall Called (Node → Part) (Node → Part) Part (of_callee names) (of_form names) (of_library names) (of_expr names) (LibraryCall-F.Signal a)

pub of_Free : (names : Names) (a : TypedExpr) → library_part names (library.Free a) ≡ (λ node. calls.on_one names node does.Free (part names a))
unfolding part form_part library_part callee_part
of_Free names a = ap (library_part names) (sym (library.rolls-Free a)) ∙
    fold-roll-LibraryCall Called (Node → Part) (Node → Part) Part (of_callee names) (of_form names) (of_library names) (of_expr names) (LibraryCall-F.Free a)

pub of_ExitThread : (names : Names) (a : TypedExpr) → library_part names (library.ExitThread a) ≡ (λ node. calls.exit_thread_part names node (part names a))
unfolding part form_part library_part callee_part
of_ExitThread names a = ap (library_part names) (sym (library.rolls-ExitThread a)) ∙
    fold-roll-LibraryCall Called (Node → Part) (Node → Part) Part (of_callee names) (of_form names) (of_library names) (of_expr names) (LibraryCall-F.ExitThread a)

pub of_SelfId : (names : Names) → library_part names library.SelfId ≡ (λ node. parts.then_one names node [] does.SelfId (parts.value_of names node.type))
unfolding part form_part library_part callee_part
of_SelfId names = ap (library_part names) (sym library.rolls-SelfId) ∙
    fold-roll-LibraryCall Called (Node → Part) (Node → Part) Part (of_callee names) (of_form names) (of_library names) (of_expr names) LibraryCall-F.SelfId

pub of_Equal : (names : Names) (a : TypedExpr) (b : TypedExpr) → library_part names (library.Equal a b) ≡ (λ node. calls.equal_part names node (part names a) (part names b))
unfolding part form_part library_part callee_part
of_Equal names a b = ap (library_part names) (sym (library.rolls-Equal a b)) ∙
    fold-roll-LibraryCall Called (Node → Part) (Node → Part) Part (of_callee names) (of_form names) (of_library names) (of_expr names) (LibraryCall-F.Equal a b)

pub of_Wait : (names : Names) (cond : TypedExpr) (mutex : TypedExpr) → library_part names (library.Wait cond mutex) ≡ (λ node. calls.wait_part names node (part names cond) (part names mutex))
unfolding part form_part library_part callee_part
of_Wait names cond mutex = ap (library_part names) (sym (library.rolls-Wait cond mutex)) ∙
    fold-roll-LibraryCall Called (Node → Part) (Node → Part) Part (of_callee names) (of_form names) (of_library names) (of_expr names) (LibraryCall-F.Wait cond mutex)

pub of_Allocate : (names : Names) (t : ℕ) (count : Option TypedExpr) (zeroed : Bool) → library_part names (library.Allocate t count zeroed) ≡ (λ node. calls.allocate_part names node t (option_map (part names) count) zeroed)
unfolding part form_part library_part callee_part
of_Allocate names t None zeroed = ap (library_part names) (sym (library.rolls-Allocate t None zeroed)) ∙
    fold-roll-LibraryCall Called (Node → Part) (Node → Part) Part (of_callee names) (of_form names) (of_library names) (of_expr names) (LibraryCall-F.Allocate t None zeroed)
of_Allocate names t (Some count) zeroed = ap (library_part names) (sym (library.rolls-Allocate t (Some count) zeroed)) ∙
    fold-roll-LibraryCall Called (Node → Part) (Node → Part) Part (of_callee names) (of_form names) (of_library names) (of_expr names) (LibraryCall-F.Allocate t (Some count) zeroed)

pub of_Exit : (names : Names) (status : Option TypedExpr) → library_part names (library.Exit status) ≡ (λ node. calls.exit_part names node (option_map (part names) status))
unfolding part form_part library_part callee_part
of_Exit names None = ap (library_part names) (sym (library.rolls-Exit None)) ∙
    fold-roll-LibraryCall Called (Node → Part) (Node → Part) Part (of_callee names) (of_form names) (of_library names) (of_expr names) (LibraryCall-F.Exit None)
of_Exit names (Some status) = ap (library_part names) (sym (library.rolls-Exit (Some status))) ∙
    fold-roll-LibraryCall Called (Node → Part) (Node → Part) Part (of_callee names) (of_form names) (of_library names) (of_expr names) (LibraryCall-F.Exit (Some status))

pub of_Scan : (names : Names) (a : TypedExpr) → library_part names (library.Scan a) ≡ (λ node. calls.scan_part names node (part names a))
unfolding part form_part library_part callee_part
of_Scan names a = ap (library_part names) (sym (library.rolls-Scan a)) ∙
    fold-roll-LibraryCall Called (Node → Part) (Node → Part) Part (of_callee names) (of_form names) (of_library names) (of_expr names) (LibraryCall-F.Scan a)

pub of_Print : (names : Names) (format : TypedExpr) (args : List TypedExpr) → library_part names (library.Print format args) ≡ (λ node. calls.print_part names node (part names format) (map (part names) args))
unfolding part form_part library_part callee_part
of_Print names format args = ap (library_part names) (sym (library.rolls-Print format args)) ∙
    fold-roll-LibraryCall Called (Node → Part) (Node → Part) Part (of_callee names) (of_form names) (of_library names) (of_expr names) (LibraryCall-F.Print format args)

pub of_Compute : (names : Names) (args : List TypedExpr) → library_part names (library.Compute args) ≡ (λ node. calls.compute_part names node (map (part names) args))
unfolding part form_part library_part callee_part
of_Compute names args = ap (library_part names) (sym (library.rolls-Compute args)) ∙
    fold-roll-LibraryCall Called (Node → Part) (Node → Part) Part (of_callee names) (of_form names) (of_library names) (of_expr names) (LibraryCall-F.Compute args)
