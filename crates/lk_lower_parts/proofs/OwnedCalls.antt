-- What the nodes of each call of the library have of their own, as equations of the fold over typed trees.
use Rattle.std.proofs.Common.{sym, ap, ◌∙◌, ◌≡◌, ◌++◌, ℕ, List, Bool, Option, None, Some}
use Rattle.std.specs.Prelude.{map, [], ◌∷◌}
use Rattle.std.specs.Option.{option_map}
use Rattle.lk_lower_expr.specs.Names.{Node}
use Rattle.lk_lower_expr.specs.Owned.{Owned, allocation, all_of, of_optional, is_one, of_callee, of_form, of_library, of_expr, owned}
use Rattle.lk_lower_parts.specs.Found.{callee_owned, library_owned, owned_form}
use Rattle.lk_typed.specs.declared.expression.Callee.TheFolds.{fold-roll-LibraryCall}
use Rattle.lk_typed.specs.declared.expression.Callee.TheOpen.{LibraryCall-F}
use Rattle.lk_typed.specs.declared.expression.TypedExpr.{TypedExpr}
use Rattle.lk_typed.specs.declared.library.LibraryCall.{LibraryCall}
use Rattle.lk_typed.specs.declared.library.LibraryCall.TheVariants as library
use Rattle.lk_types.specs.declared.c_type.CType.{CType}

module _ (form : ℕ → CType) where
  -- a call has what its rule says
  pub as_call : (call c : LibraryCall) (is : Node → List Owned) (node : Node) → call ≡ c → library_owned form c ≡ is → library_owned form call node ≡ is node
  as_call call c is node so rolls = ap (λ x. library_owned form x node) so ∙ ap (λ (f : Node → List Owned). f node) rolls

  pub of_Create : (id : TypedExpr) (entity : ℕ) (argument : TypedExpr) → library_owned form (library.Create id entity argument) ≡ (λ node. owned form id ++ owned form argument)
  unfolding owned owned_form library_owned callee_owned
  of_Create id entity argument = ap (library_owned form) (sym (library.rolls-Create id entity argument)) ∙ fold-roll-LibraryCall (List Owned) (Node → List Owned) (Node → List Owned) (List Owned) (of_callee form) (of_form form) (of_library form) (of_expr form) (LibraryCall-F.Create id entity argument)

  pub of_Join : (a : TypedExpr) → library_owned form (library.Join a) ≡ (λ node. owned form a)
  unfolding owned owned_form library_owned callee_owned
  of_Join a = ap (library_owned form) (sym (library.rolls-Join a)) ∙ fold-roll-LibraryCall (List Owned) (Node → List Owned) (Node → List Owned) (List Owned) (of_callee form) (of_form form) (of_library form) (of_expr form) (LibraryCall-F.Join a)

  pub of_Detach : (a : TypedExpr) → library_owned form (library.Detach a) ≡ (λ node. owned form a)
  unfolding owned owned_form library_owned callee_owned
  of_Detach a = ap (library_owned form) (sym (library.rolls-Detach a)) ∙ fold-roll-LibraryCall (List Owned) (Node → List Owned) (Node → List Owned) (List Owned) (of_callee form) (of_form form) (of_library form) (of_expr form) (LibraryCall-F.Detach a)

  pub of_ExitThread : (a : TypedExpr) → library_owned form (library.ExitThread a) ≡ (λ node. owned form a)
  unfolding owned owned_form library_owned callee_owned
  of_ExitThread a = ap (library_owned form) (sym (library.rolls-ExitThread a)) ∙ fold-roll-LibraryCall (List Owned) (Node → List Owned) (Node → List Owned) (List Owned) (of_callee form) (of_form form) (of_library form) (of_expr form) (LibraryCall-F.ExitThread a)

  pub of_SelfId : library_owned form library.SelfId ≡ (λ node. [])
  unfolding owned owned_form library_owned callee_owned
  of_SelfId = ap (library_owned form) (sym library.rolls-SelfId) ∙ fold-roll-LibraryCall (List Owned) (Node → List Owned) (Node → List Owned) (List Owned) (of_callee form) (of_form form) (of_library form) (of_expr form) LibraryCall-F.SelfId

  pub of_Equal : (a : TypedExpr) (b : TypedExpr) → library_owned form (library.Equal a b) ≡ (λ node. owned form a ++ owned form b)
  unfolding owned owned_form library_owned callee_owned
  of_Equal a b = ap (library_owned form) (sym (library.rolls-Equal a b)) ∙ fold-roll-LibraryCall (List Owned) (Node → List Owned) (Node → List Owned) (List Owned) (of_callee form) (of_form form) (of_library form) (of_expr form) (LibraryCall-F.Equal a b)

  pub of_Init : (a : TypedExpr) → library_owned form (library.Init a) ≡ (λ node. owned form a)
  unfolding owned owned_form library_owned callee_owned
  of_Init a = ap (library_owned form) (sym (library.rolls-Init a)) ∙ fold-roll-LibraryCall (List Owned) (Node → List Owned) (Node → List Owned) (List Owned) (of_callee form) (of_form form) (of_library form) (of_expr form) (LibraryCall-F.Init a)

  pub of_Destroy : (a : TypedExpr) → library_owned form (library.Destroy a) ≡ (λ node. owned form a)
  unfolding owned owned_form library_owned callee_owned
  of_Destroy a = ap (library_owned form) (sym (library.rolls-Destroy a)) ∙ fold-roll-LibraryCall (List Owned) (Node → List Owned) (Node → List Owned) (List Owned) (of_callee form) (of_form form) (of_library form) (of_expr form) (LibraryCall-F.Destroy a)

  pub of_Lock : (a : TypedExpr) → library_owned form (library.Lock a) ≡ (λ node. owned form a)
  unfolding owned owned_form library_owned callee_owned
  of_Lock a = ap (library_owned form) (sym (library.rolls-Lock a)) ∙ fold-roll-LibraryCall (List Owned) (Node → List Owned) (Node → List Owned) (List Owned) (of_callee form) (of_form form) (of_library form) (of_expr form) (LibraryCall-F.Lock a)

  pub of_Unlock : (a : TypedExpr) → library_owned form (library.Unlock a) ≡ (λ node. owned form a)
  unfolding owned owned_form library_owned callee_owned
  of_Unlock a = ap (library_owned form) (sym (library.rolls-Unlock a)) ∙ fold-roll-LibraryCall (List Owned) (Node → List Owned) (Node → List Owned) (List Owned) (of_callee form) (of_form form) (of_library form) (of_expr form) (LibraryCall-F.Unlock a)

  pub of_Signal : (a : TypedExpr) → library_owned form (library.Signal a) ≡ (λ node. owned form a)
  unfolding owned owned_form library_owned callee_owned
  of_Signal a = ap (library_owned form) (sym (library.rolls-Signal a)) ∙ fold-roll-LibraryCall (List Owned) (Node → List Owned) (Node → List Owned) (List Owned) (of_callee form) (of_form form) (of_library form) (of_expr form) (LibraryCall-F.Signal a)

  pub of_Wait : (cond : TypedExpr) (mutex : TypedExpr) → library_owned form (library.Wait cond mutex) ≡ (λ node. owned form cond ++ owned form mutex)
  unfolding owned owned_form library_owned callee_owned
  of_Wait cond mutex = ap (library_owned form) (sym (library.rolls-Wait cond mutex)) ∙ fold-roll-LibraryCall (List Owned) (Node → List Owned) (Node → List Owned) (List Owned) (of_callee form) (of_form form) (of_library form) (of_expr form) (LibraryCall-F.Wait cond mutex)

  pub of_Allocate : (t : ℕ) (count : Option TypedExpr) (zeroed : Bool) → library_owned form (library.Allocate t count zeroed) ≡ (λ node. allocation node t (is_one count) ∷ of_optional (option_map (owned form) count))
  unfolding owned owned_form library_owned callee_owned
  of_Allocate t None zeroed = ap (library_owned form) (sym (library.rolls-Allocate t None zeroed)) ∙ fold-roll-LibraryCall (List Owned) (Node → List Owned) (Node → List Owned) (List Owned) (of_callee form) (of_form form) (of_library form) (of_expr form) (LibraryCall-F.Allocate t None zeroed)
  of_Allocate t (Some count) zeroed = ap (library_owned form) (sym (library.rolls-Allocate t (Some count) zeroed)) ∙ fold-roll-LibraryCall (List Owned) (Node → List Owned) (Node → List Owned) (List Owned) (of_callee form) (of_form form) (of_library form) (of_expr form) (LibraryCall-F.Allocate t (Some count) zeroed)

  pub of_Free : (a : TypedExpr) → library_owned form (library.Free a) ≡ (λ node. owned form a)
  unfolding owned owned_form library_owned callee_owned
  of_Free a = ap (library_owned form) (sym (library.rolls-Free a)) ∙ fold-roll-LibraryCall (List Owned) (Node → List Owned) (Node → List Owned) (List Owned) (of_callee form) (of_form form) (of_library form) (of_expr form) (LibraryCall-F.Free a)

  pub of_Exit : (status : Option TypedExpr) → library_owned form (library.Exit status) ≡ (λ node. of_optional (option_map (owned form) status))
  unfolding owned owned_form library_owned callee_owned
  of_Exit None = ap (library_owned form) (sym (library.rolls-Exit None)) ∙ fold-roll-LibraryCall (List Owned) (Node → List Owned) (Node → List Owned) (List Owned) (of_callee form) (of_form form) (of_library form) (of_expr form) (LibraryCall-F.Exit None)
  of_Exit (Some status) = ap (library_owned form) (sym (library.rolls-Exit (Some status))) ∙ fold-roll-LibraryCall (List Owned) (Node → List Owned) (Node → List Owned) (List Owned) (of_callee form) (of_form form) (of_library form) (of_expr form) (LibraryCall-F.Exit (Some status))

  pub of_Scan : (a : TypedExpr) → library_owned form (library.Scan a) ≡ (λ node. owned form a)
  unfolding owned owned_form library_owned callee_owned
  of_Scan a = ap (library_owned form) (sym (library.rolls-Scan a)) ∙ fold-roll-LibraryCall (List Owned) (Node → List Owned) (Node → List Owned) (List Owned) (of_callee form) (of_form form) (of_library form) (of_expr form) (LibraryCall-F.Scan a)

  pub of_Print : (format : TypedExpr) (args : List TypedExpr) → library_owned form (library.Print format args) ≡ (λ node. owned form format ++ all_of (map (owned form) args))
  unfolding owned owned_form library_owned callee_owned
  of_Print format args = ap (library_owned form) (sym (library.rolls-Print format args)) ∙ fold-roll-LibraryCall (List Owned) (Node → List Owned) (Node → List Owned) (List Owned) (of_callee form) (of_form form) (of_library form) (of_expr form) (LibraryCall-F.Print format args)

  pub of_Compute : (args : List TypedExpr) → library_owned form (library.Compute args) ≡ (λ node. all_of (map (owned form) args))
  unfolding owned owned_form library_owned callee_owned
  of_Compute args = ap (library_owned form) (sym (library.rolls-Compute args)) ∙ fold-roll-LibraryCall (List Owned) (Node → List Owned) (Node → List Owned) (List Owned) (of_callee form) (of_form form) (of_library form) (of_expr form) (LibraryCall-F.Compute args)
