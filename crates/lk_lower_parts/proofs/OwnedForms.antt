-- What the nodes of each form of expression have of their own, as equations of the fold over typed trees.
use Rattle.std.proofs.Common.{sym, ap, ◌∙◌, ◌≡◌, ◌++◌, ℕ, ℤ, List}
use Rattle.std.specs.Prelude.{map, [], ◌∷◌}
use Rattle.lk_arith.specs.declared.operators.Op.{Op}
use Rattle.lk_arith.specs.declared.operators.UnaryOp.{UnaryOp}
use Rattle.lk_lower_expr.specs.Names.{Node}
use Rattle.lk_lower_expr.specs.Owned.{Owned, text, hidden, all_of, hidden_of, of_callee, of_form, of_library, of_expr, owned}
use Rattle.lk_lower_parts.specs.Found.{callee_owned, library_owned, node_of, owned_form}
use Rattle.lk_tree.specs.declared.operators.StepOperator.{StepOperator}
use Rattle.lk_typed.specs.declared.expression.Callee.{Callee}
use Rattle.lk_typed.specs.declared.expression.Callee.TheFolds.{fold-roll-Callee, fold-roll-TypedForm, fold_out-TypedExpr}
use Rattle.lk_typed.specs.declared.expression.Callee.TheOpen.{Callee-F, TypedForm-F}
use Rattle.lk_typed.specs.declared.expression.Callee.TheVariants as callee
use Rattle.lk_typed.specs.declared.expression.Change.{Change}
use Rattle.lk_typed.specs.declared.expression.Storage.{Storage}
use Rattle.lk_typed.specs.declared.expression.TypedExpr.{TypedExpr}
use Rattle.lk_typed.specs.declared.expression.TypedForm.{TypedForm}
use Rattle.lk_typed.specs.declared.expression.TypedForm.TheVariants as tree
use Rattle.lk_typed.specs.declared.library.LibraryCall.{LibraryCall}
use Rattle.lk_types.specs.declared.c_type.CType.{CType}

module _ (form : ℕ → CType) where
  pub of_expression : (e : TypedExpr) → owned form e ≡ owned_form form e.form (node_of e)
  unfolding owned owned_form
  of_expression e = fold_out-TypedExpr (List Owned) (Node → List Owned) (Node → List Owned) (List Owned) (of_callee form) (of_form form) (of_library form) (of_expr form) e

  -- an expression of a form has what is of that form
  pub as_form : (e : TypedExpr) (f : TypedForm) (is : Node → List Owned) → e.form ≡ f → owned_form form f ≡ is → owned form e ≡ is (node_of e)
  as_form e f is so rolls = of_expression e ∙ ap (λ g. owned_form form g (node_of e)) so ∙ ap (λ (g : Node → List Owned). g (node_of e)) rolls

  pub of_Object : (storage : Storage) → owned_form form (tree.Object storage) ≡ (λ node. [])
  unfolding owned owned_form library_owned callee_owned
  of_Object storage = ap (owned_form form) (sym (tree.rolls-Object storage)) ∙ fold-roll-TypedForm (List Owned) (Node → List Owned) (Node → List Owned) (List Owned) (of_callee form) (of_form form) (of_library form) (of_expr form) (TypedForm-F.Object storage)

  pub of_Text : (bytes : List ℕ) → owned_form form (tree.Text bytes) ≡ (λ node. text node bytes ∷ [])
  unfolding owned owned_form library_owned callee_owned
  of_Text bytes = ap (owned_form form) (sym (tree.rolls-Text bytes)) ∙ fold-roll-TypedForm (List Owned) (Node → List Owned) (Node → List Owned) (List Owned) (of_callee form) (of_form form) (of_library form) (of_expr form) (TypedForm-F.Text bytes)

  pub of_Member : (a : TypedExpr) (k : ℕ) → owned_form form (tree.Member a k) ≡ (λ node. owned form a)
  unfolding owned owned_form library_owned callee_owned
  of_Member a k = ap (owned_form form) (sym (tree.rolls-Member a k)) ∙ fold-roll-TypedForm (List Owned) (Node → List Owned) (Node → List Owned) (List Owned) (of_callee form) (of_form form) (of_library form) (of_expr form) (TypedForm-F.Member a k)

  pub of_Arrow : (a : TypedExpr) (k : ℕ) → owned_form form (tree.Arrow a k) ≡ (λ node. owned form a)
  unfolding owned owned_form library_owned callee_owned
  of_Arrow a k = ap (owned_form form) (sym (tree.rolls-Arrow a k)) ∙ fold-roll-TypedForm (List Owned) (Node → List Owned) (Node → List Owned) (List Owned) (of_callee form) (of_form form) (of_library form) (of_expr form) (TypedForm-F.Arrow a k)

  pub of_Index : (a : TypedExpr) (b : TypedExpr) → owned_form form (tree.Index a b) ≡ (λ node. owned form a ++ owned form b)
  unfolding owned owned_form library_owned callee_owned
  of_Index a b = ap (owned_form form) (sym (tree.rolls-Index a b)) ∙ fold-roll-TypedForm (List Owned) (Node → List Owned) (Node → List Owned) (List Owned) (of_callee form) (of_form form) (of_library form) (of_expr form) (TypedForm-F.Index a b)

  pub of_Indirection : (a : TypedExpr) → owned_form form (tree.Indirection a) ≡ (λ node. owned form a)
  unfolding owned owned_form library_owned callee_owned
  of_Indirection a = ap (owned_form form) (sym (tree.rolls-Indirection a)) ∙ fold-roll-TypedForm (List Owned) (Node → List Owned) (Node → List Owned) (List Owned) (of_callee form) (of_form form) (of_library form) (of_expr form) (TypedForm-F.Indirection a)

  pub of_Paren : (a : TypedExpr) → owned_form form (tree.Paren a) ≡ (λ node. owned form a)
  unfolding owned owned_form library_owned callee_owned
  of_Paren a = ap (owned_form form) (sym (tree.rolls-Paren a)) ∙ fold-roll-TypedForm (List Owned) (Node → List Owned) (Node → List Owned) (List Owned) (of_callee form) (of_form form) (of_library form) (of_expr form) (TypedForm-F.Paren a)

  pub of_Number : (number : ℤ) → owned_form form (tree.Number number) ≡ (λ node. [])
  unfolding owned owned_form library_owned callee_owned
  of_Number number = ap (owned_form form) (sym (tree.rolls-Number number)) ∙ fold-roll-TypedForm (List Owned) (Node → List Owned) (Node → List Owned) (List Owned) (of_callee form) (of_form form) (of_library form) (of_expr form) (TypedForm-F.Number number)

  pub of_Function : (entity : ℕ) → owned_form form (tree.Function entity) ≡ (λ node. [])
  unfolding owned owned_form library_owned callee_owned
  of_Function entity = ap (owned_form form) (sym (tree.rolls-Function entity)) ∙ fold-roll-TypedForm (List Owned) (Node → List Owned) (Node → List Owned) (List Owned) (of_callee form) (of_form form) (of_library form) (of_expr form) (TypedForm-F.TypedForm::Function entity)

  pub of_Address : (a : TypedExpr) → owned_form form (tree.Address a) ≡ (λ node. owned form a)
  unfolding owned owned_form library_owned callee_owned
  of_Address a = ap (owned_form form) (sym (tree.rolls-Address a)) ∙ fold-roll-TypedForm (List Owned) (Node → List Owned) (Node → List Owned) (List Owned) (of_callee form) (of_form form) (of_library form) (of_expr form) (TypedForm-F.Address a)

  pub of_Unary : (op : UnaryOp) (a : TypedExpr) → owned_form form (tree.Unary op a) ≡ (λ node. owned form a)
  unfolding owned owned_form library_owned callee_owned
  of_Unary op a = ap (owned_form form) (sym (tree.rolls-Unary op a)) ∙ fold-roll-TypedForm (List Owned) (Node → List Owned) (Node → List Owned) (List Owned) (of_callee form) (of_form form) (of_library form) (of_expr form) (TypedForm-F.Unary op a)

  pub of_Binary : (op : Op) (a : TypedExpr) (b : TypedExpr) → owned_form form (tree.Binary op a b) ≡ (λ node. owned form a ++ owned form b)
  unfolding owned owned_form library_owned callee_owned
  of_Binary op a b = ap (owned_form form) (sym (tree.rolls-Binary op a b)) ∙ fold-roll-TypedForm (List Owned) (Node → List Owned) (Node → List Owned) (List Owned) (of_callee form) (of_form form) (of_library form) (of_expr form) (TypedForm-F.Binary op a b)

  pub of_And : (a : TypedExpr) (b : TypedExpr) → owned_form form (tree.And a b) ≡ (λ node. hidden node ∷ (owned form a ++ owned form b))
  unfolding owned owned_form library_owned callee_owned
  of_And a b = ap (owned_form form) (sym (tree.rolls-And a b)) ∙ fold-roll-TypedForm (List Owned) (Node → List Owned) (Node → List Owned) (List Owned) (of_callee form) (of_form form) (of_library form) (of_expr form) (TypedForm-F.And a b)

  pub of_Or : (a : TypedExpr) (b : TypedExpr) → owned_form form (tree.Or a b) ≡ (λ node. hidden node ∷ (owned form a ++ owned form b))
  unfolding owned owned_form library_owned callee_owned
  of_Or a b = ap (owned_form form) (sym (tree.rolls-Or a b)) ∙ fold-roll-TypedForm (List Owned) (Node → List Owned) (Node → List Owned) (List Owned) (of_callee form) (of_form form) (of_library form) (of_expr form) (TypedForm-F.Or a b)

  pub of_Choice : (c : TypedExpr) (a : TypedExpr) (b : TypedExpr) → owned_form form (tree.Choice c a b) ≡ (λ node. hidden_of form (form node.type) node ++ (owned form c ++ (owned form a ++ owned form b)))
  unfolding owned owned_form library_owned callee_owned
  of_Choice c a b = ap (owned_form form) (sym (tree.rolls-Choice c a b)) ∙ fold-roll-TypedForm (List Owned) (Node → List Owned) (Node → List Owned) (List Owned) (of_callee form) (of_form form) (of_library form) (of_expr form) (TypedForm-F.Choice c a b)

  pub of_Comma : (a : TypedExpr) (b : TypedExpr) → owned_form form (tree.Comma a b) ≡ (λ node. owned form a ++ owned form b)
  unfolding owned owned_form library_owned callee_owned
  of_Comma a b = ap (owned_form form) (sym (tree.rolls-Comma a b)) ∙ fold-roll-TypedForm (List Owned) (Node → List Owned) (Node → List Owned) (List Owned) (of_callee form) (of_form form) (of_library form) (of_expr form) (TypedForm-F.Comma a b)

  pub of_Assign : (a : TypedExpr) (b : TypedExpr) → owned_form form (tree.Assign a b) ≡ (λ node. owned form a ++ owned form b)
  unfolding owned owned_form library_owned callee_owned
  of_Assign a b = ap (owned_form form) (sym (tree.rolls-Assign a b)) ∙ fold-roll-TypedForm (List Owned) (Node → List Owned) (Node → List Owned) (List Owned) (of_callee form) (of_form form) (of_library form) (of_expr form) (TypedForm-F.Assign a b)

  pub of_Compound : (op : Op) (a : TypedExpr) (b : TypedExpr) (t : ℕ) → owned_form form (tree.Compound op a b t) ≡ (λ node. owned form a ++ owned form b)
  unfolding owned owned_form library_owned callee_owned
  of_Compound op a b t = ap (owned_form form) (sym (tree.rolls-Compound op a b t)) ∙ fold-roll-TypedForm (List Owned) (Node → List Owned) (Node → List Owned) (List Owned) (of_callee form) (of_form form) (of_library form) (of_expr form) (TypedForm-F.Compound op a b t)

  pub of_Step : (operator : StepOperator) (change : Change) (a : TypedExpr) (t : ℕ) → owned_form form (tree.Step operator change a t) ≡ (λ node. owned form a)
  unfolding owned owned_form library_owned callee_owned
  of_Step operator change a t = ap (owned_form form) (sym (tree.rolls-Step operator change a t)) ∙ fold-roll-TypedForm (List Owned) (Node → List Owned) (Node → List Owned) (List Owned) (of_callee form) (of_form form) (of_library form) (of_expr form) (TypedForm-F.Step operator change a t)

  pub of_Call : (callee : Callee) (args : List TypedExpr) → owned_form form (tree.Call callee args) ≡ (λ node. callee_owned form callee ++ all_of (map (owned form) args))
  unfolding owned owned_form library_owned callee_owned
  of_Call callee args = ap (owned_form form) (sym (tree.rolls-Call callee args)) ∙ fold-roll-TypedForm (List Owned) (Node → List Owned) (Node → List Owned) (List Owned) (of_callee form) (of_form form) (of_library form) (of_expr form) (TypedForm-F.Call callee args)

  pub of_Library : (call : LibraryCall) → owned_form form (tree.Library call) ≡ (λ node. library_owned form call node)
  unfolding owned owned_form library_owned callee_owned
  of_Library call = ap (owned_form form) (sym (tree.rolls-Library call)) ∙ fold-roll-TypedForm (List Owned) (Node → List Owned) (Node → List Owned) (List Owned) (of_callee form) (of_form form) (of_library form) (of_expr form) (TypedForm-F.Library call)

  pub of_Extern : (entity : ℕ) (args : List TypedExpr) → owned_form form (tree.Extern entity args) ≡ (λ node. all_of (map (owned form) args))
  unfolding owned owned_form library_owned callee_owned
  of_Extern entity args = ap (owned_form form) (sym (tree.rolls-Extern entity args)) ∙ fold-roll-TypedForm (List Owned) (Node → List Owned) (Node → List Owned) (List Owned) (of_callee form) (of_form form) (of_library form) (of_expr form) (TypedForm-F.Extern entity args)

  pub of_Size : (count : ℕ) → owned_form form (tree.Size count) ≡ (λ node. [])
  unfolding owned owned_form library_owned callee_owned
  of_Size count = ap (owned_form form) (sym (tree.rolls-Size count)) ∙ fold-roll-TypedForm (List Owned) (Node → List Owned) (Node → List Owned) (List Owned) (of_callee form) (of_form form) (of_library form) (of_expr form) (TypedForm-F.Size count)

  pub of_Load : (a : TypedExpr) → owned_form form (tree.Load a) ≡ (λ node. owned form a)
  unfolding owned owned_form library_owned callee_owned
  of_Load a = ap (owned_form form) (sym (tree.rolls-Load a)) ∙ fold-roll-TypedForm (List Owned) (Node → List Owned) (Node → List Owned) (List Owned) (of_callee form) (of_form form) (of_library form) (of_expr form) (TypedForm-F.Load a)

  pub of_Decay : (a : TypedExpr) → owned_form form (tree.Decay a) ≡ (λ node. owned form a)
  unfolding owned owned_form library_owned callee_owned
  of_Decay a = ap (owned_form form) (sym (tree.rolls-Decay a)) ∙ fold-roll-TypedForm (List Owned) (Node → List Owned) (Node → List Owned) (List Owned) (of_callee form) (of_form form) (of_library form) (of_expr form) (TypedForm-F.Decay a)

  pub of_Convert : (a : TypedExpr) → owned_form form (tree.Convert a) ≡ (λ node. owned form a)
  unfolding owned owned_form library_owned callee_owned
  of_Convert a = ap (owned_form form) (sym (tree.rolls-Convert a)) ∙ fold-roll-TypedForm (List Owned) (Node → List Owned) (Node → List Owned) (List Owned) (of_callee form) (of_form form) (of_library form) (of_expr form) (TypedForm-F.Convert a)

  pub of_Discard : (a : TypedExpr) → owned_form form (tree.Discard a) ≡ (λ node. owned form a)
  unfolding owned owned_form library_owned callee_owned
  of_Discard a = ap (owned_form form) (sym (tree.rolls-Discard a)) ∙ fold-roll-TypedForm (List Owned) (Node → List Owned) (Node → List Owned) (List Owned) (of_callee form) (of_form form) (of_library form) (of_expr form) (TypedForm-F.Discard a)

  pub of_Null : owned_form form tree.Null ≡ (λ node. [])
  unfolding owned owned_form library_owned callee_owned
  of_Null = ap (owned_form form) (sym tree.rolls-Null) ∙ fold-roll-TypedForm (List Owned) (Node → List Owned) (Node → List Owned) (List Owned) (of_callee form) (of_form form) (of_library form) (of_expr form) TypedForm-F.Null

  pub of_named : (called : Callee) (entity : ℕ) → called ≡ callee.Function entity → callee_owned form called ≡ []
  unfolding owned owned_form library_owned callee_owned
  of_named called entity is = ap (callee_owned form) (is ∙ sym (callee.rolls-Function entity)) ∙ fold-roll-Callee (List Owned) (Node → List Owned) (Node → List Owned) (List Owned) (of_callee form) (of_form form) (of_library form) (of_expr form) (Callee-F.Callee::Function entity)

  pub of_pointer : (called : Callee) (a : TypedExpr) → called ≡ callee.Pointer a → callee_owned form called ≡ owned form a
  unfolding owned owned_form library_owned callee_owned
  of_pointer called a is = ap (callee_owned form) (is ∙ sym (callee.rolls-Pointer a)) ∙ fold-roll-Callee (List Owned) (Node → List Owned) (Node → List Owned) (List Owned) (of_callee form) (of_form form) (of_library form) (of_expr form) (Callee-F.Pointer a)
