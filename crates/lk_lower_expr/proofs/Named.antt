-- The steps of a name: of an object, or of a slot.
use Rattle.std.proofs.Common.{ap, ◌∙◌, ◌≡◌, refl, ℕ, Option, None, Some, List}
use Rattle.lk_lower_expr.proofs.Forms.{as_form, of_Object}
use Rattle.lk_lower_expr.specs.Counts.{name_count}
use Rattle.lk_lower_expr.specs.Expressions.{part}
use Rattle.lk_lower_expr.specs.Laid.{laid}
use Rattle.lk_lower_expr.specs.Names.{Names, Node}
use Rattle.lk_lower_expr.specs.Naming.{node_of}
use Rattle.lk_lower_expr.specs.Parts.{Part}
use Rattle.lk_lower_expr.specs.Values.{name_of, name_part, slot_named}
use Rattle.lk_lower_expr.specs.declared.step.NamedStep.{NamedStep}
use Rattle.lk_typed.specs.declared.expression.Storage.{Storage}
use Rattle.lk_typed.specs.declared.expression.TypedExpr.{TypedExpr}
use Rattle.lk_typed.specs.declared.expression.TypedForm.TheVariants as form

module _ (names : Names) where
  slot_in : (slot : Option ℕ) (node : Node) (storage : Storage) → (name_of names slot node storage).slot ≡ slot
  slot_in None node storage = refl
  slot_in (Some slot) node storage = refl

  count_in : (slot : Option ℕ) (node : Node) (storage : Storage) → (name_of names slot node storage).count ≡ name_count slot
  count_in None node storage = refl
  count_in (Some slot) node storage = refl

  value_in : (slot : Option ℕ) (node : Node) (storage : Storage) → (name_of names slot node storage).value ≡ names.at node.ordinal 0
  value_in None node storage = refl
  value_in (Some slot) node storage = refl

  first_in : (slot : Option ℕ) (node : Node) (storage : Storage) → (name_of names slot node storage).first ≡ names.at node.ordinal 0
  first_in None node storage = refl
  first_in (Some slot) node storage = refl

  none_in : (slot : Option ℕ) (node : Node) (storage : Storage) (on : ℕ) (others : List NamedStep) → laid ((name_of names slot node storage).inside on) others ≡ others
  none_in None node storage on others = refl
  none_in (Some slot) node storage on others = refl

  is_name : (e : TypedExpr) (storage : Storage) → e.form ≡ form.Object storage → part names e ≡ name_part names (node_of e) storage
  is_name e storage is = as_form names e (form.Object storage) _ is (of_Object names storage)

  pub name_slot : (e : TypedExpr) (storage : Storage) → e.form ≡ form.Object storage → (part names e).slot ≡ slot_named names.slot storage
  name_slot e storage is = ap (λ (p : Part). p.slot) (is_name e storage is) ∙ slot_in (slot_named names.slot storage) (node_of e) storage

  pub name_counts : (e : TypedExpr) (storage : Storage) → e.form ≡ form.Object storage → (part names e).count ≡ name_count (slot_named names.slot storage)
  name_counts e storage is = ap (λ (p : Part). p.count) (is_name e storage is) ∙ count_in (slot_named names.slot storage) (node_of e) storage

  pub name_value : (e : TypedExpr) (storage : Storage) → e.form ≡ form.Object storage → (part names e).value ≡ names.at e.ordinal 0
  name_value e storage is = ap (λ (p : Part). p.value) (is_name e storage is) ∙ value_in (slot_named names.slot storage) (node_of e) storage

  pub name_first : (e : TypedExpr) (storage : Storage) → e.form ≡ form.Object storage → (part names e).first ≡ names.at e.ordinal 0
  name_first e storage is = ap (λ (p : Part). p.first) (is_name e storage is) ∙ first_in (slot_named names.slot storage) (node_of e) storage

  -- there is nothing inside a name
  pub name_in : (e : TypedExpr) (storage : Storage) (on : ℕ) (others : List NamedStep) → e.form ≡ form.Object storage → laid ((part names e).inside on) others ≡ others
  name_in e storage on others is = ap (λ (p : Part). laid (p.inside on) others) (is_name e storage is) ∙ none_in (slot_named names.slot storage) (node_of e) storage on others
