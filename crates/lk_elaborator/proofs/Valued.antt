-- The value of an expression, by what is made of its node.
use Rattle.std.proofs.Common.{◌≡◌, ◌∙◌, Bool, true, false, Option, Some, None, ℕ, refl, sym, ap, subst}
use Rattle.std.specs.Prelude.{◌&&◌, is_some, option_map}
use Rattle.std.proofs.lemmas.Bool.{false≢true}
use Rattle.lk_types.specs.Table.{Table}
use Rattle.lk_typed.specs.Elaborated.{InPlace, IsTyped, IsValue, Makes, typing_at}
use Rattle.lk_typed.specs.Elaborated.IsValue.{read, first_element, itself}
use Rattle.lk_typed.specs.Operands.{node_type}
use Rattle.lk_typed.specs.Operators.{is_scalar}
use Rattle.lk_typed.specs.Tables.{Tables}
use Rattle.lk_typed.specs.Ty.{Ty, Void, Int, ThreadId, Mutex, Cond, Pointer, Array, Struct, Function, Opaque, Means, array_of, is_array}
use Rattle.lk_typed.specs.Typing.{Typing}
use Rattle.lk_typed.specs.declared.expression.Callee.TheOpen.{TypedForm-F}
use Rattle.lk_typed.specs.declared.expression.TypedExpr.{TypedExpr}
use Rattle.lk_typed.specs.declared.typed.Typed.{Typed}
use Rattle.lk_elaborator.specs.Converting.{valued_as}
use Rattle.lk_elaborator.specs.Elements.{element_type}
use Rattle.lk_elaborator.specs.Known.{HasTyping}
use Rattle.lk_elaborator.specs.Standing.{IsNodeFor, IsValuedBy, OpenForm}
use Rattle.lk_elaborator.specs.declared.values.Valued.TheVariants as valued
use Rattle.lk_elaborator.proofs.Knowing.{same_some}
use Rattle.lk_elaborator.proofs.Owned.{own_of}

-- a type without elements is no array
no_array : (o : Option (Ty × ℕ)) → option_map (λ array. array.0) o ≡ None → is_some o ≡ false
no_array None e = refl
no_array (Some a) e = absurd (false≢true (sym (ap is_some e)))

-- what has elements is an array of them
array_is : (t element : Ty) → element_type t ≡ Some element → (n : ℕ) × (t ≡ Array element n)
array_is Void element e = absurd (false≢true (ap is_some e))
array_is (Int k) element e = absurd (false≢true (ap is_some e))
array_is ThreadId element e = absurd (false≢true (ap is_some e))
array_is Mutex element e = absurd (false≢true (ap is_some e))
array_is Cond element e = absurd (false≢true (ap is_some e))
array_is (Pointer t) element e = absurd (false≢true (ap is_some e))
array_is (Array t n) element e = (n, cc)
array_is (Struct s) element e = absurd (false≢true (ap is_some e))
array_is (Function result params dots) element e = absurd (false≢true (ap is_some e))
array_is (Opaque n) element e = absurd (false≢true (ap is_some e))

-- a place of scalar type is no function, so its node has its type
scalar_node : (place : Bool) (t : Ty) → (place && is_scalar t) ≡ true → node_type t ≡ t
scalar_node place Void e = refl
scalar_node place (Int k) e = refl
scalar_node place ThreadId e = refl
scalar_node place Mutex e = refl
scalar_node place Cond e = refl
scalar_node place (Pointer t) e = refl
scalar_node place (Array t n) e = refl
scalar_node place (Struct s) e = refl
scalar_node true (Function result params dots) e = absurd (false≢true e)
scalar_node false (Function result params dots) e = absurd (false≢true e)
scalar_node place (Opaque n) e = refl

module _ (tables : Tables) (folded : Bool) (p : InPlace) where
  -- a node in the place of that of the expression
  pub node_made : (a t : TypedExpr) (ty : ℕ) (target : Ty) (form : OpenForm) → IsTyped tables folded p a → Means tables.types ty target → IsNodeFor a ty form t → Makes tables p target form t
  node_made a t ty target form typed means is =
      let own = own_of tables folded p a typed in
      record { spot = is.spot ∙ own.spot; ordinal = is.ordinal ∙ own.ordinal; type = subst (λ n. Means tables.types n target) (sym is.type) means; made = is.made }

  scalar_value : (x : Typing) (by : Bool) → typing_at p ≡ Some x → is_array x.type ≡ false → (x.is_place && is_scalar x.type) ≡ by → (a t : TypedExpr) → IsTyped tables folded p a →
      IsValuedBy (valued_as by) a t → IsValue tables folded p t
  scalar_value x true found plain by a t typed is =
      let own = own_of tables folded p a typed in
      let same = same_some (sym own.found ∙ found) in
      let means = subst (Means tables.types a.ty) (ap (λ y. node_type y.type) same ∙ scalar_node x.is_place x.type by) own.type in
      read found by typed (node_made a t a.ty x.type (TypedForm-F.Load a) typed means is)
  scalar_value x false found plain by a t typed is = subst (IsValue tables folded p) (sym is) (itself found by plain typed)

  pub value_without_elements : (table : Table) (typed : Typed) → (has : HasTyping table p typed) → element_type has.typing.type ≡ None → (a t : TypedExpr) → IsTyped tables folded p a →
      IsValuedBy (valued_as (typed.is_place && is_scalar has.typing.type)) a t → IsValue tables folded p t
  value_without_elements table typed has none a t node is =
      scalar_value has.typing _ has.found (no_array (array_of has.typing.type) none) refl a t node
      (subst (λ b. IsValuedBy (valued_as (b && is_scalar has.typing.type)) a t) has.is.place is)

  pub value_of_array : (x : Typing) (element : Ty) (ty : ℕ) → typing_at p ≡ Some x → element_type x.type ≡ Some element → Means tables.types ty (Pointer element) →
      (a t : TypedExpr) → IsTyped tables folded p a → IsValuedBy (valued.FirstElement ty) a t → IsValue tables folded p t
  value_of_array x element ty found elements means a t typed is =
      first_element found (array_is x.type element elements).1 typed (node_made a t ty (Pointer element) (TypedForm-F.Decay a) typed means is)
