-- The node of an expression itself has its place, its number and its type.
use Rattle.std.proofs.Common.{◌≡◌, Bool, Some}
use Rattle.lk_typed.specs.Elaborated.{InPlace, IsTyped, typing_at}
use Rattle.lk_typed.specs.Elaborated.IsTyped.{static_object, local_object, function, enumerator, number, character, text, paren, member, arrow, index, indirection, address, promoting_operator, negation, operator, and_, or_, choice, comma, assignment, compound, step_before, step_after, cast_to_void, cast_of_null, cast, size, call_by_name, call_by_pointer, call_of_extern, call_of_library}
use Rattle.lk_typed.specs.Operands.{node_type}
use Rattle.lk_typed.specs.Tables.{Tables}
use Rattle.lk_typed.specs.Ty.{Means}
use Rattle.lk_typed.specs.Typing.{Typing}
use Rattle.lk_typed.specs.declared.expression.TypedExpr.{TypedExpr}
use Rattle.lk_elaborator.specs.Standing.{MakesOwn, OpenForm}

pub record IsOwn (tables : Tables) (p : InPlace) (t : TypedExpr) : Type 0 where
  pub typing : Typing
  pub found : typing_at p ≡ Some typing
  pub spot : t.spot ≡ p.1.spot
  pub ordinal : t.ordinal ≡ p.1.ordinal
  pub type : Means tables.types t.ty (node_type typing.type)

of_made : (tables : Tables) (p : InPlace) (form : OpenForm) (t : TypedExpr) → MakesOwn tables p form t → IsOwn tables p t
of_made tables p form t m = record { typing = m.0; found = m.1; spot = m.2.spot; ordinal = m.2.ordinal; type = m.2.type }

pub own_of : (tables : Tables) (folded : Bool) (p : InPlace) (t : TypedExpr) → IsTyped tables folded p t → IsOwn tables p t
own_of tables folded p t (static_object _ _ _ m) = of_made tables p _ t m
own_of tables folded p t (local_object _ _ _ m) = of_made tables p _ t m
own_of tables folded p t (function _ _ _ m) = of_made tables p _ t m
own_of tables folded p t (enumerator _ _ m) = of_made tables p _ t m
own_of tables folded p t (number _ m) = of_made tables p _ t m
own_of tables folded p t (character _ m) = of_made tables p _ t m
own_of tables folded p t (text _ m) = of_made tables p _ t m
own_of tables folded p t (paren _ _ m) = of_made tables p _ t m
own_of tables folded p t (member _ _ _ _ _ m) = of_made tables p _ t m
own_of tables folded p t (arrow _ _ _ _ _ m) = of_made tables p _ t m
own_of tables folded p t (index _ _ _ _ m) = of_made tables p _ t m
own_of tables folded p t (indirection _ _ m) = of_made tables p _ t m
own_of tables folded p t (address _ _ m) = of_made tables p _ t m
own_of tables folded p t (promoting_operator _ _ _ _ m) = of_made tables p _ t m
own_of tables folded p t (negation _ _ m) = of_made tables p _ t m
own_of tables folded p t (operator _ _ _ _ _ _ m) = of_made tables p _ t m
own_of tables folded p t (and_ _ _ _ m) = of_made tables p _ t m
own_of tables folded p t (or_ _ _ _ m) = of_made tables p _ t m
own_of tables folded p t (choice _ _ _ _ _ m) = of_made tables p _ t m
own_of tables folded p t (comma _ _ _ m) = of_made tables p _ t m
own_of tables folded p t (assignment _ _ _ _ m) = of_made tables p _ t m
own_of tables folded p t (compound _ _ _ _ _ _ _ _ m) = of_made tables p _ t m
own_of tables folded p t (step_before _ _ _ _ m) = of_made tables p _ t m
own_of tables folded p t (step_after _ _ _ _ m) = of_made tables p _ t m
own_of tables folded p t (cast_to_void _ _ _ m) = of_made tables p _ t m
own_of tables folded p t (cast_of_null _ _ _ _ m) = of_made tables p _ t m
own_of tables folded p t (cast _ _ _ _ _ _ m) = of_made tables p _ t m
own_of tables folded p t (size _ _ m) = of_made tables p _ t m
own_of tables folded p t (call_by_name _ _ _ _ _ m) = of_made tables p _ t m
own_of tables folded p t (call_by_pointer _ _ _ _ _ m) = of_made tables p _ t m
own_of tables folded p t (call_of_extern _ _ _ _ m) = of_made tables p _ t m
own_of tables folded p t (call_of_library _ _ _ m) = of_made tables p _ t m
