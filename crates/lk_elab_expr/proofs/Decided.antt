-- What an expression is of what stands for its operands, by the constructors of the typed tree.
use Rattle.std.proofs.Common.{◌≡◌, ◌∙◌, Bool, List, [], ◌∷◌, None, ℕ, map, refl, sym, ap, subst}
use Rattle.std.specs.Prelude.{if◌then◌else◌, suc}
use Rattle.lk_tree.specs.declared.expression.DeclaratorForm.TheOpen.{ExprForm-F}
use Rattle.lk_tree.specs.declared.operators.BinaryOperator.{BinaryOperator}
use Rattle.lk_tree.specs.declared.operators.BinaryOperator.TheVariants as binary
use Rattle.lk_typed.specs.Elaborated.{InPlace, IsTyped, IsValue, form_of}
use Rattle.lk_typed.specs.Elaborated.IsTyped.{and_, or_, member, arrow}
use Rattle.lk_typed.specs.Env.{Field, Name, is_name, number_of_field}
use Rattle.lk_typed.specs.Operands.{computed_by}
use Rattle.lk_typed.specs.Operators.{row_of}
use Rattle.lk_typed.specs.Tables.{Tables}
use Rattle.lk_typed.specs.declared.expression.Callee.TheOpen.{TypedForm-F}
use Rattle.lk_typed.specs.declared.expression.TypedExpr.{TypedExpr}
use Rattle.lk_typed.specs.declared.members.Field.{Field as FieldFound}
use Rattle.lk_typed.specs.declared.members.Members.TheVariants as members
use Rattle.lk_elaborator.specs.Fields.{IsFieldNumber, IsNumberBehind, IsNumberOf, number_of_name}
use Rattle.lk_elaborator.specs.Standing.{MakesOwn, form_of_two}
use Rattle.lk_elaborator.specs.Telling.{HasFields, IsTrueOf}
use Rattle.lk_elaborator.specs.declared.elaborator.Elaborator.{Elaborator}
use Rattle.lk_elaborator.proofs.Knowing.{same_some, some_none}
use Rattle.lk_elab_expr.specs.Deciding.{decided_by}
use Rattle.lk_elab_expr.proofs.Ruled.{arrow_members, dot_members}

-- && and ||
module _ (tables : Tables) (folded : Bool) (p l r : InPlace) (x y t : TypedExpr) (left : IsValue tables folded l x) (right : IsValue tables folded r y) where
  pub decided : (o : BinaryOperator) → computed_by (row_of o) ≡ None → form_of p ≡ ExprForm-F.Binary o l r → MakesOwn tables p (form_of_two (decided_by (row_of o)) x y) t → IsTyped tables folded p t
  decided binary.Or none form makes = or_ form left right makes
  decided binary.And none form makes = and_ form left right makes
  decided binary.BitOr none form makes = absurd (some_none (sym none))
  decided binary.BitXor none form makes = absurd (some_none (sym none))
  decided binary.BitAnd none form makes = absurd (some_none (sym none))
  decided binary.Equal none form makes = absurd (some_none (sym none))
  decided binary.NotEqual none form makes = absurd (some_none (sym none))
  decided binary.Less none form makes = absurd (some_none (sym none))
  decided binary.Greater none form makes = absurd (some_none (sym none))
  decided binary.LessEqual none form makes = absurd (some_none (sym none))
  decided binary.GreaterEqual none form makes = absurd (some_none (sym none))
  decided binary.ShiftLeft none form makes = absurd (some_none (sym none))
  decided binary.ShiftRight none form makes = absurd (some_none (sym none))
  decided binary.Add none form makes = absurd (some_none (sym none))
  decided binary.Subtract none form makes = absurd (some_none (sym none))
  decided binary.Multiply none form makes = absurd (some_none (sym none))
  decided binary.Divide none form makes = absurd (some_none (sym none))
  decided binary.Remainder none form makes = absurd (some_none (sym none))

-- ---- members

named_number : (fields : List Field) (name : Name) → number_of_name (map (λ field. field.name) fields) name ≡ number_of_field fields name
named_number [] name = refl
named_number (field ∷ others) name = ap (λ k. if is_name field.name name then 0 else suc k) (named_number others name)

known_same : (a b : List FieldFound) → members.Known a ≡ members.Known b → a ≡ b
known_same a b e = cc

-- the number by the members at the end of the source is the one by those that are known behind the expression
field_number : (walk : Elaborator) (s k : ℕ) (name : Name) (fields : List Field) → IsFieldNumber walk.names.structs s name k → HasFields walk s fields → k ≡ number_of_field fields name
field_number walk s k name fields is has =
    let same = known_same is.fields has.0 (same_some (sym is.known ∙ has.1)) in
    is.number ∙ ap (λ (found : List FieldFound). number_of_name (map (λ field. field.name) found) name) same ∙ ap (λ names. number_of_name names name) has.2 ∙ named_number fields name

module _ (walk : Elaborator) (tables : Tables) (folded : Bool) (p i : InPlace) (name : Name) (k : ℕ) (x t : TypedExpr) (true_of : IsTrueOf walk p) where
  pub member_is : form_of p ≡ ExprForm-F.Member i name → IsNumberOf walk i name k → IsTyped tables folded i x → MakesOwn tables p (TypedForm-F.Member x k) t → IsTyped tables folded p t
  member_is form number typed makes =
      let known = dot_members p i name number.s makes.0 number.typing form makes.1 number.found number.type in
      let same = field_number walk number.s k name known.0 number.number (true_of.structs number.s known.0 known.1) in
      member form number.found number.type known.1 typed (subst (λ k. MakesOwn tables p (TypedForm-F.Member x k) t) same makes)

  pub arrow_is : form_of p ≡ ExprForm-F.Arrow i name → IsNumberBehind walk i name k → IsValue tables folded i x → MakesOwn tables p (TypedForm-F.Arrow x k) t → IsTyped tables folded p t
  arrow_is form number is makes =
      let known = arrow_members p i name number.s makes.0 number.typing form makes.1 number.found number.type in
      let same = field_number walk number.s k name known.0 number.number (true_of.structs number.s known.0 known.1) in
      arrow form number.found number.type known.1 is (subst (λ k. MakesOwn tables p (TypedForm-F.Arrow x k) t) same makes)
