-- A value converted to a type, by how it is made.
use Rattle.std.proofs.Common.{◌≡◌, ◌∙◌, Bool, true, false, Some, None, ℕ, sym, ap, subst, arith}
use Rattle.std.specs.Prelude.{◌&&◌}
use Rattle.lk_types.specs.Table.{Table}
use Rattle.lk_typed.specs.Addresses.{value}
use Rattle.lk_typed.specs.Elaborated.{InPlace, IsConverted, IsTyped, IsValue, Makes}
use Rattle.lk_typed.specs.Elaborated.IsConverted.{alike, null, converted}
use Rattle.lk_typed.specs.Elaborated.IsValue.{read, first_element, itself}
use Rattle.lk_typed.specs.Meaning.{meaning_of}
use Rattle.lk_typed.specs.Tables.{Tables}
use Rattle.lk_typed.specs.Ty.{Ty, Means, is_pointer, is_same}
use Rattle.lk_typed.specs.declared.expression.Callee.TheOpen.{TypedForm-F}
use Rattle.lk_typed.specs.declared.expression.TypedExpr.{TypedExpr}
use Rattle.lk_typed.specs.declared.typed.Typed.{Typed}
use Rattle.lk_elaborator.specs.Converting.{IsWritten, converting}
use Rattle.lk_elaborator.specs.Known.{HasValue}
use Rattle.lk_elaborator.specs.Standing.{IsConvertedBy, IsNodeAt, IsOfItself, IsValuedBy, OpenForm}
use Rattle.lk_elaborator.specs.declared.values.Converting.{Converting}
use Rattle.lk_elaborator.specs.declared.values.Converting.TheVariants as how
use Rattle.lk_elaborator.specs.declared.values.Making.{Making}
use Rattle.lk_elaborator.proofs.Owned.{own_of}

-- what `converting` says of the two questions
abbrev how_code : Converting → ℕ
how_code how.Alike = 0
how_code how.Null = 1
how_code how.Written = 2

pub alike_by : (same is_null : Bool) → how.Alike ≡ converting same is_null → same ≡ true
alike_by true is_null e = cc
alike_by false true e = absurd (omega (arith, ap how_code e))
alike_by false false e = absurd (omega (arith, ap how_code e))

pub null_by : (same is_null : Bool) → how.Null ≡ converting same is_null → (same ≡ false) × (is_null ≡ true)
null_by true is_null e = absurd (omega (arith, ap how_code e))
null_by false true e = (cc, cc)
null_by false false e = absurd (omega (arith, ap how_code e))

pub written_by : (same is_null : Bool) → how.Written ≡ converting same is_null → (same ≡ false) × (is_null ≡ false)
written_by true is_null e = absurd (omega (arith, ap how_code e))
written_by false true e = absurd (omega (arith, ap how_code e))
written_by false false e = (cc, cc)

module _ (tables : Tables) (folded : Bool) (p : InPlace) where
  -- the value has the place and number of the expression
  pub record IsPlaced (t : TypedExpr) : Type 0 where
    pub spot : t.spot ≡ p.1.spot
    pub ordinal : t.ordinal ≡ p.1.ordinal

  pub value_placed : (t : TypedExpr) → IsValue tables folded p t → IsPlaced t
  value_placed t (read found by typed makes) = record { spot = makes.spot; ordinal = makes.ordinal }
  value_placed t (first_element found by typed makes) = record { spot = makes.spot; ordinal = makes.ordinal }
  value_placed t (itself found by plain typed) = let own = own_of tables folded p t typed in record { spot = own.spot; ordinal = own.ordinal }

  -- made of the node by its value alone
  pub made_value : (making : Making) (t : TypedExpr) → making.converted_to ≡ None → ((a t : TypedExpr) → IsTyped tables folded p a → IsValuedBy making.valued a t → IsValue tables folded p t) →
      IsOfItself tables folded p making t → IsValue tables folded p t
  made_value making t none value is =
      let same = subst (λ to. IsConvertedBy to is.made.value t) none is.made.converted in
      subst (IsValue tables folded p) (sym same) (value is.itself is.made.value is.typed is.made.valued)

  pub made_written : (making : Making) (ty : ℕ) (target : Ty) (t : TypedExpr) → making.converted_to ≡ Some ty → Means tables.types ty target →
      ((a t : TypedExpr) → IsTyped tables folded p a → IsValuedBy making.valued a t → IsValue tables folded p t) → IsOfItself tables folded p making t → IsWritten tables folded p target t
  made_written making ty target t some means value is =
      let by = subst (λ to. IsConvertedBy to is.made.value t) some is.made.converted in
      let v = value is.itself is.made.value is.typed is.made.valued in
      let placed = value_placed is.made.value v in
      record {
        value = is.made.value;
        is = v;
        makes = record { spot = by.spot ∙ placed.spot; ordinal = by.ordinal ∙ placed.ordinal; type = subst (λ n. Means tables.types n target) (sym by.type) means; made = by.made };
      }

  pub node_makes : (ty : ℕ) (target : Ty) (form : OpenForm) (t : TypedExpr) → Means tables.types ty target → IsNodeAt p ty form t → Makes tables p target form t
  node_makes ty target form t means is =
      record { spot = is.spot; ordinal = is.ordinal; type = subst (λ n. Means tables.types n target) (sym is.type) means; made = is.made }

  -- by what the code found of the value
  module _ (table : Table) (v : Typed) (target : Ty) (has : HasValue table p v) where
    same_by : (b : Bool) → is_same (meaning_of table v.ty) target ≡ b → is_same (value has.typing).type target ≡ b
    same_by b e = ap (λ t. is_same t target) (sym has.is.type) ∙ e

    null_too : (b : Bool) → (is_pointer target && v.is_null) ≡ b → (is_pointer target && (value has.typing).is_null) ≡ b
    null_too b e = ap (λ n. is_pointer target && n) (sym has.is.null) ∙ e

    pub alike_is : (t : TypedExpr) → how.Alike ≡ converting (is_same (meaning_of table v.ty) target) (is_pointer target && v.is_null) → IsValue tables folded p t → IsConverted tables folded p target t
    alike_is t e is = alike has.found (same_by true (alike_by _ _ e)) is

    pub null_is : (t : TypedExpr) → how.Null ≡ converting (is_same (meaning_of table v.ty) target) (is_pointer target && v.is_null) → Makes tables p target TypedForm-F.Null t →
        IsConverted tables folded p target t
    null_is t e is = let two = null_by _ _ e in null has.found (same_by false two.0) (null_too true two.1) is

    pub written_is : (t : TypedExpr) → how.Written ≡ converting (is_same (meaning_of table v.ty) target) (is_pointer target && v.is_null) → IsWritten tables folded p target t →
        IsConverted tables folded p target t
    written_is t e is = let two = written_by _ _ e in converted has.found (same_by false two.0) (null_too false two.1) is.is is.makes
