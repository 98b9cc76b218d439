-- An array of characters may be put into a table: it is small, and has few elements.
use Rattle.std.proofs.Common.{◌≡◌, ◌∙◌, ◌<◌, ◌*◌, ◌^◌, ℕ, false, sym, ap, subst, arith}
use Rattle.lk_base.specs.declared.kind.Kind.TheVariants as kind
use Rattle.lk_types.specs.Building.{IsForm}
use Rattle.lk_types.specs.Sizes.{form_size, size_at, start_size, with_part, is_over}
use Rattle.lk_types.specs.Table.{Table, is_complete_form}
use Rattle.lk_types.specs.declared.c_type.CType.TheVariants as forms
use Rattle.lk_types.proofs.Fuel.{sizes_are_of_parts}
use Rattle.lk_typed.specs.DeclaratorRules.{elements}
use Rattle.lk_typed.specs.Elements.{IsFew}
use Rattle.lk_typed.specs.Meaning.{IsReady}
use Rattle.lk_typed.proofs.FirstTypes.{kind_known, kind_means}
use Rattle.lk_check_expr.proofs.LibraryTypes.{char_at}

module _ (table : Table) (ready : IsReady table) (n : ℕ) where
  char_size : size_at table 2 ≡ start_size
  char_size = sizes_are_of_parts table ready.table_is 2 (kind_known table ready kind.Char) ∙ ap (form_size table) (char_at table ready)

  pub may_stand : IsForm table (forms.Array 2 n)
  may_stand = record { known = kind_known table ready kind.Char; complete = ap (is_complete_form table) (char_at table ready) }

  pub is_small : is_over (form_size table (forms.Array 2 n)) ≡ false
  is_small = ap (λ size. is_over (with_part start_size size)) char_size

  pub has_few : n < 2 ^ 64 → IsFew table (forms.Array 2 n)
  has_few few = subst (λ t. n * elements t < 2 ^ 64) (sym (kind_means table ready kind.Char)) (omega (arith, few))
