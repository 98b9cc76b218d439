-- The numbers of the structs of a source, one for each, and each below the count of the program's structs.
use Rattle.std.proofs.Common.{◌≡◌, ◌∙◌, ◌<◌, ◌≤◌, ◌^◌, ℕ, List, Some, All, arith, get_or, length, ap, subst, sym}
use Rattle.std.proofs.lemmas.List.Elements.{All-from_get_or}
use Rattle.std.proofs.lemmas.Option.{slice_get-get_or}
use Rattle.std.specs.List.{slice_get}
use Rattle.lk_link.specs.Sources.{Units}
use Rattle.lk_typed.specs.declared.unit.TypedUnit.{TypedUnit}
use Rattle.lk_join.specs.Classes.{AreNumbers}

module _ (units : Units) (rows : List (List ℕ)) (count : ℕ) (numbers : AreNumbers units rows count) (s : ℕ) (unit : TypedUnit) (at : slice_get units s ≡ Some unit)
    (row : List ℕ) (row_at : slice_get rows s ≡ Some row) (given : List ℕ) (same : given ≡ row) where
  pub one_each : length given ≡ length unit.types.members
  one_each = ap length same ∙ numbers.row s unit row at row_at

  -- all are below a bound of the count
  pub structs_within : (bound : ℕ) → count ≤ bound → All (λ number. number < bound) given
  structs_within bound more = subst (All (λ number. number < bound)) (sym same)
      (All-from_get_or (λ number. number < bound) row 0
      (λ i less. let below = numbers.below (record { source = s; number = i }) (get_or row i 0) (row, row_at, slice_get-get_or row i 0 less) in omega (arith, below, more)))

  pub few_structs : count < 2 ^ 32 → All (λ number. number < 2 ^ 32) given
  few_structs few = subst (All (λ number. number < 2 ^ 32)) (sym same)
      (All-from_get_or (λ number. number < 2 ^ 32) row 0
      (λ i less. let below = numbers.below (record { source = s; number = i }) (get_or row i 0) (row, row_at, slice_get-get_or row i 0 less) in omega (arith, below, few)))
