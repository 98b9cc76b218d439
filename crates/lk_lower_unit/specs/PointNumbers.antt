-- The numbers of points: they are the steps of all sources.
use Rattle.std.specs.Prelude.{◌≡◌, ◌<◌, ◌≤◌, ◌^◌, ℕ, All, Bool, false, List, [], ◌∷◌, Option, None, Some, slice_get, get_or, ⊤}
use Rattle.std.specs.Option.{is_some}
use Rattle.lk_facts.specs.declared.program.Program.{Program}
use Rattle.lk_lower_expr.specs.Lowering.{Counts, Numbers, StandsIn}
use Rattle.lk_lower_expr.specs.declared.step.Step.{Step}
use Rattle.lk_lower_unit.specs.Counting.{number_by}
use Rattle.lk_lower_unit.specs.Stands.{IsStepOf, NamesBy, PlacesBy}
use Rattle.lk_lower_unit.specs.declared.bases.Bases.{Bases}
use Rattle.lk_typed.specs.declared.unit.Local.{Local}
use Rattle.lk_typed.specs.declared.unit.TypedUnit.{TypedUnit}
use Rattle.lk_typed.specs.declared.whole.Linked.{Linked}
use Rattle.lk_typed.specs.declared.whole.Whole.{Whole}
use Rattle.lk_types.specs.Table.{type_at}

-- ---- one source

abbrev pub ordinal_of : Option Local → ℕ
ordinal_of None = 0
ordinal_of (Some local) = local.ordinal

abbrev pub slot_of : Option Local → Bool
slot_of None = false
slot_of (Some local) = local.is_slot

-- whatever the numbers are, the names say what the source does of types, of declared names,
-- and of which locals are slots
pub record SayOf (unit : TypedUnit) (names : NamesBy) : Type 0 where
  pub form : (locals : List Local) (t : ℕ) → (names locals).form t ≡ type_at unit.types t
  pub declared : (locals : List Local) (l : ℕ) →
      ((names locals).declared l).ordinal ≡ ordinal_of (slice_get locals l)
  pub slot : (locals : List Local) (l : ℕ) → is_some ((names locals).slot l) ≡ slot_of (slice_get locals l)

-- how many steps each node of the source has, whatever the numbers are
pub record CountsUnit (unit : TypedUnit) (counts : List ℕ) : Type 0 where
  pub each : (names : NamesBy) (places : PlacesBy) (function : ℕ → ℕ) (none o k : ℕ) → SayOf unit names →
      k < get_or counts o 0 → (is : Step) × (f : ℕ) × IsStepOf names places unit function none o k is f
  pub only : (names : NamesBy) (places : PlacesBy) (function : ℕ → ℕ) (none o k : ℕ) (is : Step) (f : ℕ) →
      SayOf unit names → IsStepOf names places unit function none o k is f → k < get_or counts o 0

-- ---- all sources

abbrev pub CountSources : List Linked → List (List ℕ) → Type 0
CountSources [] [] = ⊤
CountSources [] (counts ∷ others) = ⊥
CountSources (linked ∷ sources) [] = ⊥
CountSources (linked ∷ sources) (counts ∷ others) =
    CountsUnit linked.unit counts × CountSources sources others

abbrev pub HasStep : Whole → Numbers → Program → (s o k : ℕ) → Type 0
HasStep whole numbers program s o k =
    (is : Step) × (function : ℕ) × StandsIn whole numbers program s o k is function

-- whatever the other numbers of a program are, these number its points
pub record ArePointNumbers (whole : Whole) (found : Bases) : Type 0 where
  pub order : (numbers : Numbers) (program : Program) →
      ((s o k : ℕ) → numbers.point s o k ≡ number_by found.bases s o k) →
      Counts (HasStep whole numbers program) 0 found.count numbers.point
  pub few : found.count ≤ 65536
  -- so the names of each source are few
  pub small : (s : ℕ) → All (λ base. base < 2 ^ 31) (get_or found.bases s [])

-- each numbering of the points has more than that
abbrev pub HasMorePoints : Whole → ℕ → Type 0
HasMorePoints whole most = (numbers : Numbers) (program : Program) (count : ℕ) →
    Counts (HasStep whole numbers program) 0 count numbers.point → most < count
