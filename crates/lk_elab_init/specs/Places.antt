-- Places of cells of an object: cells that differ in indices alone are of one place (C99 6.7.8, 21).
use Rattle.std.specs.Prelude.{ℕ, suc, ◌≡◌, ◌++◌, ◌<◌, ◌≤◌, false, true, Option, Some, None, List, [], ◌∷◌, length, nat_lt, slice_get, if◌then◌else◌}
use Rattle.lk_base.specs.declared.cell.CellStep.{CellStep}
use Rattle.lk_base.specs.declared.cell.CellStep.TheVariants.{Field, Index}
use Rattle.lk_typed.specs.Absent.{Path, those_alike}
use Rattle.lk_typed.specs.Operators.{is_scalar}
use Rattle.lk_typed.specs.Stands.{IsIn}
use Rattle.lk_typed.specs.Ty.{Ty, Array, Struct, is_array, is_lock, is_struct}
use Rattle.lk_typed.specs.declared.initialiser.AbsentCells.{AbsentCells}
use Rattle.lk_elab_init.specs.declared.advancing.Turn.{Turn}
use Rattle.lk_elab_init.specs.declared.advancing.Turn.TheVariants.{Member, Element}

-- ---- a place, by its turns

abbrev pub first_step : Turn → CellStep
first_step (Member k) = Field k
first_step (Element n) = Index 0

-- the first cell of a place
abbrev pub first_cell : List Turn → Path
first_cell [] = []
first_cell (turn ∷ way) = first_step turn ∷ first_cell way

-- the step behind one, where its array has another element
abbrev pub next_step : Turn → CellStep → Option CellStep
next_step (Member k) step = None
next_step (Element n) (Field k) = None
next_step (Element n) (Index i) = if nat_lt (suc i) n then Some (Index (suc i)) else None

abbrev pub carried : Option CellStep → List Turn → Option Path
carried None way = None
carried (Some step) way = Some (step ∷ first_cell way)

abbrev pub next_behind : Turn → CellStep → List Turn → Option Path → Option Path
next_behind turn step way (Some cell) = Some (step ∷ cell)
next_behind turn step way None = carried (next_step turn step) way

-- the next cell of a place
abbrev pub next_cell : List Turn → Path → Option Path
next_cell [] cell = None
next_cell (turn ∷ way) [] = None
next_cell (turn ∷ way) (step ∷ cell) = next_behind turn step way (next_cell way cell)

-- ---- the first cell of a place that is none of these

-- from a cell on, where each of these was the next one
pub data Walks (way : List Turn) : Path → List Path → Option Path → Type 0 where
  stops : {cell : Path} {named : List Path} → Walks way cell named (Some cell)
  is_last : {cell : Path} {named : List Path} → next_cell way cell ≡ None → Walks way cell (cell ∷ named) None
  goes_on : {cell next : Path} {named : List Path} {result : Option Path} → next_cell way cell ≡ Some next →
      Walks way next named result → Walks way cell (cell ∷ named) result

pub record IsFirstAbsent (way : List Turn) (named : List Path) (result : Option Path) : Type 0 where
  pub walks : Walks way (first_cell way) named result
  pub unnamed : (cell : Path) → result ≡ Some cell → IsIn cell named → ⊥

-- ---- the absent cells of an object, by places

-- those of a place
pub data IsPlacePut (named : List Path) (way : List Turn) : List AbsentCells → Type 0 where
  some : {cell : Path} → IsFirstAbsent way (those_alike (first_cell way) named) (Some cell) →
      IsPlacePut named way (record { first = cell; named = those_alike (first_cell way) named } ∷ [])
  none : IsFirstAbsent way (those_alike (first_cell way) named) None → IsPlacePut named way []

module _ (fields : ℕ → List Ty) (named : List Path) where
  mutual
    -- those of a part of this type, to which the way leads
    pub data ArePut : List Turn → Ty → List AbsentCells → Type 0 where
      a_scalar : {way : List Turn} {t : Ty} {absent : List AbsentCells} → is_scalar t ≡ true →
          IsPlacePut named way absent → ArePut way t absent
      a_lock : {way : List Turn} {t : Ty} {absent : List AbsentCells} → is_lock t ≡ true →
          IsPlacePut named way absent → ArePut way t absent
      an_array : {way : List Turn} {t : Ty} {n : ℕ} {absent : List AbsentCells} → 0 < n →
          ArePut (way ++ Element n ∷ []) t absent → ArePut way (Array t n) absent
      no_elements : {way : List Turn} {t : Ty} → ArePut way (Array t 0) []
      a_struct : {way : List Turn} {s : ℕ} {absent : List AbsentCells} → ArePutFrom way (fields s) 0 absent →
          ArePut way (Struct s) absent
      no_object : {way : List Turn} {t : Ty} → is_scalar t ≡ false → is_lock t ≡ false → is_array t ≡ false →
          is_struct t ≡ false → ArePut way t []

    -- those of members of these types, the first of which is the member k
    pub data ArePutFrom : List Turn → List Ty → ℕ → List AbsentCells → Type 0 where
      no_more : {way : List Turn} {ts : List Ty} {k : ℕ} → length ts ≤ k → ArePutFrom way ts k []
      member : {way : List Turn} {ts : List Ty} {k : ℕ} {t : Ty} {absent others : List AbsentCells} →
          slice_get ts k ≡ Some t → ArePut (way ++ Member k ∷ []) t absent →
          ArePutFrom way ts (suc k) others → ArePutFrom way ts k (absent ++ others)
