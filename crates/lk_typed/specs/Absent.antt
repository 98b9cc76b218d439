-- The cells of an object, and those of them that its initialiser doesn't name (C99 6.7.8, 21).
use Rattle.std.specs.Prelude.{ℕ, suc, ◌≡◌, ◌++◌, ◌<◌, ◌&&◌, Bool, true, false, Some, List, [], ◌∷◌, nat_eq, slice_get, if◌then◌else◌}
use Rattle.std.specs.List.{Contains}
use Rattle.lk_base.specs.declared.cell.CellStep.{CellStep}
use Rattle.lk_base.specs.declared.cell.CellStep.TheVariants.{Field, Index}
use Rattle.lk_typed.specs.Operators.{is_scalar}
use Rattle.lk_typed.specs.Ty.{Ty, Array, Struct, is_lock}
use Rattle.lk_typed.specs.declared.initialiser.AbsentCells.{AbsentCells}
use Rattle.lk_typed.specs.declared.initialiser.LocalPart.{LocalPart}
use Rattle.lk_typed.specs.declared.initialiser.LocalValue.{LocalValue}
use Rattle.lk_typed.specs.declared.initialiser.LocalValue.TheVariants as value

abbrev pub Path : Type 0
Path = List CellStep

-- ---- cells: what the steps lead to is a scalar, a mutex or a condition variable; `fields` has the types of the members of each struct

pub data IsCell (fields : ℕ → List Ty) : Ty → Path → Type 0 where
  scalar : {t : Ty} → is_scalar t ≡ true → IsCell fields t []
  lock : {t : Ty} → is_lock t ≡ true → IsCell fields t []
  element : {t : Ty} {n i : ℕ} {path : Path} → i < n → IsCell fields t path →
      IsCell fields (Array t n) (Index i ∷ path)
  member : {s k : ℕ} {t : Ty} {path : Path} → slice_get (fields s) k ≡ Some t → IsCell fields t path →
      IsCell fields (Struct s) (Field k ∷ path)

-- ---- paths

abbrev is_alike_step : CellStep → CellStep → Bool
is_alike_step (Field k) (Field j) = nat_eq k j
is_alike_step (Field k) (Index i) = false
is_alike_step (Index i) (Field k) = false
is_alike_step (Index i) (Index j) = true

-- they differ in indices alone, so they are of one place
abbrev pub are_alike : Path → Path → Bool
are_alike [] [] = true
are_alike [] (b ∷ bs) = false
are_alike (a ∷ as_) [] = false
are_alike (a ∷ as_) (b ∷ bs) = is_alike_step a b && are_alike as_ bs

-- one path stands before another: members in their order, indices counted up
pub data IsPathBefore : Path → Path → Type 0 where
  earlier_member : {k j : ℕ} {p q : Path} → k < j → IsPathBefore (Field k ∷ p) (Field j ∷ q)
  earlier_element : {i j : ℕ} {p q : Path} → i < j → IsPathBefore (Index i ∷ p) (Index j ∷ q)
  later_step : {a : CellStep} {p q : Path} → IsPathBefore p q → IsPathBefore (a ∷ p) (a ∷ q)

-- the same of places: whatever the indices
pub data IsPlaceBefore : Path → Path → Type 0 where
  earlier_member : {k j : ℕ} {p q : Path} → k < j → IsPlaceBefore (Field k ∷ p) (Field j ∷ q)
  same_member : {k : ℕ} {p q : Path} → IsPlaceBefore p q → IsPlaceBefore (Field k ∷ p) (Field k ∷ q)
  an_element : {i j : ℕ} {p q : Path} → IsPlaceBefore p q → IsPlaceBefore (Index i ∷ p) (Index j ∷ q)

-- ---- the cells that an initialiser names, in its order: each byte of a text is one

abbrev cells_of_bytes : Path → ℕ → List ℕ → List Path
cells_of_bytes path i [] = []
cells_of_bytes path i (byte ∷ bytes) = (path ++ Index i ∷ []) ∷ cells_of_bytes path (suc i) bytes

abbrev cells_of_value : Path → LocalValue → List Path
cells_of_value path (value.Expr e) = path ∷ []
cells_of_value path (value.Text spot ordinal bytes) = cells_of_bytes path 0 bytes
cells_of_value path value.Ready = path ∷ []

abbrev pub cells_named : List LocalPart → List Path
cells_named [] = []
cells_named (one ∷ others) = cells_of_value one.path one.value ++ cells_named others

abbrev pub those_alike : Path → List Path → List Path
those_alike path [] = []
those_alike path (one ∷ others) =
    if are_alike path one then one ∷ those_alike path others else those_alike path others

-- ---- the cells that it doesn't name

module _ (fields : ℕ → List Ty) (t : Ty) (parts : List LocalPart) where
  pub record IsAbsent (path : Path) : Type 0 where
    pub cell : IsCell fields t path
    pub unnamed : Contains (cells_named parts) path → ⊥

  -- those of one place: the first of them, and the cells of the place that are named
  pub record AreAbsentCells (cells : AbsentCells) : Type 0 where
    pub absent : IsAbsent cells.first
    pub first : (path : Path) → IsAbsent path → are_alike cells.first path ≡ true →
        IsPathBefore path cells.first → ⊥
    pub named : cells.named ≡ those_alike cells.first (cells_named parts)

  -- each place with an absent cell stands there once, in the order of places
  pub record AreAllAbsent (absent : List AbsentCells) : Type 0 where
    pub each : (i : ℕ) (cells : AbsentCells) → slice_get absent i ≡ Some cells → AreAbsentCells cells
    pub all : (path : Path) → IsAbsent path →
        (i : ℕ) × (cells : AbsentCells) × (slice_get absent i ≡ Some cells)
        × (are_alike cells.first path ≡ true)
    pub in_order : (i j : ℕ) (a b : AbsentCells) → i < j → slice_get absent i ≡ Some a →
        slice_get absent j ≡ Some b → IsPlaceBefore a.first b.first
