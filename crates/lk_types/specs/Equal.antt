-- When two types count as one although an array in them has another size.
use Rattle.std.specs.Prelude.{ℕ, ◌≡◌, ◌⊎◌, Bool, List, [], ◌∷◌, Some, slice_get, ⊤}
use Rattle.lk_types.specs.declared.c_type.CType.{CType}
use Rattle.lk_types.specs.declared.c_type.CType.TheVariants.{Pointer, Array, Function}

mutual
  -- two types are the same, or are made in the same way of such types, where sizes of
  -- arrays may differ as Sizes says
  pub data IsEqualBut (Sizes : ℕ → ℕ → Type 0) (types : List CType) : ℕ → ℕ → Type 0 where
    same : {a b : ℕ} → a ≡ b → IsEqualBut Sizes types a b
    pointers : {a b s t : ℕ} → slice_get types a ≡ Some (Pointer s) → slice_get types b ≡ Some (Pointer t) →
        IsEqualBut Sizes types s t → IsEqualBut Sizes types a b
    arrays : {a b s t n m : ℕ} → slice_get types a ≡ Some (Array s n) → slice_get types b ≡ Some (Array t m) →
        IsEqualBut Sizes types s t → Sizes n m → IsEqualBut Sizes types a b
    functions : {a b r s : ℕ} {ps qs : List ℕ} {dots : Bool} → slice_get types a ≡ Some (Function r ps dots) →
        slice_get types b ≡ Some (Function s qs dots) → IsEqualBut Sizes types r s →
        AreEqualBut Sizes types ps qs → IsEqualBut Sizes types a b

  pub data AreEqualBut (Sizes : ℕ → ℕ → Type 0) (types : List CType) : List ℕ → List ℕ → Type 0 where
    none : AreEqualBut Sizes types [] []
    more : {a b : ℕ} {ps qs : List ℕ} → IsEqualBut Sizes types a b → AreEqualBut Sizes types ps qs →
        AreEqualBut Sizes types (a ∷ ps) (b ∷ qs)

-- all sizes, and none, count as one
abbrev pub AnySizes : ℕ → ℕ → Type 0
AnySizes n m = ⊤

-- an array type without a size equals one with a size
abbrev pub SizesOrNone : ℕ → ℕ → Type 0
SizesOrNone n m = (n ≡ m) ⊎ (n ≡ 0) ⊎ (m ≡ 0)

-- equal but for the sizes of arrays
abbrev pub IsAlike : List CType → ℕ → ℕ → Type 0
IsAlike types a b = IsEqualBut AnySizes types a b

-- equal but for absent sizes, as two declarations of one object may be (C99 6.2.7)
abbrev pub IsRedeclarable : List CType → ℕ → ℕ → Type 0
IsRedeclarable types a b = IsEqualBut SizesOrNone types a b

-- two forms are made in the same way of types that are equal but for absent sizes
abbrev pub AreMadeAlike : List CType → CType → CType → Type 0
AreMadeAlike types (Pointer s) (Pointer t) = IsRedeclarable types s t
AreMadeAlike types (Array s n) (Array t m) = SizesOrNone n m × IsRedeclarable types s t
AreMadeAlike types (Function r ps dots) (Function s qs dots') =
    (dots ≡ dots') × IsRedeclarable types r s × AreEqualBut SizesOrNone types ps qs
AreMadeAlike types _ _ = ⊥
