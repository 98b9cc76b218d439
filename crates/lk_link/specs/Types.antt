-- When types of two tables are one (C99 6.2.7): they are made in the same way of the same
-- types, and their structs are one.
use Rattle.std.specs.Prelude.{◌≡◌, ℕ, Bool, List, [], ◌∷◌, Some, slice_get, ⊤}
use Rattle.lk_link.specs.declared.place.SizeRule.{SizeRule}
use Rattle.lk_link.specs.declared.place.SizeRule.TheVariants.{Same, SameOrAbsent}
use Rattle.lk_types.specs.Equal.{SizesOrNone}
use Rattle.lk_types.specs.declared.c_type.CType.{CType}
use Rattle.lk_types.specs.declared.c_type.CType.TheVariants.{Void, Int, ThreadId, Mutex, Cond, Pointer, Array, Struct, Function, Opaque}

-- a form that is made of no other type
abbrev pub IsPlain : CType → Type 0
IsPlain Void = ⊤
IsPlain (Int kind) = ⊤
IsPlain ThreadId = ⊤
IsPlain Mutex = ⊤
IsPlain Cond = ⊤
IsPlain (Pointer t) = ⊥
IsPlain (Array t n) = ⊥
IsPlain (Struct s) = ⊥
IsPlain (Function result params dots) = ⊥
IsPlain (Opaque n) = ⊤

-- how the numbers of elements of two arrays compare
abbrev pub HaveSizes : SizeRule → ℕ → ℕ → Type 0
HaveSizes Same n m = n ≡ m
HaveSizes SameOrAbsent n m = SizesOrNone n m

mutual
  -- the type t of one table and the type u of another are one, where structs are one as OneStruct says
  pub data AreOne (rule : SizeRule) (OneStruct : ℕ → ℕ → Type 0) (ts us : List CType) : ℕ → ℕ → Type 0 where
    plain : {t u : ℕ} {form : CType} → slice_get ts t ≡ Some form → slice_get us u ≡ Some form →
        IsPlain form → AreOne rule OneStruct ts us t u
    pointers : {t u a b : ℕ} → slice_get ts t ≡ Some (Pointer a) → slice_get us u ≡ Some (Pointer b) →
        AreOne rule OneStruct ts us a b → AreOne rule OneStruct ts us t u
    arrays : {t u a b n m : ℕ} → slice_get ts t ≡ Some (Array a n) → slice_get us u ≡ Some (Array b m) →
        HaveSizes rule n m → AreOne rule OneStruct ts us a b → AreOne rule OneStruct ts us t u
    structs : {t u a b : ℕ} → slice_get ts t ≡ Some (Struct a) → slice_get us u ≡ Some (Struct b) →
        OneStruct a b → AreOne rule OneStruct ts us t u
    functions : {t u a b : ℕ} {ps qs : List ℕ} {dots : Bool} → slice_get ts t ≡ Some (Function a ps dots) →
        slice_get us u ≡ Some (Function b qs dots) → AreOne rule OneStruct ts us a b →
        AreAllOne rule OneStruct ts us ps qs → AreOne rule OneStruct ts us t u

  -- the types of two lists, one by one
  pub data AreAllOne (rule : SizeRule) (OneStruct : ℕ → ℕ → Type 0) (ts us : List CType) : List ℕ →
      List ℕ → Type 0 where
    none : AreAllOne rule OneStruct ts us [] []
    more : {t u : ℕ} {ps qs : List ℕ} → AreOne rule OneStruct ts us t u →
        AreAllOne rule OneStruct ts us ps qs → AreAllOne rule OneStruct ts us (t ∷ ps) (u ∷ qs)
