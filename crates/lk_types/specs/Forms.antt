-- Lists of forms, each once, with something that is kept of it.
use Rattle.std.specs.Prelude.{ℕ, ◌≡◌, List, Some, slice_get}
use Rattle.lk_types.specs.declared.c_type.CType.{CType}

module _ {V : Type 0} where
  -- the form stands at this place
  abbrev pub IsAt : List (CType × V) → CType → ℕ → Type 0
  IsAt entries form place = (kept : V) × (slice_get entries place ≡ Some (form, kept))

  -- the form stands nowhere
  abbrev pub IsAbsent : List (CType × V) → CType → Type 0
  IsAbsent entries form = (place : ℕ) (kept : V) → slice_get entries place ≡ Some (form, kept) → ⊥

  -- no form stands at two places
  abbrev pub AreApart : List (CType × V) → Type 0
  AreApart entries = (form : CType) (i j : ℕ) (kept other : V) → slice_get entries i ≡ Some (form, kept) →
      slice_get entries j ≡ Some (form, other) → i ≡ j
