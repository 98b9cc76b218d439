-- What comes of making a type.
use Rattle.std.specs.Prelude.{ℕ, ◌≡◌, ⊤, Bool, true, false, Option, List, map, MatchOption}
use Rattle.lk_types.specs.Building.{types_of as member_types}
use Rattle.lk_types.specs.Table.{Table, IsKnown, members_of}
use Rattle.lk_types.specs.declared.c_type.CType.{CType}
use Rattle.lk_types.specs.declared.c_type.CType.TheVariants as forms
use Rattle.lk_typed.specs.Bounds.{is_large}
use Rattle.lk_typed.specs.DeclaratorRules.{adjusted}
use Rattle.lk_typed.specs.Meaning.{meaning}
use Rattle.lk_typed.specs.Ty.{Ty, Pointer, Function, types_of}

abbrev pub function_tree : Table → ℕ → List ℕ → Bool → Ty
function_tree table returned params dots =
    Function (meaning table returned) (types_of (map (meaning table) params)) dots

-- the types of the members of each struct, as the table has them
abbrev pub AreFields : Table → (ℕ → List Ty) → Type 0
AreFields table fields = (s : ℕ) → fields s ≡ map (meaning table) (member_types (members_of table s))

abbrev pub IsLarge : Table → Ty → Bool → Type 0
IsLarge table tree large = (fields : ℕ → List Ty) → AreFields table fields → is_large fields tree ≡ large

-- the type is there, and is within the bounds of the language
pub record IsThere (old new : Table) (tree : Ty) (t : ℕ) : Type 0 where
  pub known : IsKnown new t
  pub means : meaning new t ≡ tree
  pub small : IsLarge old tree false

-- the type was made, or is over one of the bounds of the language
abbrev pub IsMade : Table → Table → Ty → Option ℕ → Type 0
IsMade old new tree answer = MatchOption answer (IsLarge old tree true) (IsThere old new tree)

-- a type that is derived from others (C99 6.2.5, 20), but no struct
abbrev pub IsDerived : CType → Type 0
IsDerived forms.Void = ⊥
IsDerived (forms.Int k) = ⊥
IsDerived forms.ThreadId = ⊥
IsDerived forms.Mutex = ⊥
IsDerived forms.Cond = ⊥
IsDerived (forms.Pointer t) = ⊤
IsDerived (forms.Array t n) = ⊤
IsDerived (forms.Struct s) = ⊥
IsDerived (forms.Function r ps dots) = ⊤
IsDerived (forms.Opaque n) = ⊥

-- a parameter's type is adjusted to a pointer to this type, or stays as it is
abbrev pub IsAdjusted : Table → Ty → Option ℕ → Type 0
IsAdjusted table tree target =
    MatchOption target (adjusted tree ≡ tree) (λ u. adjusted tree ≡ Pointer (meaning table u))
