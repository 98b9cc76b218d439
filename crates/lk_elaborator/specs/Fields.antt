-- The numbers of members, by their names (C99 6.5.2.3).
use Rattle.std.specs.Prelude.{ℕ, suc, ◌≡◌, Some, List, [], ◌∷◌, map, slice_get, if◌then◌else◌}
use Rattle.lk_typed.specs.Addresses.{value}
use Rattle.lk_typed.specs.Elaborated.{InPlace, typing_at}
use Rattle.lk_typed.specs.Env.{Name, is_name}
use Rattle.lk_typed.specs.Ty.{Ty, Pointer, Struct}
use Rattle.lk_typed.specs.Typing.{Typing}
use Rattle.lk_typed.specs.declared.members.Field.{Field}
use Rattle.lk_typed.specs.declared.members.Members.{Members}
use Rattle.lk_typed.specs.declared.members.Members.TheVariants.{Known}
use Rattle.lk_elaborator.specs.declared.elaborator.Elaborator.{Elaborator}

-- the number of a name among those of the members
abbrev pub number_of_name : List Name → Name → ℕ
number_of_name [] name = 0
number_of_name (other ∷ others) name = if is_name other name then 0 else suc (number_of_name others name)

-- it is that of the member of the struct
pub record IsFieldNumber (structs : List Members) (s : ℕ) (name : Name) (k : ℕ) : Type 0 where
  pub fields : List Field
  pub known : slice_get structs s ≡ Some (Known fields)
  pub number : k ≡ number_of_name (map (λ field. field.name) fields) name

-- of a struct type
pub record IsNumberIn (walk : Elaborator) (ty : Ty) (name : Name) (k : ℕ) : Type 0 where
  pub s : ℕ
  pub type : ty ≡ Struct s
  pub number : IsFieldNumber walk.names.structs s name k

-- of an object
pub record IsNumberOf (walk : Elaborator) (p : InPlace) (name : Name) (k : ℕ) : Type 0 where
  pub s : ℕ
  pub typing : Typing
  pub found : typing_at p ≡ Some typing
  pub type : typing.type ≡ Struct s
  pub number : IsFieldNumber walk.names.structs s name k

-- of what a pointer points to
pub record IsNumberBehind (walk : Elaborator) (p : InPlace) (name : Name) (k : ℕ) : Type 0 where
  pub s : ℕ
  pub typing : Typing
  pub found : typing_at p ≡ Some typing
  pub type : (value typing).type ≡ Pointer (Struct s)
  pub number : IsFieldNumber walk.names.structs s name k
