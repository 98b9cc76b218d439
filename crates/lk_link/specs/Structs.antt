-- When structs of several sources are one, and so their types (C99 6.2.7). Structs compare by their tags and
-- members, struct by struct; what finds no difference is a list of pairs that its own comparisons keep.
use Rattle.std.specs.Prelude.{◌≡◌, ◌⊎◌, ℕ, Bool, true, false, List, [], Option, Some, slice_get, unwrap_or, length, All}
use Rattle.std.specs.List.{AllZip}
use Rattle.std.specs.Option.{option_map, option_and_then}
use Rattle.lk_link.specs.Comparing.{SideTable}
use Rattle.lk_link.specs.Pairs.{IsAmong, AreAmong, IsLonger}
use Rattle.lk_link.specs.Sources.{Units, IsStruct, ComesBefore}
use Rattle.lk_link.specs.Types.{AreOne}
use Rattle.lk_link.specs.declared.place.SizeRule.{SizeRule}
use Rattle.lk_link.specs.declared.place.SizeRule.TheVariants.{Same, SameOrAbsent}
use Rattle.lk_link.specs.declared.place.StructOf.{StructOf}
use Rattle.lk_link.specs.declared.place.StructPair.{StructPair}
use Rattle.lk_link.specs.declared.place.TypeOf.{TypeOf}
use Rattle.lk_typed.specs.declared.unit.StructTag.{StructTag}
use Rattle.lk_typed.specs.declared.unit.TypedUnit.{TypedUnit}
use Rattle.lk_types.specs.Building.{IsTable}
use Rattle.lk_types.specs.Table.{is_empty, members_of}
use Rattle.lk_types.specs.declared.c_type.CType.{CType}
use Rattle.lk_types.specs.declared.member.StructMember.{StructMember}

-- a struct that a type of a source is made of
abbrev pub struct_in : ℕ → ℕ → StructOf
struct_in source a = record { source = source; number = a }

module _ (units : Units) where
  -- the types of a source
  abbrev pub types_in : ℕ → List CType
  types_in source = unwrap_or (option_map (λ unit. unit.types.types) (slice_get units source)) []

  -- the members of a struct, none where it is incomplete
  abbrev pub members_in : StructOf → List StructMember
  members_in s = unwrap_or (option_map (λ unit. members_of unit.types s.number) (slice_get units s.source)) []

  -- its tag, and whether it is declared at file scope
  abbrev pub tag_in : StructOf → Option StructTag
  tag_in s = option_and_then (λ unit. slice_get unit.structs s.number) (slice_get units s.source)

  abbrev pub tag_name : StructOf → Option (List ℕ)
  tag_name s = option_and_then (λ of. of.tag) (tag_in s)

  -- a struct of this tag at file scope
  abbrev pub IsOutside : StructOf → (tag : List ℕ) → Type 0
  IsOutside s name = tag_in s ≡ Some (record { tag = Some name; is_outside = true })

  pub record IsComplete (s : StructOf) (name : List ℕ) : Type 0 where
    pub outside : IsOutside s name
    pub complete : is_empty (members_in s) ≡ false

  -- the first of that tag, in the order of the sources
  pub record IsFirstComplete (s : StructOf) (name : List ℕ) : Type 0 where
    pub complete : IsComplete s name
    pub first : (t : StructOf) → IsComplete t name → ComesBefore t.source t.number s.source s.number → ⊥

  -- an incomplete struct of a tag at file scope that some source completes at file scope
  pub record IsCompletedBy (s t : StructOf) : Type 0 where
    pub name : List ℕ
    pub outside : IsOutside s name
    pub incomplete : is_empty (members_in s) ≡ true
    pub by : IsFirstComplete t name

  -- what a struct is in the program: an incomplete one of a tag at file scope is the first complete one of
  -- that tag, where there is one; each other is itself
  pub data Becomes (s : StructOf) : StructOf → Type 0 where
    completed : {t : StructOf} → IsCompletedBy s t → Becomes s t
    itself : ((t : StructOf) → IsCompletedBy s t → ⊥) → Becomes s s

  -- of each struct of a source what it is in the program
  pub record IsRowOf (source : ℕ) (row : List StructOf) : Type 0 where
    pub whole : (unit : TypedUnit) → slice_get units source ≡ Some unit →
        length row ≡ length unit.types.members
    pub each : (a : ℕ) (r : StructOf) → slice_get row a ≡ Some r →
        IsStruct units r × Becomes (struct_in source a) r

  -- the same of each source
  pub record AreResolved (rows : List (List StructOf)) : Type 0 where
    pub sources : length rows ≡ length units
    pub each : (s : ℕ) (row : List StructOf) → slice_get rows s ≡ Some row → IsRowOf s row

  -- the types of a source, and what its structs are in the program
  pub record IsSideOf (rows : List (List StructOf)) (source : ℕ) (side : SideTable) : Type 0 where
    pub unit : TypedUnit
    pub at : slice_get units source ≡ Some unit
    pub row : List StructOf
    pub row_at : slice_get rows source ≡ Some row
    pub is : side ≡ record { types = unit.types; becomes = row }
    pub table : IsTable unit.types

  -- two structs of sources
  pub record IsPair (pair : StructPair) : Type 0 where
    pub first : IsStruct units pair.first
    pub second : IsStruct units pair.second

  module _ (pairs : List StructPair) where
    -- structs of a type of one source and of a type of another are one: they become the same
    -- struct, or become a pair of these
    abbrev pub AreOneBy : (s z a b : ℕ) → Type 0
    AreOneBy s z a b =
        (pair : StructPair) × Becomes (struct_in s a) pair.first × Becomes (struct_in z b) pair.second
        × ((pair.first ≡ pair.second) ⊎ IsAmong pairs pair)

    -- types of two sources are one, where these pairs of structs are
    abbrev pub AreOneTypes : SizeRule → TypeOf → TypeOf → Type 0
    AreOneTypes rule t u =
        AreOne rule (AreOneBy t.source u.source) (types_in t.source) (types_in u.source) t.number u.number

    abbrev type_of : ℕ → StructMember → TypeOf
    type_of source member = record { source = source; number = member.ty }

    -- members have one name and one type
    abbrev pub AreOneMember : (s z : ℕ) → StructMember → StructMember → Type 0
    AreOneMember s z a b = (a.name ≡ b.name) × AreOneTypes Same (type_of s a) (type_of z b)

    -- two structs of different sources with one tag, or both without one, whose members are the
    -- same by name, order and type
    pub record HasNoDifference (pair : StructPair) : Type 0 where
      pub apart : pair.first.source ≡ pair.second.source → ⊥
      pub tags : tag_name pair.first ≡ tag_name pair.second
      pub members : AllZip (AreOneMember pair.first.source pair.second.source) (members_in pair.first)
          (members_in pair.second)

  -- pairs that their own comparisons keep
  abbrev pub AreKept : List StructPair → Type 0
  AreKept pairs = All (HasNoDifference pairs) pairs

  -- what was asked of pairs was answered with all that their comparisons need: they are
  -- kept, or no list that has them is
  pub record IsSettled (old new : List StructPair) (answer : Bool) : Type 0 where
    pub longer : IsLonger old new
    pub kept : answer ≡ true → AreKept new
    pub needed : (pairs : List StructPair) → AreKept pairs → AreAmong old pairs → answer ≡ true

  -- no comparison finds a difference between two structs. Of one source a struct is one with itself alone
  abbrev pub IsNoDifference : StructPair → Type 0
  IsNoDifference pair =
      (pair.first ≡ pair.second) ⊎ ((pairs : List StructPair) × AreKept pairs × IsAmong pairs pair)

  -- two types are one but for absent sizes of arrays: what two declarations of a name are asked
  abbrev pub AreDeclaredAlike : TypeOf → TypeOf → Type 0
  AreDeclaredAlike t u = (pairs : List StructPair) × AreKept pairs × AreOneTypes pairs SameOrAbsent t u
