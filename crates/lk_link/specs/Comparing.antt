-- Types of two tables compared, where of each struct of a table is known what it is in the program.
use Rattle.std.specs.Prelude.{◌≡◌, ◌⊎◌, ℕ, Bool, List, Some, slice_get}
use Rattle.std.specs.List.{AllZip}
use Rattle.lk_link.specs.Pairs.{IsAmong, IsAnswered}
use Rattle.lk_link.specs.Types.{AreOne, AreAllOne, HaveSizes}
use Rattle.lk_link.specs.declared.place.SizeRule.{SizeRule}
use Rattle.lk_link.specs.declared.place.SizeRule.TheVariants.{Same}
use Rattle.lk_link.specs.declared.place.StructOf.{StructOf}
use Rattle.lk_link.specs.declared.place.StructPair.{StructPair}
use Rattle.lk_types.specs.Table.{Table}
use Rattle.lk_types.specs.declared.c_type.CType.{CType}
use Rattle.lk_types.specs.declared.c_type.CType.TheVariants.{Void, Int, ThreadId, Mutex, Cond, Pointer, Array, Struct, Function, Opaque}
use Rattle.lk_types.specs.declared.member.StructMember.{StructMember}

-- a table of types, and what each of its structs is in the program
pub record SideTable : Type 0 where
  pub types : Table
  pub becomes : List StructOf

-- a pair of structs of two tables, as they are in the program
pub record IsOfSides (first second : SideTable) (pair : StructPair) : Type 0 where
  pub a : ℕ
  pub b : ℕ
  pub first_is : slice_get first.becomes a ≡ Some pair.first
  pub second_is : slice_get second.becomes b ≡ Some pair.second

-- what is asked of pairs was answered, and the further ones are of these tables
abbrev pub IsAnsweredHere : SideTable → SideTable → (old new : List StructPair) →
    (List StructPair → Type 0) → Bool → Type 0
IsAnsweredHere first second old new Asked answer = IsAnswered (IsOfSides first second) old new Asked answer

module _ (first second : SideTable) (pairs : List StructPair) where
  -- structs of the two tables are one in the program, or are one of these pairs there
  abbrev pub AreOnePair : ℕ → ℕ → Type 0
  AreOnePair a b =
      (pair : StructPair) × (slice_get first.becomes a ≡ Some pair.first)
      × (slice_get second.becomes b ≡ Some pair.second) ×
      ((pair.first ≡ pair.second) ⊎ IsAmong pairs pair)

  module _ (rule : SizeRule) where
    abbrev pub AreOneHere : ℕ → ℕ → Type 0
    AreOneHere t u = AreOne rule AreOnePair first.types.types second.types.types t u

    abbrev pub AreAllOneHere : List ℕ → List ℕ → Type 0
    AreAllOneHere ps qs = AreAllOne rule AreOnePair first.types.types second.types.types ps qs

    -- two forms are made in the same way of types that are one
    abbrev pub AreMadeAs : CType → CType → Type 0
    AreMadeAs Void form = form ≡ Void
    AreMadeAs (Int kind) form = form ≡ Int kind
    AreMadeAs ThreadId form = form ≡ ThreadId
    AreMadeAs Mutex form = form ≡ Mutex
    AreMadeAs Cond form = form ≡ Cond
    AreMadeAs (Pointer a) form = (b : ℕ) × (form ≡ Pointer b) × AreOneHere a b
    AreMadeAs (Array a n) form = (b m : ℕ) × (form ≡ Array b m) × HaveSizes rule n m × AreOneHere a b
    AreMadeAs (Struct a) form = (b : ℕ) × (form ≡ Struct b) × AreOnePair a b
    AreMadeAs (Function a ps dots) form =
        (b : ℕ) × (qs : List ℕ) × (form ≡ Function b qs dots) × AreOneHere a b × AreAllOneHere ps qs
    AreMadeAs (Opaque n) form = form ≡ Opaque n

  -- members have one name and one type
  abbrev pub AreOneMemberHere : StructMember → StructMember → Type 0
  AreOneMemberHere a b = (a.name ≡ b.name) × AreOneHere Same a.ty b.ty

  abbrev pub AreOneMembersHere : List StructMember → List StructMember → Type 0
  AreOneMembersHere members others = AllZip AreOneMemberHere members others
