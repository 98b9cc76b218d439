-- What the definitions imply. Each law is the contract of a public function.
use Rattle.std.specs.Prelude.{ℕ, ◌≡◌, ◌∷◌, false, Some, slice_get}
use Rattle.lk_types.specs.Building.{IsTable, IsLonger, IsClosed}
use Rattle.lk_types.specs.Nodes.{IsNode, node_of}
use Rattle.lk_types.specs.Predeclared.{HasPredeclared}
use Rattle.lk_types.specs.Sizes.{size_at, form_size, is_too_large, is_over}
use Rattle.lk_types.specs.Table.{Table, type_at, IsKnown}
use Rattle.lk_types.specs.Walks.{Entry, nodes, start, below_start}
use Rattle.lk_types.specs.declared.c_type.CType.TheVariants.{Pointer}
use Rattle.lk_types.specs.declared.node.NodeId.{NodeId}

-- no two entries of a walk have the same path
abbrev pub NoPathStandsTwice : Type 0
NoPathStandsTwice =
    (table : Table) (t i j : ℕ) (a b : Entry) → slice_get (nodes table t) i ≡ Some a →
    slice_get (nodes table t) j ≡ Some b → a.path ≡ b.path → i ≡ j

-- each node has one id
abbrev pub EqualNodesHaveEqualIds : Type 0
EqualNodesHaveEqualIds = (table : Table) (n m : NodeId) → IsNode table n → IsNode table m →
    node_of table n ≡ node_of table m → n ≡ m

-- the walk of a type is its Start and then the walks of its parts, whole
abbrev pub WalksAreOfParts : Type 0
WalksAreOfParts = (table : Table) → IsTable table → (t : ℕ) → IsKnown table t →
    nodes table t ≡ start t ∷ below_start (nodes table) table (type_at table t)

-- the size of a walk is that of its form
abbrev pub SizesAreOfParts : Type 0
SizesAreOfParts = (table : Table) → IsTable table → (t : ℕ) → IsKnown table t →
    size_at table t ≡ form_size table (type_at table t)

-- a table has room for the pointer to each type within the bounds of the language
abbrev pub PointersHaveRoom : Type 0
PointersHaveRoom = (table : Table) (t : ℕ) → is_too_large (size_at table t) ≡ false →
    is_over (form_size table (Pointer t)) ≡ false

-- and for the pointer to that
abbrev pub PointersToPointersHaveRoom : Type 0
PointersToPointersHaveRoom =
    (table : Table) → IsTable table → (t p : ℕ) → IsKnown table p → type_at table p ≡ Pointer t →
    is_too_large (size_at table t) ≡ false →
    is_over (form_size table (Pointer p)) ≡ false

-- the walk of a type that isn't an incomplete struct is the same in a later table
abbrev pub OlderWalksStay : Type 0
OlderWalksStay = (old new : Table) → IsTable old → IsLonger old new → (t : ℕ) → IsKnown old t →
    IsClosed old t → nodes new t ≡ nodes old t

-- the predeclared types stay
abbrev pub PredeclaredStay : Type 0
PredeclaredStay = (old new : Table) → IsLonger old new → HasPredeclared old → HasPredeclared new

abbrev pub LongerIsTransitive : Type 0
LongerIsTransitive = (a b c : Table) → IsLonger a b → IsLonger b c → IsLonger a c
