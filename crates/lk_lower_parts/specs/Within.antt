-- The cells of the roots, as far as they are found. Only the private calls of this crate speak of them.
use Rattle.std.specs.Prelude.{◌≡◌, ◌<◌, ◌≤◌, ◌+◌, ◌⊎◌, ℕ, All, Bool, true, false, List, Some, Contains, length, slice_get}
use Rattle.lk_facts.specs.LabelRules.{IsWithin, Steps, form_of, is_function}
use Rattle.lk_facts.specs.declared.place.Place.{Place}
use Rattle.lk_facts.specs.declared.root.Root.{Root}
use Rattle.lk_facts.specs.declared.root.RootKind.{RootKind}
use Rattle.lk_facts.specs.declared.root.RootKind.TheVariants.{Global, Static, Local, Heap, Text, Argv, Args, Function}
use Rattle.lk_lower_parts.specs.TextOrder.{Ascend}
use Rattle.lk_lower_parts.specs.declared.places.Cells.{Cells}
use Rattle.lk_lower_parts.specs.declared.places.PartOf.{PartOf}
use Rattle.lk_types.specs.Objects.{is_mutex, is_value}
use Rattle.lk_types.specs.Nodes.{Node, node_of, step}
use Rattle.lk_types.specs.Sizes.{steps_of}
use Rattle.lk_types.specs.Table.{Table}
use Rattle.lk_types.specs.declared.c_type.CType.{CType}
use Rattle.lk_types.specs.declared.node.NodeId.{NodeId}
use Rattle.lk_types.specs.declared.node.Sel.{Sel}
use Rattle.lk_types.specs.declared.node.Sel.TheVariants.{Element, Field}

-- a root whose parts are cells: a text's can't be written, and a function has none
abbrev pub has_cells : RootKind → Bool
has_cells Global = true
has_cells Static = true
has_cells Local = true
has_cells (Heap one) = true
has_cells Text = false
has_cells Argv = true
has_cells Args = true
has_cells Function = false

-- how many cells there are
abbrev pub count_of_cells : Cells → ℕ
count_of_cells cells = length cells.values.items + length cells.locks.items

-- the root, by its place in the text and its number, is among these
abbrev pub HasRoot : List (ℕ × ℕ × ℕ × ℕ) → ℕ → Type 0
HasRoot order r = (file line col : ℕ) × Contains order (file, line, col, r)

-- all of so many roots are among them
abbrev pub HaveRoots : List (ℕ × ℕ × ℕ × ℕ) → ℕ → Type 0
HaveRoots order count = (r : ℕ) → r < count → HasRoot order r

-- and no others
abbrev pub AreRoots : List (ℕ × ℕ × ℕ × ℕ) → ℕ → Type 0
AreRoots order count = All (λ one. one.3 < count) order

module _ (table : Table) where
  -- how many steps at most lie below a node
  abbrev pub steps_below : NodeId → ℕ
  steps_below n = steps_of table (node_of table n).type

  -- the step leads to a part, below which lie fewer steps
  abbrev pub HasLower : NodeId → Sel → Type 0
  HasLower m sel =
      (to : Node) × (step table (node_of table m) sel ≡ Some to) × (steps_of table to.type < steps_below m)

  -- each of so many members is such a part
  abbrev pub HaveLower : NodeId → ℕ → Type 0
  HaveLower m count = (k : ℕ) → k < count → HasLower m (Field k)

  -- from the node m the node n is reached by Element and Field
  pub data Reaches (n : NodeId) : NodeId → Type 0 where
    itself : Reaches n n
    by_element : (m l : NodeId) → Steps table m Element l → Reaches n l → Reaches n m
    by_field : (m l : NodeId) (k : ℕ) → is_function (form_of table m) ≡ false → Steps table m (Field k) l →
        Reaches n l → Reaches n m

  -- the place is that of the part, or of one in it
  abbrev pub IsInPart : PartOf → Place → Type 0
  IsInPart part place = (place.root ≡ part.root) × Reaches place.node part.node

  -- the place is that of the part to which the step leads, or of one in it
  abbrev pub IsInInner : PartOf → Sel → Place → Type 0
  IsInInner part sel place =
      (place.root ≡ part.root) × ((l : NodeId) × Steps table part.node sel l × Reaches place.node l)

  -- the place is that of one of so many members, or of a part in one
  abbrev pub IsInMembers : PartOf → ℕ → Place → Type 0
  IsInMembers part count place =
      (place.root ≡ part.root)
      × ((k : ℕ) × (l : NodeId) × (k < count) × Steps table part.node (Field k) l × Reaches place.node l)

  -- the place is a part of the object of a root with cells
  pub record IsInObject (roots : List Root) (place : Place) : Type 0 where
    pub root : Root
    pub of : slice_get roots place.root ≡ Some root
    pub cells : has_cells root.kind ≡ true
    pub within : IsWithin table root.ty place.node

  -- the place is a part of the object of the root with this number
  abbrev pub IsInRoot : List Root → ℕ → Place → Type 0
  IsInRoot roots r place = (place.root ≡ r) × IsInObject roots place

  -- the place is a part of the object of one of these roots
  abbrev pub IsInRoots : List Root → List (ℕ × ℕ × ℕ × ℕ) → Place → Type 0
  IsInRoots roots order place = HasRoot order place.root × IsInObject roots place

  -- to these places such ones were added of which the form passes a test: all of
  -- them, unless they became too many
  pub record Adds (test : CType → Bool) (IsOne : Place → Type 0) (all : ℕ)
      (old new : List Place) : Type 0 where
    pub longer : length old ≤ length new
    pub kept : (place : Place) → Contains old place → Contains new place
    pub only : (place : Place) → Contains new place →
        Contains old place ⊎ (IsOne place × (test (form_of table place.node) ≡ true))
    pub each : all ≤ 65536 → (place : Place) → IsOne place → test (form_of table place.node) ≡ true →
        Contains new place

  -- to these cells those of such places were added
  pub record AddsCells (IsOne : Place → Type 0) (old new : Cells) : Type 0 where
    pub values : Adds is_value IsOne (count_of_cells new) old.values.items new.values.items
    pub locks : Adds is_mutex IsOne (count_of_cells new) old.locks.items new.locks.items

  -- these are the cells of such places: all of them, unless they became too many
  pub record AreCells (IsOne : Place → Type 0) (cells : Cells) : Type 0 where
    pub only_values : (place : Place) → Contains cells.values.items place →
        IsOne place × (is_value (form_of table place.node) ≡ true)
    pub only_locks : (place : Place) → Contains cells.locks.items place →
        IsOne place × (is_mutex (form_of table place.node) ≡ true)
    pub each_value : count_of_cells cells ≤ 65536 → (place : Place) → IsOne place →
        is_value (form_of table place.node) ≡ true → Contains cells.values.items place
    pub each_lock : count_of_cells cells ≤ 65536 → (place : Place) → IsOne place →
        is_mutex (form_of table place.node) ≡ true → Contains cells.locks.items place

-- cells of each kind stand in the order of the text
pub record AreInOrder (roots : List Root) (cells : Cells) : Type 0 where
  pub values : Ascend roots cells.values.items 0 (length cells.values.items)
  pub locks : Ascend roots cells.locks.items 0 (length cells.locks.items)
