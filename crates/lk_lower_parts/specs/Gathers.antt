-- How the roots and slots of all sources are put together, and numbered.
use Rattle.std.specs.Prelude.{◌≡◌, ◌<◌, ◌⊎◌, ◌+◌, ◌-◌, ◌++◌, ℕ, suc, Bool, true, false, List, [], ◌∷◌, Option, None, Some, length, map, slice_get, get_or, ⊤}
use Rattle.std.specs.List.{Contains}
use Rattle.lk_base.specs.declared.spot.Spot.{Spot}
use Rattle.lk_facts.specs.Program.{root_at}
use Rattle.lk_facts.specs.declared.program.Program.{Program}
use Rattle.lk_facts.specs.declared.root.Root.{Root}
use Rattle.lk_facts.specs.declared.root.RootKind.{RootKind}
use Rattle.lk_facts.specs.declared.root.RootKind.TheVariants as kind
use Rattle.lk_lower_expr.specs.Lowering.{Counts, Numbers}
use Rattle.lk_lower_expr.specs.Programs.{HasRoot, HasSlot, IsBody, IsRoot, IsSlot}
use Rattle.lk_lower_parts.specs.Givens.{at_node}
use Rattle.lk_lower_parts.specs.Tables.{AreArgumentTypes}
use Rattle.lk_lower_parts.specs.Wanted.{AreAmong, AreLater, AreSlots, Source, all_roots, seen, slots_in}
use Rattle.lk_lower_parts.specs.declared.counts.FunctionNumbers.{FunctionNumbers}
use Rattle.lk_lower_parts.specs.declared.numbers.Gathering.{Gathering}
use Rattle.lk_lower_parts.specs.declared.numbers.NodeAt.{NodeAt}
use Rattle.lk_lower_parts.specs.declared.numbers.Numbered.{Numbered}
use Rattle.lk_lower_parts.specs.declared.roots.NodeRoot.{NodeRoot}
use Rattle.lk_lower_parts.specs.declared.roots.NodeSlot.{NodeSlot}
use Rattle.lk_lower_parts.specs.declared.roots.SourceAt.{SourceAt}
use Rattle.lk_lower_parts.specs.declared.start.Main.{Main}
use Rattle.lk_lower_parts.specs.declared.types.ArgumentTypes.{ArgumentTypes}
use Rattle.lk_typed.specs.declared.unit.Body.{Body}
use Rattle.lk_typed.specs.declared.whole.Linked.{Linked}
use Rattle.lk_typed.specs.declared.whole.Whole.{Whole}
use Rattle.lk_types.specs.Table.{Table}
use Rattle.lk_types.specs.declared.c_type.CType.{CType}

-- ---- roots and slots of a source, at their nodes

abbrev pub root_of : NodeRoot → Root
root_of one = one.root

abbrev pub node_of : (s : ℕ) → NodeRoot → NodeAt
node_of s one = record { source = s; ordinal = one.ordinal }

abbrev pub type_of : NodeSlot → ℕ
type_of slot = slot.ty

abbrev pub slot_node : (s : ℕ) → NodeSlot → NodeAt
slot_node s slot = record { source = s; ordinal = slot.ordinal }

abbrev pub types_of : List NodeSlot → List ℕ
types_of list = map type_of list

abbrev pub slot_nodes : (s : ℕ) → List NodeSlot → List NodeAt
slot_nodes s list = map (slot_node s) list

-- ---- order

abbrev pub IsNodeBefore : NodeAt → NodeAt → Type 0
IsNodeBefore a b = (a.source < b.source) ⊎ ((a.source ≡ b.source) × (a.ordinal < b.ordinal))

-- each of these nodes stands before the next
abbrev pub Rise : List NodeAt → Type 0
Rise nodes = (n : ℕ) (a b : NodeAt) → slice_get nodes n ≡ Some a →
    slice_get nodes (suc n) ≡ Some b → IsNodeBefore a b

-- they have their numbers from `first` on
abbrev pub HaveNumbers : List (List ℕ) → (first : ℕ) → List NodeAt → Type 0
HaveNumbers by_node first nodes = (n : ℕ) (a : NodeAt) → slice_get nodes n ≡ Some a →
    at_node by_node a.source a.ordinal ≡ first + n

pub record AreInOrder (by_node : List (List ℕ)) (first : ℕ) (nodes : List NodeAt) : Type 0 where
  pub rise : Rise nodes
  pub numbered : HaveNumbers by_node first nodes

abbrev pub AreAllInOrder : List (List ℕ) → List (List NodeAt) → Type 0
AreAllInOrder by_node rows = (k : ℕ) (nodes : List NodeAt) → slice_get rows k ≡ Some nodes →
    AreInOrder by_node 0 nodes

-- there are more types than the number of that of any of these roots
abbrev pub HaveKnownTypes : ℕ → List Root → Type 0
HaveKnownTypes count roots = (k : ℕ) (root : Root) → slice_get roots k ≡ Some root → root.ty < count

-- ---- main's arguments

abbrev pub argument : RootKind → (ty : ℕ) → Spot → Root
argument kind ty spot =
    record { kind = kind; ty = ty; spot = spot; name = []; function = None; point = None; bytes = [] }

abbrev pub argument_roots : Spot → Option ArgumentTypes → List Root
argument_roots spot None = []
argument_roots spot (Some types) =
    argument kind.Argv types.strings spot ∷ (argument kind.Args types.chars spot ∷ [])

-- the types of the objects of main's arguments are there where it has parameters
abbrev pub AreTheirTypes : (has_parameters : Bool) → Table → Option ArgumentTypes → Type 0
AreTheirTypes true table None = ⊥
AreTheirTypes true table (Some types) = AreArgumentTypes table types
AreTheirTypes false table None = ⊤
AreTheirTypes false table (Some types) = ⊥

abbrev pub count_arguments : (has_parameters : Bool) → ℕ
count_arguments true = 2
count_arguments false = 0

-- no more than the roots of main's arguments
pub record IsBegun (spot : Spot) (types : Option ArgumentTypes) (now : Gathering) : Type 0 where
  pub roots : now.roots.items ≡ argument_roots spot types
  pub nodes : now.nodes.items ≡ []
  pub slots : now.slots.items ≡ []
  pub slot_nodes_ : now.slot_nodes.items ≡ []

-- the same roots and slots, which have their numbers
pub record IsFinished (gathering : Gathering) (arguments types : ℕ) (found : Numbered) : Type 0 where
  pub roots : found.roots.items ≡ gathering.roots.items
  pub slots : found.slots.items ≡ gathering.slots.items
  pub in_order : AreInOrder found.by_node.items arguments gathering.nodes.items
  pub slots_in_order : AreAllInOrder found.by_node.items gathering.slot_nodes.items
  pub typed : HaveKnownTypes types found.roots.items

-- ---- sources

module _ (whole : Whole) (functions : FunctionNumbers) (points : List (List ℕ)) where
  abbrev pub source_in : (s : ℕ) → Linked → Source
  source_in s linked =
      record { whole = whole; linked = linked; source = s; first = get_or functions.first s 0; points = get_or points s [] }

  -- it is the source of this place
  abbrev pub IsSourceOf : (s : ℕ) → SourceAt → Type 0
  IsSourceOf s at =
      (linked : Linked) × (slice_get whole.sources s ≡ Some linked) × (seen at ≡ source_in s linked)

  -- what the source s has is put behind what the sources before it have
  pub record AddsSource (s : ℕ) (table : Table) (old new : Gathering) : Type 0 where
    pub linked : Linked
    pub source : slice_get whole.sources s ≡ Some linked
    pub found : List NodeRoot
    pub roots : new.roots.items ≡ old.roots.items ++ map root_of found
    pub nodes : new.nodes.items ≡ old.nodes.items ++ map (node_of s) found
    pub are_roots : (forms : List CType) → AreLater table forms →
        AreAmong (all_roots (source_in s linked) forms) found
    pub lists : List (List NodeSlot)
    pub slots : new.slots.items ≡ old.slots.items ++ map types_of lists
    pub slot_nodes_ : new.slot_nodes.items ≡ old.slot_nodes.items ++ map (slot_nodes s) lists
    pub are_slots : AreSlots (source_in s linked) linked.unit.bodies lists
    pub behind : length old.slots.items ≡ get_or functions.first s 0

  -- what the sources before the source s have, behind the roots of main's arguments
  pub record Gathered (arguments : List Root) (s : ℕ) (table : Table) (now : Gathering) : Type 0 where
    pub more : List Root
    pub roots : now.roots.items ≡ arguments ++ more
    pub as_many : length more ≡ length now.nodes.items
    pub each : (forms : List CType) → AreLater table forms → (t : ℕ) (linked : Linked) → t < s →
        slice_get whole.sources t ≡ Some linked → (x : NodeRoot) →
        Contains (all_roots (source_in t linked) forms) x →
        (n : ℕ) × (slice_get now.nodes.items n ≡ Some (node_of t x)) × (slice_get more n ≡ Some x.root)
    pub only : (forms : List CType) → AreLater table forms → (n : ℕ) (a : NodeAt) (root : Root) →
        slice_get now.nodes.items n ≡ Some a → slice_get more n ≡ Some root →
        (linked : Linked) × (slice_get whole.sources a.source ≡ Some linked)
        × Contains (all_roots (source_in a.source linked) forms) (record { ordinal = a.ordinal; root = root })
    pub as_many_slots : length now.slots.items ≡ length now.slot_nodes.items
    pub slots : (t b : ℕ) (linked : Linked) (body : Body) → t < s → IsBody whole.sources t b linked body →
        (list : List NodeSlot) × (slice_get now.slots.items (get_or functions.first t 0 + b)
        ≡ Some (types_of list)) × (slice_get now.slot_nodes.items (get_or functions.first t 0 + b)
        ≡ Some (slot_nodes t list)) ×
        AreAmong (slots_in (source_in t linked) body) list

  -- the numbers of the program are those that are found
  pub record AreNumbersOf (table : Table) (found : Numbered) (numbers : Numbers)
      (program : Program) : Type 0 where
    pub root : (s o : ℕ) → numbers.root s o ≡ at_node found.by_node.items s o
    pub slot : (s o : ℕ) → numbers.slot s o ≡ at_node found.by_node.items s o
    pub function : (s b : ℕ) → s < length whole.sources →
        numbers.function s b ≡ get_or functions.first s 0 + b
    pub point : (s o : ℕ) → numbers.point s o 0 ≡ at_node points s o
    pub roots : program.roots ≡ found.roots.items
    pub types : AreLater table program.types.types

-- ---- what they are in a program

-- the slots of a body, by their types
pub record AreSlotsOf (whole : Whole) (numbers : Numbers) (program : Program) (s b : ℕ)
    (types : List ℕ) : Type 0 where
  pub order : Counts (HasSlot whole numbers program s b) 0 (length types) (λ t o k. numbers.slot t o)
  pub each : (o type : ℕ) → IsSlot whole numbers program s b o type →
      slice_get types (numbers.slot s o) ≡ Some type

-- the roots and slots of the program, behind so many roots of main's arguments
pub record AreRootsAndSlots (whole : Whole) (numbers : Numbers) (program : Program) (arguments : ℕ)
    (slots : List (List ℕ)) : Type 0 where
  pub order : Counts (HasRoot whole numbers program) arguments (length program.roots - arguments)
      (λ s o k. numbers.root s o)
  pub each : (s o : ℕ) (is : Root) → IsRoot whole numbers program s o is →
      root_at program (numbers.root s o) ≡ Some is
  pub slots_ : (s b : ℕ) (linked : Linked) (body : Body) → IsBody whole.sources s b linked body →
      (types : List ℕ) × (slice_get slots (numbers.function s b) ≡ Some types)
      × AreSlotsOf whole numbers program s b types

-- in each program with these numbers they are its roots and slots
pub record AreNumbered (whole : Whole) (functions : FunctionNumbers) (main : Main) (points : List (List ℕ))
    (table : Table) (found : Numbered) : Type 0 where
  pub types : Option ArgumentTypes
  pub are_types : AreTheirTypes main.has_parameters table types
  pub more : List Root
  pub arguments : found.roots.items ≡ argument_roots main.spot types ++ more
  pub are : (numbers : Numbers) (program : Program) →
      AreNumbersOf whole functions points table found numbers program →
      AreRootsAndSlots whole numbers program (count_arguments main.has_parameters) found.slots.items
