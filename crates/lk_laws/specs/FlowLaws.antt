-- What edges join. Each law is the contract of a public function.
use Rattle.std.specs.Prelude.{◌≡◌, ℕ, Bool, true, List, [], ◌∷◌, Some, slice_get}
use Rattle.lk_facts.specs.EdgeRules.{IsInside, IsEdge, AreEdges}
use Rattle.lk_facts.specs.LabelRules.{IsLabel, IsOrigin, IsPart, IsWhole, AreLabels}
use Rattle.lk_facts.specs.Labels.{LabelTable, AreLabelsInRange, is_global_at}
use Rattle.lk_facts.specs.Lowered.{IsLowered}
use Rattle.lk_facts.specs.Paths.{HasEdge, InAll}
use Rattle.lk_facts.specs.Program.{root_of_function, value_site_of}
use Rattle.lk_facts.specs.Walks.{Walk}
use Rattle.lk_facts.specs.declared.edge.Edge.{Edge}
use Rattle.lk_facts.specs.declared.edge.Mark.{Mark}
use Rattle.lk_facts.specs.declared.label_entry.LabelName.{LabelName}
use Rattle.lk_facts.specs.declared.program.Program.{Program}
use Rattle.lk_facts.specs.declared.root.Holder.TheVariants.{Root}
use Rattle.lk_types.specs.Building.{IsTable}
use Rattle.lk_types.specs.Equal.{IsAlike}
use Rattle.lk_types.specs.Nodes.{node_of}
use Rattle.lk_types.specs.Objects.{stays_inside}
use Rattle.lk_types.specs.declared.node.Sel.{Sel}
use Rattle.lk_types.specs.declared.node.Sel.TheVariants.{Target, Part}

-- an edge joins two labels of the program, so that none is lost where labels are numbered
abbrev pub EdgesJoinLabels : Type 0
EdgesJoinLabels = (program : Program) (u v : LabelName) (m : Mark) → IsEdge program u v m →
    IsLabel program u × IsLabel program v

-- no edge ends at an origin
abbrev pub NoEdgeEndsAtAnOrigin : Type 0
NoEdgeEndsAtAnOrigin = (program : Program) (u v : LabelName) (m : Mark) → IsEdge program u v m →
    IsOrigin program v → ⊥

-- the type of what a label names
abbrev pub type_of : Program → LabelName → ℕ
type_of program x = (node_of program.types x.node).type

-- an edge joins labels of types that are equal but for the sizes of arrays, so that both have the same parts
abbrev pub EdgesJoinAlike : Type 0
EdgesJoinAlike =
    (program : Program) → IsTable program.types → IsLowered program → (u v : LabelName) (m : Mark) →
    IsEdge program u v m → IsAlike program.types.types (type_of program u) (type_of program v)

-- a function that flows to another label has a site of its own, by which calls through pointers go
abbrev pub FunctionsHaveSites : Type 0
FunctionsHaveSites =
    (program : Program) → IsLowered program → (names : List LabelName) (es : List Edge) →
    AreEdges program names es → (global origin : ℕ → Bool) (o b f r : ℕ) (x : LabelName) →
    slice_get names o ≡ Some x → IsWhole program (Root r) x → root_of_function program f ≡ Some r →
    InAll (HasEdge es) global origin b o → (o ≡ b → ⊥) → (i : ℕ) × (value_site_of program f ≡ Some i)

-- In a table of labels: the part of the one label to which a step leads that stays in its object, a field
-- or an element, is the other.
pub record IsFieldAt (program : Program) (labels : LabelTable) (s : Sel) (a b : ℕ) : Type 0 where
  pub whole : LabelName
  pub field : LabelName
  pub whole_at : slice_get labels.names a ≡ Some whole
  pub field_at : slice_get labels.names b ≡ Some field
  pub stays : stays_inside s ≡ true
  pub leads : IsInside program whole s field

-- fields and elements lead from the one label to the other
pub data LeadsTo (program : Program) (labels : LabelTable) : List Sel → ℕ → ℕ → Type 0 where
  here : {a : ℕ} → LeadsTo program labels [] a a
  into : {s : Sel} {path : List Sel} {a b c : ℕ} → IsFieldAt program labels s a b →
      LeadsTo program labels path b c → LeadsTo program labels (s ∷ path) a c

-- what the one label points to is the other
pub record PointsAt (program : Program) (labels : LabelTable) (a b : ℕ) : Type 0 where
  pub pointer : LabelName
  pub target : LabelName
  pub pointer_at : slice_get labels.names a ≡ Some pointer
  pub target_at : slice_get labels.names b ≡ Some target
  pub leads : IsPart program pointer Target target

-- the Part of what the `void *` of the one label points to is the other
pub record PointsAtPart (program : Program) (labels : LabelTable) (t : ℕ) (a b : ℕ) : Type 0 where
  pub pointer : LabelName
  pub void : LabelName
  pub part : LabelName
  pub pointer_at : slice_get labels.names a ≡ Some pointer
  pub part_at : slice_get labels.names b ≡ Some part
  pub leads : IsPart program pointer Target void
  pub part_of : IsInside program void (Part t) part

-- walks both ways
abbrev pub WalksBoth : List Edge → LabelTable → ℕ → List ℕ → ℕ → List ℕ → Type 0
WalksBoth es labels a c b d =
    Walk (HasEdge es) (is_global_at labels) a c b d × Walk (HasEdge es) (is_global_at labels) b d a c

-- Contents: where a walk leads from one label to another, and one path of fields and elements leads from
-- both to pointers, walks lead both ways between what these point to, and where that is void, between
-- its Parts, each in its context.
pub record HaveOneContent (program : Program) (labels : LabelTable) (es : List Edge) (o : ℕ) (c : List ℕ)
    (b : ℕ) (d : List ℕ) : Type 0 where
  pub targets : (path : List Sel) (x y s t : ℕ) → LeadsTo program labels path o x →
      LeadsTo program labels path b y → PointsAt program labels x s → PointsAt program labels y t →
      WalksBoth es labels s c t d
  pub parts : (path : List Sel) (n x y s t : ℕ) → LeadsTo program labels path o x →
      LeadsTo program labels path b y → PointsAtPart program labels n x s →
      PointsAtPart program labels n y t → WalksBoth es labels s c t d

abbrev pub Contents : Type 0
Contents =
    (program : Program) → IsTable program.types → IsLowered program → (labels : LabelTable) →
    AreLabels program labels → AreLabelsInRange labels → (es : List Edge) →
    AreEdges program labels.names es →
    (o b : ℕ) (c d : List ℕ) → Walk (HasEdge es) (is_global_at labels) o c b d →
    HaveOneContent program labels es o c b d
