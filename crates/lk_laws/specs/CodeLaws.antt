-- What walks say of the parts of what they lead to, and of what flows through functions that they lead to.
-- Each law is the contract of a public function.
use Rattle.std.specs.Prelude.{◌≡◌, ℕ, suc, List, Some, slice_get}
use Rattle.lk_facts.specs.EdgeRules.{IsInside, IsBehind, AreEdges}
use Rattle.lk_facts.specs.LabelRules.{AreLabels}
use Rattle.lk_facts.specs.Labels.{LabelTable, AreLabelsInRange, is_global_at}
use Rattle.lk_facts.specs.Lowered.{IsLowered}
use Rattle.lk_facts.specs.Paths.{HasEdge}
use Rattle.lk_facts.specs.Walks.{Walk}
use Rattle.lk_facts.specs.declared.edge.Edge.{Edge}
use Rattle.lk_facts.specs.declared.label_entry.LabelName.{LabelName}
use Rattle.lk_facts.specs.declared.program.Program.{Program}
use Rattle.lk_laws.specs.FlowLaws.{IsFieldAt}
use Rattle.lk_types.specs.Building.{IsTable}
use Rattle.lk_types.specs.declared.node.Sel.{Sel}
use Rattle.lk_types.specs.declared.node.Sel.TheVariants.{Part}

-- Where a walk leads from one label to another, one leads from a field or element of the one to that of the
-- other, in the same contexts.
abbrev pub WalksGoInside : Type 0
WalksGoInside =
    (program : Program) → IsTable program.types → IsLowered program → (labels : LabelTable) →
    AreLabels program labels → AreLabelsInRange labels → (es : List Edge) →
    AreEdges program labels.names es →
    (a b : ℕ) (c d : List ℕ) → Walk (HasEdge es) (is_global_at labels) a c b d →
    (s : Sel) (x y : ℕ) → IsFieldAt program labels s a x → IsFieldAt program labels s b y →
    Walk (HasEdge es) (is_global_at labels) x c y d

-- In a table of labels: what the result (k = 0) or the parameter k of the function of the one
-- label points to is the other.
pub record IsBehindAt (program : Program) (labels : LabelTable) (k a b : ℕ) : Type 0 where
  pub function : LabelName
  pub behind : LabelName
  pub function_at : slice_get labels.names a ≡ Some function
  pub behind_at : slice_get labels.names b ≡ Some behind
  pub is : IsBehind program function k behind

-- the Part of it, where it is void
pub record IsPartBehindAt (program : Program) (labels : LabelTable) (t k a b : ℕ) : Type 0 where
  pub function : LabelName
  pub void : LabelName
  pub part : LabelName
  pub function_at : slice_get labels.names a ≡ Some function
  pub part_at : slice_get labels.names b ≡ Some part
  pub is : IsBehind program function k void
  pub part_of : IsInside program void (Part t) part

-- Where a walk leads from one function to another, results flow with it, and parameters against it.
pub record HaveOneCode (program : Program) (labels : LabelTable) (es : List Edge) (o : ℕ) (c : List ℕ) (b : ℕ)
    (d : List ℕ) : Type 0 where
  pub results : (x y : ℕ) → IsBehindAt program labels 0 o x → IsBehindAt program labels 0 b y →
      Walk (HasEdge es) (is_global_at labels) x c y d
  pub result_parts : (n x y : ℕ) → IsPartBehindAt program labels n 0 o x →
      IsPartBehindAt program labels n 0 b y → Walk (HasEdge es) (is_global_at labels) x c y d
  pub parameters : (k x y : ℕ) → IsBehindAt program labels (suc k) o x →
      IsBehindAt program labels (suc k) b y → Walk (HasEdge es) (is_global_at labels) y d x c
  pub parameter_parts : (n k x y : ℕ) → IsPartBehindAt program labels n (suc k) o x →
      IsPartBehindAt program labels n (suc k) b y → Walk (HasEdge es) (is_global_at labels) y d x c

abbrev pub FunctionsHaveOneCode : Type 0
FunctionsHaveOneCode =
    (program : Program) → IsTable program.types → IsLowered program → (labels : LabelTable) →
    AreLabels program labels → AreLabelsInRange labels → (es : List Edge) →
    AreEdges program labels.names es →
    (o b : ℕ) (c d : List ℕ) → Walk (HasEdge es) (is_global_at labels) o c b d →
    HaveOneCode program labels es o c b d
