-- What the matched paths of a program are closed under, and what they say of walks through contexts. Each law
-- is the contract of a public function.
use Rattle.std.specs.Prelude.{◌≡◌, ℕ, Bool, true, List, ◌∷◌, ◌⊎◌}
use Rattle.lk_facts.specs.Flow.{Flow, Over}
use Rattle.lk_facts.specs.Labels.{LabelTable, is_global_at, is_origin_at}
use Rattle.lk_facts.specs.PathRules.{IsLevelClosed, IsPassClosed, IsFlowClosed}
use Rattle.lk_facts.specs.PathTables.{IsFlowOf, IsClosed}
use Rattle.lk_facts.specs.Paths.{HasEdge, Level, Rise, Fall, InAll, InInner, InCross}
use Rattle.lk_facts.specs.Walks.{Walk}
use Rattle.lk_facts.specs.declared.edge.Edge.{Edge}
use Rattle.lk_facts.specs.declared.edge.Mark.TheVariants.{Enter, Leave}
use Rattle.lk_facts.specs.declared.way.Way.TheVariants.{Through, AsValue}

-- Level is closed under its rules
abbrev pub LevelIsClosed : Type 0
LevelIsClosed = (es : List Edge) (global : ℕ → Bool) →
    IsLevelClosed (HasEdge es) global (Level (HasEdge es) global)

-- and holds nothing that the rules don't ask for: each table that is closed has it
abbrev pub LevelIsLeast : Type 0
LevelIsLeast =
    (es : List Edge) (global : ℕ → Bool) (table : ℕ → ℕ → Bool) →
    IsLevelClosed (HasEdge es) global (λ a b. table a b ≡ true) →
    (a b : ℕ) → Level (HasEdge es) global a b → table a b ≡ true

-- so it is with Rise and Fall
pub record RiseAndFallAreClosed (es : List Edge) (global : ℕ → Bool) : Type 0 where
  pub rise : IsPassClosed (HasEdge es) global Leave (Level (HasEdge es) global) (Rise (HasEdge es) global)
  pub fall : IsPassClosed (HasEdge es) global Enter (Level (HasEdge es) global) (Fall (HasEdge es) global)

pub record RiseAndFallAreLeast (es : List Edge) (global : ℕ → Bool) (table : ℕ → ℕ → Bool) : Type 0 where
  pub rise : IsPassClosed (HasEdge es) global Leave (Level (HasEdge es) global) (λ a b. table a b ≡ true) →
      (a b : ℕ) → Rise (HasEdge es) global a b → table a b ≡ true
  pub fall : IsPassClosed (HasEdge es) global Enter (Level (HasEdge es) global) (λ a b. table a b ≡ true) →
      (a b : ℕ) → Fall (HasEdge es) global a b → table a b ≡ true

abbrev pub RiseAndFallAreTheirRules : Type 0
RiseAndFallAreTheirRules = (es : List Edge) (global : ℕ → Bool) →
    RiseAndFallAreClosed es global × ((table : ℕ → ℕ → Bool) → RiseAndFallAreLeast es global table)

-- All, Inner and Cross are closed under their rules over Level
abbrev pub FlowIsClosed : Type 0
FlowIsClosed =
    (es : List Edge) (global origin : ℕ → Bool) →
    IsFlowClosed (HasEdge es) global origin (Level (HasEdge es) global) (InAll (HasEdge es) global origin)
    (InInner (HasEdge es) global origin) (InCross (HasEdge es) global)

-- All, Inner and Cross are within a flow
pub record IsWithinFlow (es : List Edge) (labels : LabelTable) (flow : Flow) : Type 0 where
  pub all : (b o : ℕ) → InAll (HasEdge es) (is_global_at labels) (is_origin_at labels) b o →
      flow.all b o ≡ true
  pub inner : (b o : ℕ) → InInner (HasEdge es) (is_global_at labels) (is_origin_at labels) b o →
      flow.inner b o ≡ true
  pub cross : (i b m : ℕ) → InCross (HasEdge es) (is_global_at labels) i b m → flow.cross i b m ≡ true

-- they are within each flow that is closed
abbrev pub FlowIsLeast : Type 0
FlowIsLeast = (es : List Edge) (labels : LabelTable) (flow : Flow) → IsClosed es labels flow →
    IsWithinFlow es labels flow

-- a flow that has just All, Inner and Cross is closed, so that the laws below hold for it
abbrev pub ExactFlowIsClosed : Type 0
ExactFlowIsClosed = (es : List Edge) (labels : LabelTable) (flow : Flow) → IsFlowOf es labels flow →
    IsClosed es labels flow

-- a walk of an origin to a label in some context: the flow has it in All of the label
abbrev pub UpAndDown : Type 0
UpAndDown =
    (es : List Edge) (labels : LabelTable) (flow : Flow) → IsClosed es labels flow →
    (o b : ℕ) (c d : List ℕ) → is_origin_at labels o ≡ true →
    Walk (HasEdge es) (is_global_at labels) o c b d → flow.all b o ≡ true

-- a walk of an origin to a label inside the site i: of what the label may be outside, the origin is one, or
-- has a walk to one in the context outside
abbrev pub OverCalls : Type 0
OverCalls =
    (es : List Edge) (labels : LabelTable) (flow : Flow) → IsClosed es labels flow →
    (o b i : ℕ) (c d : List ℕ) → is_origin_at labels o ≡ true →
    Walk (HasEdge es) (is_global_at labels) o c b (i ∷ d) →
    (m : ℕ) × Over flow (Through i) b m × ((m ≡ o) ⊎ Walk (HasEdge es) (is_global_at labels) o c m d)

-- inside the site of a function that is used as a value the label may be the origin itself
abbrev pub OverValues : Type 0
OverValues =
    (es : List Edge) (labels : LabelTable) (flow : Flow) → IsClosed es labels flow →
    (o b i : ℕ) (c d : List ℕ) → is_origin_at labels o ≡ true →
    Walk (HasEdge es) (is_global_at labels) o c b (i ∷ d) →
    Over flow (AsValue i) b o
