-- Tables that hold the matched paths along the edges of a list, between the labels of a table.
use Rattle.std.specs.Prelude.{◌≡◌, ◌↔◌, ℕ, ◌<◌, true, List, length, All}
use Rattle.lk_facts.specs.Flow.{Flow}
use Rattle.lk_facts.specs.Labels.{LabelTable, is_global_at, is_origin_at}
use Rattle.lk_facts.specs.PathRules.{IsFlowClosed}
use Rattle.lk_facts.specs.Paths.{HasEdge, Level, InAll, InInner, InCross}
use Rattle.lk_facts.specs.declared.edge.Edge.{Edge}
use Rattle.lk_sets.specs.Rows.{Rows, has}

-- both ends are numbers of labels
abbrev pub IsEdgeWithin : ℕ → Edge → Type 0
IsEdgeWithin count e = (e.from < count) × (e.to < count)

abbrev pub AreEdgesWithin : LabelTable → List Edge → Type 0
AreEdgesWithin labels es = All (IsEdgeWithin (length labels.entries)) es

-- row a has the labels that stand in Level with the label a
pub record AreLevels (es : List Edge) (labels : LabelTable) (rows : Rows) : Type 0 where
  pub size : rows.size ≡ length labels.entries
  pub levels : (a b : ℕ) → a < rows.size →
      (has rows a b ≡ true) ↔ Level (HasEdge es) (is_global_at labels) a b

-- the flow has All, Inner and Cross
pub record IsFlowOf (es : List Edge) (labels : LabelTable) (flow : Flow) : Type 0 where
  pub all : (b o : ℕ) → (flow.all b o ≡ true)
      ↔ InAll (HasEdge es) (is_global_at labels) (is_origin_at labels) b o
  pub inner : (b o : ℕ) → (flow.inner b o ≡ true)
      ↔ InInner (HasEdge es) (is_global_at labels) (is_origin_at labels) b o
  pub cross : (i b m : ℕ) → (flow.cross i b m ≡ true) ↔ InCross (HasEdge es) (is_global_at labels) i b m

-- the flow is closed under the rules of matched paths, also where it holds more than they ask for
abbrev pub IsClosed : List Edge → LabelTable → Flow → Type 0
IsClosed es labels flow =
    IsFlowClosed (HasEdge es) (is_global_at labels) (is_origin_at labels)
    (Level (HasEdge es) (is_global_at labels))
    (λ b o. flow.all b o ≡ true) (λ b o. flow.inner b o ≡ true) (λ i b m. flow.cross i b m ≡ true)
