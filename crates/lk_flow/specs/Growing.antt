-- Edges that are put. Only the private calls of this crate speak of it.
use Rattle.std.specs.Prelude.{◌≡◌, ◌⊎◌, ℕ, List, Option, Some, Contains, slice_get}
use Rattle.lk_facts.specs.declared.edge.Edge.{Edge}
use Rattle.lk_facts.specs.declared.edge.Mark.{Mark}
use Rattle.lk_facts.specs.declared.label_entry.LabelName.{LabelName}

-- the edges that were there, in their places, and those of which this holds
pub record Adds (P : Edge → Type 0) (old new : List Edge) : Type 0 where
  pub places : (k : ℕ) (e : Edge) → slice_get old k ≡ Some e → slice_get new k ≡ Some e
  pub added : (e : Edge) → P e → Contains new e
  pub only : (e : Edge) → Contains new e → Contains old e ⊎ P e

-- the edge from one label to another, where both are there
pub record IsPair (from to : Option ℕ) (mark : Mark) (e : Edge) : Type 0 where
  pub begins : from ≡ Some e.from
  pub ends : to ≡ Some e.to
  pub passes : e.mark ≡ mark

-- the edge joins two labels that are joined by this relation
pub record Joins (names : List LabelName) (R : LabelName → LabelName → Mark → Type 0)
    (e : Edge) : Type 0 where
  pub u : LabelName
  pub v : LabelName
  pub begins : slice_get names e.from ≡ Some u
  pub ends : slice_get names e.to ≡ Some v
  pub joined : R u v e.mark
