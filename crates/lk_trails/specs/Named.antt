-- What a label names in a context, and which labels are locks that a thread owns there (LOCKSMITH: label
-- flow, with call and return matched).
use Rattle.std.specs.Prelude.{◌≡◌, ℕ, true, List}
use Rattle.lk_facts.specs.Labels.{LabelTable, is_global_at, is_origin_at}
use Rattle.lk_facts.specs.Paths.{HasEdge}
use Rattle.lk_facts.specs.Walks.{Walk}
use Rattle.lk_facts.specs.declared.edge.Edge.{Edge}

module _ (labels : LabelTable) (es : List Edge) where
  -- The label x in the context c may mean the place o of an object at home in the context h: it is the place
  -- itself, or the place flows to it.
  pub data Means (o : ℕ) (h : List ℕ) (x : ℕ) (c : List ℕ) : Type 0 where
    itself : x ≡ o → Means o h x c
    flows : Walk (HasEdge es) (is_global_at labels) o h x c → Means o h x c

  -- `owned o h`: a mutex at the place o, of an object at home in the context h, is owned. The label x in the
  -- context c means one of these.
  pub record Holds (owned : ℕ → List ℕ → Type 0) (x : ℕ) (c : List ℕ) : Type 0 where
    pub origin : ℕ
    pub home : List ℕ
    pub is_owned : owned origin home
    pub is_origin : is_origin_at labels origin ≡ true
    pub means : Means origin home x c
