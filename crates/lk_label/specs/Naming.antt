-- The nodes of a type that name places and functions, and those of them that are found so far. Only the
-- private calls of this crate speak of it.
use Rattle.std.specs.Prelude.{◌≡◌, ◌↔◌, ◌⊎◌, ◌<◌, ℕ, Bool, true, List, Some, AllPairs, Contains, slice_get}
use Rattle.lk_facts.specs.LabelRules.{ComesBefore, IsStart, NamesPlace, Steps, form_of, leads_to_place}
use Rattle.lk_types.specs.Table.{Table}
use Rattle.lk_types.specs.declared.node.NodeId.{NodeId}
use Rattle.lk_types.specs.declared.node.Sel.{Sel}

-- the nodes of both lists, those of the first in their places
pub record AreJoined (old more new : List NodeId) : Type 0 where
  pub kept : (i : ℕ) (n : NodeId) → slice_get old i ≡ Some n → slice_get new i ≡ Some n
  pub each : (n : NodeId) → Contains new n ↔ (Contains old n ⊎ Contains more n)

-- m stands somewhere before n
abbrev pub StandsEarlier : List NodeId → (m n : NodeId) → Type 0
StandsEarlier nodes m n =
    (i : ℕ) × (j : ℕ) × (slice_get nodes i ≡ Some m) × (slice_get nodes j ≡ Some n) × (i < j)

-- those of the nodes that are among others, in the order of the nodes
pub record AreKept (nodes others kept : List NodeId) : Type 0 where
  pub each : (n : NodeId) → Contains kept n ↔ (Contains nodes n × Contains others n)
  pub ordered : AllPairs (StandsEarlier nodes) kept

module _ (table : Table) where
  -- a step leads from m to the place or function n
  abbrev pub LeadsToPlace : (m n : NodeId) → Type 0
  LeadsToPlace m n = (s : Sel) × (leads_to_place (form_of table m) s ≡ true) × Steps table m s n

  -- the nodes that were there, and the places and functions to which steps lead from this one
  abbrev pub IsPutPlaces : NodeId → (old new : List NodeId) → Type 0
  IsPutPlaces m old new = (n : NodeId) → Contains new n ↔ (Contains old n ⊎ LeadsToPlace m n)

  -- the places and functions to which steps lead from these nodes, and the Start where a root has the type
  abbrev pub ArePlaces : ℕ → Bool → (nodes places : List NodeId) → Type 0
  ArePlaces t whole nodes places =
      (n : NodeId) → Contains places n
      ↔ (((whole ≡ true) × IsStart table t n) ⊎ ((m : NodeId) × Contains nodes m × LeadsToPlace m n))

  -- the nodes of a type that name a place or a function, in the order of its walk
  pub record AreNamed (t : ℕ) (whole : Bool) (nodes : List NodeId) : Type 0 where
    pub each : (n : NodeId) → Contains nodes n ↔ NamesPlace table t whole n
    pub ordered : AllPairs (ComesBefore table t) nodes
