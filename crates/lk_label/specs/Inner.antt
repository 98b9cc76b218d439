-- Nodes that are reached without Target, as far as they are found. Only the private
-- calls of this crate speak of it.
use Rattle.std.specs.Prelude.{◌≡◌, ◌⊎◌, ◌<◌, ◌≤◌, ℕ, Bool, true, false, List, Some, Contains, length, slice_get}
use Rattle.lk_facts.specs.LabelRules.{IsStart, IsWithin, Steps, form_of, leads_inside}
use Rattle.lk_types.specs.Table.{Table}
use Rattle.lk_types.specs.declared.c_type.CType.{CType}
use Rattle.lk_types.specs.declared.c_type.CType.TheVariants.{Void, Int, ThreadId, Mutex, Cond, Pointer, Array, Struct, Function, Opaque}
use Rattle.lk_types.specs.declared.node.NodeId.{NodeId}
use Rattle.lk_types.specs.declared.node.Sel.{Sel}

-- whether the parts of a type lie in the same object: those of an array, of a struct,
-- and of what `void *` points to
abbrev pub has_inner : CType → Bool
has_inner Void = true
has_inner (Int k) = false
has_inner ThreadId = false
has_inner Mutex = false
has_inner Cond = false
has_inner (Pointer t) = false
has_inner (Array t n) = true
has_inner (Struct s) = true
has_inner (Function result params dots) = false
has_inner (Opaque n) = false

module _ (table : Table) where
  -- a step leads from m to its part n in the same object
  abbrev pub LeadsInside : (m n : NodeId) → Type 0
  LeadsInside m n = (s : Sel) × (leads_inside (form_of table m) s ≡ true) × Steps table m s n

  -- the nodes that were there, in their places, and the parts of this one in the same object
  pub record PutsInner (m : NodeId) (old new : List NodeId) : Type 0 where
    pub kept : (i : ℕ) (n : NodeId) → slice_get old i ≡ Some n → slice_get new i ≡ Some n
    pub put : (n : NodeId) → LeadsInside m n → Contains new n
    pub only : (n : NodeId) → Contains new n → Contains old n ⊎ LeadsInside m n

  -- the Start, and with the first k nodes their parts in the same object
  pub record AreFound (t k : ℕ) (found : List NodeId) : Type 0 where
    pub within : k ≤ length found
    pub only : (n : NodeId) → Contains found n → IsWithin table t n
    pub start : (n : NodeId) → IsStart table t n → Contains found n
    pub done : (i : ℕ) (m n : NodeId) → i < k → slice_get found i ≡ Some m →
        LeadsInside m n → Contains found n
