-- Places in walks.
use Rattle.std.specs.Prelude.{ℕ, ◌≡◌, ◌<◌, ◌≤◌, ◌+◌, suc, false, List, [], ◌∷◌, Option, None, Some, true, length, slice_get, take}
use Rattle.std.specs.Option.{option_map}
use Rattle.lk_types.specs.Nodes.{Node, along, target_of, element_of, field_of, IsBase}
use Rattle.lk_types.specs.Table.{Table, type_at, fields_of, IsKnown}
use Rattle.lk_types.specs.Walks.{Entry, Branch, under, nodes}
use Rattle.lk_types.specs.Sizes.{nodes_of}
use Rattle.lk_types.specs.declared.c_type.CType.{CType}
use Rattle.lk_types.specs.declared.node.Base.TheVariants.{Tag}
use Rattle.lk_types.specs.declared.node.Sel.{Sel}
use Rattle.lk_types.specs.declared.node.Sel.TheVariants.{Target, Element, Field, Part}
use Rattle.lk_types.specs.declared.walk.Way.{Way}
use Rattle.lk_types.specs.declared.walk.Way.TheVariants.{Tag as ToTag, Inside}

-- the entry with this number in the walk of a type
abbrev pub entry_at : Table → ℕ → ℕ → Option Entry
entry_at table t k = slice_get (nodes table t) k

-- the entry of a walk is no Tag's place
abbrev pub is_node : Option Entry → Type 0
is_node entry = option_map (λ e. e.tag) entry ≡ Some false

-- the part to which a step leads
abbrev pub branch_of : Table → CType → Sel → Option Branch
branch_of table form Target = target_of table form
branch_of table form Element = element_of form
branch_of table form (Field k) = field_of table form k
branch_of table form (Part t) = None

-- entry k + 1 of the walk of t is entry `rest` of the walk of its part u, below the step to that part
pub record IsInPart (table : Table) (t k : ℕ) (sel : Sel) (u rest : ℕ) : Type 0 where
  pub part : branch_of table (type_at table t) sel ≡ Some (record { sel = sel; type = u; tag = false })
  pub known : IsKnown table u
  pub nearer : rest ≤ k
  pub within : rest < nodes_of table u
  pub same : entry_at table t (suc k) ≡ option_map (under sel) (entry_at table u rest)

-- how many entries the walks of these types have together
abbrev pub nodes_of_all : Table → List ℕ → ℕ
nodes_of_all table [] = 0
nodes_of_all table (t ∷ ts) = nodes_of table t + nodes_of_all table ts

-- how many entries the walks of the fields before this one have together
abbrev pub nodes_before : Table → ℕ → ℕ → ℕ
nodes_before table t k = nodes_of_all table (take k (fields_of table (type_at table t)))

-- the walk of the field with this number begins so many entries after the one that follows the type's own
pub record IsPlaceOfField (table : Table) (t k place : ℕ) : Type 0 where
  pub field : k < length (fields_of table (type_at table t))
  pub place_is : place ≡ nodes_before table t k

-- the node to which a step leads that is no Part
abbrev pub step_inside : Table → Node → Sel → Option Node
step_inside table node sel = option_map (along node) (branch_of table (type_at table node.type) sel)

-- a way leads to the part of a step: to a Tag, or to the entry so many after the next one
abbrev pub IsWay : Table → ℕ → Sel → Way → Type 0
IsWay table t sel (ToTag u) =
    (branch_of table (type_at table t) sel ≡ Some (record { sel = sel; type = u; tag = true }))
    × IsBase table (Tag u)
IsWay table t sel (Inside place) =
    (u : ℕ) × (branch_of table (type_at table t) sel ≡ Some (record { sel = sel; type = u; tag = false })) ×
    (entry_at table t (suc place) ≡ Some (record { path = sel ∷ []; type = u; tag = false }))
