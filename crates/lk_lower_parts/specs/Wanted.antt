-- The roots and slots that a source has at its nodes.
use Rattle.std.specs.Prelude.{◌≡◌, ◌+◌, ◌++◌, ◌&&◌, ℕ, nat_eq, Bool, true, false, List, [], ◌∷◌, Option, None, Some, length, slice_get, get_or, if◌then◌else◌}
use Rattle.std.specs.List.{Contains}
use Rattle.std.specs.Option.{option_and_then, option_map, option_to_list}
use Rattle.lk_base.specs.declared.spot.Spot.{Spot}
use Rattle.lk_facts.specs.declared.root.Root.{Root}
use Rattle.lk_facts.specs.declared.root.RootKind.{RootKind}
use Rattle.lk_facts.specs.declared.root.RootKind.TheVariants as kind
use Rattle.lk_lower_expr.specs.Lowering.{declaration_of, place_in}
use Rattle.lk_lower_expr.specs.Names.{Node}
use Rattle.lk_lower_expr.specs.Owned.{Owned, text, allocation, hidden, of_static_parts, owned_by}
use Rattle.lk_lower_expr.specs.Programs.{kind_of, type_here}
use Rattle.lk_lower_parts.specs.declared.roots.NodeRoot.{NodeRoot}
use Rattle.lk_lower_parts.specs.declared.roots.NodeSlot.{NodeSlot}
use Rattle.lk_lower_parts.specs.declared.roots.SourceAt.{SourceAt}
use Rattle.lk_lower_parts.specs.declared.roots.SourceParts.{SourceParts}
use Rattle.lk_typed.specs.declared.entity.Declaration.{Declaration}
use Rattle.lk_typed.specs.declared.entity.Entity.{Entity}
use Rattle.lk_typed.specs.declared.entity.EntityKind.{EntityKind}
use Rattle.lk_typed.specs.declared.entity.EntityKind.TheVariants as entity_kind
use Rattle.lk_typed.specs.declared.initialiser.StaticObject.{StaticObject}
use Rattle.lk_typed.specs.declared.unit.Body.{Body}
use Rattle.lk_typed.specs.declared.unit.Local.{Local}
use Rattle.lk_typed.specs.declared.whole.Linked.{Linked}
use Rattle.lk_typed.specs.declared.whole.Whole.{Whole}
use Rattle.lk_typed.specs.declared.whole.WholeEntity.{WholeEntity}
use Rattle.lk_types.specs.Table.{Table, type_at}
use Rattle.lk_types.specs.declared.c_type.CType.{CType}
use Rattle.lk_types.specs.declared.c_type.CType.TheVariants.{Void, Int, ThreadId, Mutex, Cond, Pointer, Array, Struct, Function, Opaque}

-- ---- types

-- none of these types stands twice
abbrev pub AreDifferent : List CType → Type 0
AreDifferent forms = (t u : ℕ) (form : CType) → slice_get forms t ≡ Some form →
    slice_get forms u ≡ Some form → t ≡ u

-- the types of a table, and more behind them
pub record AreLater (table : Table) (forms : List CType) : Type 0 where
  pub more : List CType
  pub types : forms ≡ table.types ++ more
  pub different : AreDifferent forms

-- whether a type is an array of elements of a type, without a size
abbrev pub is_array_of : ℕ → CType → Bool
is_array_of t Void = false
is_array_of t (Int k) = false
is_array_of t ThreadId = false
is_array_of t Mutex = false
is_array_of t Cond = false
is_array_of t (Pointer u) = false
is_array_of t (Array u n) = nat_eq u t && nat_eq n 0
is_array_of t (Struct s) = false
is_array_of t (Function result params dots) = false
is_array_of t (Opaque n) = false

-- where it stands among types; behind them all where it doesn't
abbrev pub array_in : List CType → ℕ → ℕ
array_in forms t = place_in (is_array_of t) forms

-- ---- sources

-- a source of a program: its place, the number of the function of its first body, and of each of its nodes
-- the number of the first point
pub record Source : Type 0 where
  pub whole : Whole
  pub linked : Linked
  pub source : ℕ
  pub first : ℕ
  pub points : List ℕ

abbrev pub seen : SourceAt → Source
seen at =
    record { whole = at.whole.now; linked = at.linked.now; source = at.source; first = at.first; points = at.points.now }

module _ (at : Source) where
  abbrev pub type_in : ℕ → ℕ
  type_in t = type_here at.linked t

  abbrev pub form_at : ℕ → CType
  form_at = type_at at.linked.unit.types

  abbrev pub entity_if : (e : ℕ) → WholeEntity → Option (ℕ × ℕ) → Option WholeEntity
  entity_if e here None = None
  entity_if e here (Some (s, n)) = if nat_eq s at.source && nat_eq n e then Some here else None

  abbrev pub entity_by : (e : ℕ) → Option WholeEntity → Option WholeEntity
  entity_by e None = None
  entity_by e (Some here) = entity_if e here here.defined

  -- the program's entity of an entity that this source defines
  abbrev pub entity_here : (e : ℕ) → Option WholeEntity
  entity_here e = entity_by e (option_and_then (slice_get at.whole.entities) (slice_get at.linked.entities e))

  abbrev pub function_at : (b : ℕ) → ℕ
  function_at b = at.first + b

  abbrev pub plain_root : RootKind → (ty : ℕ) → Spot → List ℕ → Option ℕ → Root
  plain_root kind ty spot name function =
      record { kind = kind; ty = ty; spot = spot; name = name; function = function; point = None; bytes = [] }

  -- ---- objects of static storage

  abbrev pub function_around : Option ℕ → Option ℕ
  function_around None = None
  function_around (Some b) = Some (function_at b)

  abbrev pub object_root : Entity → WholeEntity → Declaration → NodeRoot
  object_root entity here by =
      record { ordinal = by.ordinal; root = plain_root (kind_of entity.linkage) here.ty by.spot entity.name (function_around entity.body) }

  abbrev pub object_if : EntityKind → NodeRoot → List NodeRoot
  object_if entity_kind.Object root = root ∷ []
  object_if entity_kind.Function root = []

  abbrev pub object_by : Entity → Option WholeEntity → Option Declaration → List NodeRoot
  object_by entity None by = []
  object_by entity (Some here) None = []
  object_by entity (Some here) (Some by) = object_if entity.kind (object_root entity here by)

  abbrev pub object_of : (e : ℕ) → Entity → List NodeRoot
  object_of e entity = object_by entity (entity_here e) (declaration_of entity)

  -- those of entities, the first of which is the entity `e`
  abbrev pub objects_from : (e : ℕ) → List Entity → List NodeRoot
  objects_from e [] = []
  objects_from e (entity ∷ others) = object_of e entity ++ objects_from (e + 1) others

  -- ---- functions and locals

  abbrev pub function_root : (function : ℕ) → Entity → WholeEntity → Declaration → NodeRoot
  function_root function entity here by =
      record { ordinal = by.ordinal; root = plain_root kind.Function here.ty by.spot entity.name (Some function) }

  abbrev pub function_by : (function : ℕ) → Option WholeEntity → Option Entity → List NodeRoot
  function_by function None entity = []
  function_by function (Some here) None = []
  function_by function (Some here) (Some entity) =
      option_to_list (option_map (function_root function entity here) (declaration_of entity))

  abbrev pub function_of : (function : ℕ) → Body → List NodeRoot
  function_of function body =
      function_by function (entity_here body.entity) (slice_get at.linked.unit.entities body.entity)

  abbrev pub local_root : (function : ℕ) → Local → NodeRoot
  local_root function local =
      record { ordinal = local.ordinal; root = plain_root kind.Local (type_in local.ty) local.spot local.name (Some function) }

  abbrev pub local_by : (is_slot : Bool) → (function : ℕ) → Local → List NodeRoot
  local_by true function local = []
  local_by false function local = local_root function local ∷ []

  abbrev pub slot_by : (is_slot : Bool) → Local → List NodeSlot
  slot_by true local = record { ordinal = local.ordinal; ty = type_in local.ty } ∷ []
  slot_by false local = []

  abbrev pub locals_of : (function : ℕ) → List Local → List NodeRoot
  locals_of function [] = []
  locals_of function (local ∷ others) = local_by local.is_slot function local ++ locals_of function others

  abbrev pub slots_of_locals : List Local → List NodeSlot
  slots_of_locals [] = []
  slots_of_locals (local ∷ others) = slot_by local.is_slot local ++ slots_of_locals others

  -- ---- what nodes have of their own

  abbrev pub text_root : Node → List ℕ → NodeRoot
  text_root node bytes =
      record {
        ordinal = node.ordinal;
        root =
            record {
              kind = kind.Text;
              ty = type_in node.type;
              spot = node.spot;
              name = [];
              function = None;
              point = None;
              bytes = bytes ++ (0 ∷ []);
            };
      }

  abbrev pub heap_root : Node → (ty : ℕ) → (one : Bool) → Option ℕ → NodeRoot
  heap_root node ty one function =
      record {
        ordinal = node.ordinal;
        root =
            record {
              kind = kind.Heap one;
              ty = ty;
              spot = node.spot;
              name = [];
              function = function;
              point = Some (get_or at.points node.ordinal 0);
              bytes = [];
            };
      }

  abbrev pub slot_of : Owned → List NodeSlot
  slot_of (text node bytes) = []
  slot_of (allocation node t one) = []
  slot_of (hidden node) = record { ordinal = node.ordinal; ty = type_in node.type } ∷ []

  abbrev pub slots_of : List Owned → List NodeSlot
  slots_of [] = []
  slots_of (one ∷ others) = slot_of one ++ slots_of others

  abbrev pub slots_in : Body → List NodeSlot
  slots_in body = slots_of_locals body.locals ++ slots_of (owned_by form_at body.block)

  abbrev pub owned_by_statics : List StaticObject → List Owned
  owned_by_statics [] = []
  owned_by_statics (object ∷ others) = of_static_parts form_at object.parts ++ owned_by_statics others

  -- among these types are those of allocations
  module _ (forms : List CType) where
    -- one object of a type, or an array of them without a size
    abbrev pub allocated : (one : Bool) → (t : ℕ) → ℕ
    allocated true t = type_in t
    allocated false t = array_in forms (type_in t)

    abbrev pub root_by : Option ℕ → Owned → List NodeRoot
    root_by function (text node bytes) = text_root node bytes ∷ []
    root_by function (allocation node t one) = heap_root node (allocated one t) one function ∷ []
    root_by function (hidden node) = []

    abbrev pub roots_of : Option ℕ → List Owned → List NodeRoot
    roots_of function [] = []
    roots_of function (one ∷ others) = root_by function one ++ roots_of function others

    -- ---- bodies, and the source

    abbrev pub roots_in : (function : ℕ) → Body → List NodeRoot
    roots_in function body =
        function_of function body ++
        (locals_of function body.locals ++ roots_of (Some function) (owned_by form_at body.block))

    -- those of bodies, the first of which is the body `b`
    abbrev pub roots_in_all : (b : ℕ) → List Body → List NodeRoot
    roots_in_all b [] = []
    roots_in_all b (body ∷ others) = roots_in (function_at b) body ++ roots_in_all (b + 1) others

    abbrev pub all_roots : List NodeRoot
    all_roots =
        objects_from 0 at.linked.unit.entities ++
        (roots_of None (owned_by_statics at.linked.unit.objects) ++ roots_in_all 0 at.linked.unit.bodies)

-- the same, in some order
pub record AreAmong {A : Type 0} (wanted found : List A) : Type 0 where
  pub each : (x : A) → Contains wanted x → Contains found x
  pub only : (x : A) → Contains found x → Contains wanted x

-- of each of these bodies its slots
pub record AreSlots (at : Source) (bodies : List Body) (rows : List (List NodeSlot)) : Type 0 where
  pub as_many : length rows ≡ length bodies
  pub each : (b : ℕ) (body : Body) → slice_get bodies b ≡ Some body →
      AreAmong (slots_in at body) (get_or rows b [])

-- what the source has at its nodes, where the table is this one or a later one
pub record AreParts (at : Source) (table : Table) (parts : SourceParts) : Type 0 where
  pub roots : (forms : List CType) → AreLater table forms → AreAmong (all_roots at forms) parts.roots.items
  pub slots : AreSlots at at.linked.unit.bodies parts.slots.items
