-- The numbers of a source in each of its bodies, and its steps as they are added.
use Rattle.std.specs.Prelude.{◌≡◌, ℕ, suc, List, [], ◌∷◌, ◌++◌, map, slice_get, get_or, Option, None, Some}
use Rattle.std.specs.Option.{option_map_or}
use Rattle.lk_base.specs.declared.cell.CellStep.{CellStep}
use Rattle.lk_facts.specs.declared.place.Place.{Place}
use Rattle.lk_lower_expr.specs.Laid.{laid}
use Rattle.lk_lower_expr.specs.Naming.{names_of}
use Rattle.lk_lower_expr.specs.Statements.{body_walk}
use Rattle.lk_lower_expr.specs.Statics.{static_walk}
use Rattle.lk_lower_expr.specs.Walk.{Walk}
use Rattle.lk_lower_expr.specs.declared.names.LocalNames.{LocalNames}
use Rattle.lk_lower_expr.specs.declared.names.SourceNames.{SourceNames}
use Rattle.lk_lower_expr.specs.declared.step.NamedStep.{NamedStep}
use Rattle.lk_lower_unit.specs.Stands.{NamesBy, PlacesBy, declared_node}
use Rattle.lk_lower_unit.specs.declared.standing.StandingStep.{StandingStep}
use Rattle.lk_typed.specs.declared.entity.Entity.{Entity}
use Rattle.lk_typed.specs.declared.expression.Storage.TheVariants as storage
use Rattle.lk_typed.specs.declared.initialiser.StaticObject.{StaticObject}
use Rattle.lk_typed.specs.declared.unit.Body.{Body}
use Rattle.lk_typed.specs.declared.unit.Local.{Local}
use Rattle.lk_types.specs.Table.{Table}
use Rattle.lk_types.specs.declared.node.NodeId.{NodeId}

-- ---- numbers

-- a local has the number of its declared name
abbrev pub named_local : List ℕ → Local → LocalNames
named_local by_node is =
    record { ordinal = is.ordinal; spot = is.spot; ty = is.ty; is_slot = is.is_slot; number = get_or by_node is.ordinal 0 }

abbrev pub with_locals : SourceNames → List Local → SourceNames
with_locals source locals = record {
  bases = source.bases;
  by_node = source.by_node;
  types = source.types;
  pointers = source.pointers;
  objects = source.objects;
  functions = source.functions;
  defined = source.defined;
  locals = map (named_local source.by_node) locals;
}

abbrev pub names_by_locals : Table → SourceNames → NamesBy
names_by_locals table source locals = names_of table (with_locals source locals)

-- `node` gives the node to which the steps to a cell of an object of a type lead, with indices forgotten
abbrev pub cell_place : (node : ℕ → List CellStep → NodeId) → SourceNames → ℕ → List CellStep → Place
cell_place node source l path =
    option_map_or (λ (local : LocalNames). record {
      root = local.number;
      node = node (get_or source.types local.ty 0) path;
    }) (slice_get source.locals l) (record {
      root = 0;
      node = node 0 [];
    })

abbrev pub places_by_locals : (node : ℕ → List CellStep → NodeId) → SourceNames → PlacesBy
places_by_locals node source locals = cell_place node (with_locals source locals)

-- the same numbers of a source, perhaps in another body
pub record IsSameSource (old new : SourceNames) : Type 0 where
  pub bases : new.bases ≡ old.bases
  pub by_node : new.by_node ≡ old.by_node
  pub types : new.types ≡ old.types
  pub pointers : new.pointers ≡ old.pointers
  pub objects : new.objects ≡ old.objects
  pub functions : new.functions ≡ old.functions
  pub defined : new.defined ≡ old.defined

-- ---- steps

abbrev pub standing : ℕ → NamedStep → StandingStep
standing function step = record { step = step; function = function }

abbrev pub all_standing : ℕ → Walk → List StandingStep
all_standing function walk = map (standing function) (laid walk [])

module _ (names : NamesBy) (places : PlacesBy) where
  abbrev pub walk_of_body : Body → Walk
  walk_of_body body = body_walk (names body.locals) (places body.locals) body.ordinal body.spot body.block

  -- of bodies, the first of them the function `first`
  abbrev pub steps_of_bodies : (first : ℕ) → List Body → List StandingStep
  steps_of_bodies first [] = []
  steps_of_bodies first (body ∷ others) =
      all_standing first (walk_of_body body) ++ steps_of_bodies (suc first) others

-- the initialisers of objects of static storage stand in no body
module _ (names : NamesBy) where
  abbrev pub walk_of_static : StaticObject → Entity → Walk
  walk_of_static object entity =
      static_walk (names []) (declared_node object entity)
      ((names []).object (storage.Entity object.entity)) object.parts

  abbrev pub steps_of_static : (none : ℕ) → StaticObject → Option Entity → List StandingStep
  steps_of_static none object None = []
  steps_of_static none object (Some entity) = all_standing none (walk_of_static object entity)

  abbrev pub steps_of_statics : (none : ℕ) → List Entity → List StaticObject → List StandingStep
  steps_of_statics none entities [] = []
  steps_of_statics none entities (object ∷ others) =
      steps_of_static none object (slice_get entities object.entity) ++ steps_of_statics none entities others
