-- The program that checked sources become: its functions, roots, slots and points. Each has its number from
-- the node to which it belongs: in the order of the sources, of the nodes, and of the steps.
use Rattle.std.specs.Prelude.{◌≡◌, ◌<◌, ◌≤◌, ◌+◌, ℕ, suc, nat_eq, Bool, true, false, List, [], ◌∷◌, Option, None, Some, length, slice_get, get_or, if◌then◌else◌}
use Rattle.std.specs.List.{Contains, find}
use Rattle.std.specs.Option.{is_some, option_map_or, option_and_then, option_or}
use Rattle.lk_base.specs.declared.cell.CellStep.{CellStep}
use Rattle.lk_base.specs.declared.spot.Spot.{Spot}
use Rattle.lk_facts.specs.declared.place.Place.{Place}
use Rattle.lk_facts.specs.declared.point.Point.{Point}
use Rattle.lk_facts.specs.declared.program.Program.{Program}
use Rattle.lk_lower_expr.specs.Names.{Names, Node}
use Rattle.lk_lower_expr.specs.Naming.{part_type}
use Rattle.lk_lower_expr.specs.Statements.{body_walk}
use Rattle.lk_lower_expr.specs.Statics.{static_walk}
use Rattle.lk_lower_expr.specs.Walk.{IsStep}
use Rattle.lk_lower_expr.specs.declared.step.Step.{Step}
use Rattle.lk_typed.specs.declared.entity.Declaration.{Declaration}
use Rattle.lk_typed.specs.declared.entity.Defines.{Defines}
use Rattle.lk_typed.specs.declared.entity.Defines.TheVariants.{Nothing, Tentative, Whole as WholeDefinition}
use Rattle.lk_typed.specs.declared.entity.Entity.{Entity}
use Rattle.lk_typed.specs.declared.expression.Storage.{Storage}
use Rattle.lk_typed.specs.declared.expression.Storage.TheVariants as storage
use Rattle.lk_typed.specs.declared.initialiser.StaticObject.{StaticObject}
use Rattle.lk_typed.specs.declared.unit.Body.{Body}
use Rattle.lk_typed.specs.declared.unit.Local.{Local}
use Rattle.lk_typed.specs.declared.whole.Linked.{Linked}
use Rattle.lk_typed.specs.declared.whole.Whole.{Whole}
use Rattle.lk_typed.specs.declared.whole.WholeEntity.{WholeEntity}
use Rattle.lk_types.specs.Table.{type_at}
use Rattle.lk_types.specs.declared.node.NodeId.{NodeId}

-- ---- numbers

-- one step of a node of a source stands before another
pub data ComesBefore : (s o k t p l : ℕ) → Type 0 where
  source : {s o k t p l : ℕ} → s < t → ComesBefore s o k t p l
  node : {s o k p l : ℕ} → o < p → ComesBefore s o k s p l
  step : {s o k l : ℕ} → k < l → ComesBefore s o k s o l

-- `number` counts from `first` on those (source, node, step) of which Has holds, in
-- their order; they are `count`
pub record Counts (Has : (s o k : ℕ) → Type 0) (first count : ℕ) (number : ℕ → ℕ → ℕ → ℕ) : Type 0 where
  pub least : (s o k : ℕ) → Has s o k → first ≤ number s o k
  pub below : (s o k : ℕ) → Has s o k → number s o k < first + count
  pub rising : (s o k t p l : ℕ) → Has s o k → Has t p l → ComesBefore s o k t p l →
      number s o k < number t p l
  pub onto : (n : ℕ) → n < count → (s : ℕ) × (o : ℕ) × (k : ℕ) × Has s o k × (number s o k ≡ first + n)

-- the numbers that nodes of the sources have in the program
pub record Numbers : Type 0 where
  pub point : (s o k : ℕ) → ℕ
  pub root : (s o : ℕ) → ℕ
  -- a slot counts in its function
  pub slot : (s o : ℕ) → ℕ
  -- a function by the number of its body
  pub function : (s body : ℕ) → ℕ
  -- the pointer to a type of the program
  pub pointer : ℕ → ℕ
  -- the node to which the steps to a cell of an object of the type lead, with indices forgotten
  pub node : ℕ → List CellStep → NodeId

abbrev pub is_whole : Defines → Bool
is_whole Nothing = false
is_whole Tentative = false
is_whole WholeDefinition = true

abbrev pub is_tentative : Defines → Bool
is_tentative Nothing = false
is_tentative Tentative = true
is_tentative WholeDefinition = false

-- of several declarations the one with a body or an initialiser counts, else the first tentative definition,
-- else the first (C99 6.9, 5; 6.9.2, 2)
abbrev pub counted_among : List Declaration → Option Declaration
counted_among list =
    option_or (find (λ is. is_whole is.defines) list)
    (option_or (find (λ is. is_tentative is.defines) list) (slice_get list 0))

abbrev pub declaration_of : Entity → Option Declaration
declaration_of entity = counted_among entity.declarations

-- the place in a list of the first element with a property; how many there are, where none has it
abbrev pub place_in : {A : Type 0} → (A → Bool) → List A → ℕ
place_in test [] = 0
place_in test (a ∷ others) = if test a then 0 else suc (place_in test others)

abbrev pub is_body_of : ℕ → Body → Bool
is_body_of e body = nat_eq body.entity e

module _ (whole : Whole) (numbers : Numbers) where
  -- ---- what the numbers of a source stand for

  abbrev pub linked_at : ℕ → Option Linked
  linked_at s = slice_get whole.sources s

  -- the program's entity of an entity of a source
  abbrev pub entity_here : Linked → ℕ → Option WholeEntity
  entity_here linked e = option_and_then (slice_get whole.entities) (slice_get linked.entities e)

  abbrev pub entity_at : ℕ → ℕ → Option Entity
  entity_at s e = option_and_then (λ linked. slice_get linked.unit.entities e) (linked_at s)

  -- the source that defines an entity of the program, and its entity there
  abbrev pub definition_of : (s e : ℕ) → Option (ℕ × ℕ)
  definition_of s e =
      option_and_then (λ here. here.defined) (option_and_then (λ linked. entity_here linked e) (linked_at s))

  abbrev pub root_of_entity : Option (ℕ × ℕ) → ℕ
  root_of_entity None = 0
  root_of_entity (Some (s, e)) =
      option_map_or (λ declaration. numbers.root s declaration.ordinal)
      (option_and_then declaration_of (entity_at s e)) 0

  abbrev pub object_root : (s : ℕ) → List Local → Storage → ℕ
  object_root s locals (storage.Entity e) = root_of_entity (definition_of s e)
  object_root s locals (storage.Local l) =
      option_map_or (λ local. numbers.root s local.ordinal) (slice_get locals l) 0

  abbrev pub function_of : Option (ℕ × ℕ) → ℕ
  function_of None = 0
  function_of (Some (s, e)) =
      numbers.function s (option_map_or (λ linked. place_in (is_body_of e) linked.unit.bodies) (linked_at s) 0)

  abbrev no_place : Spot
  no_place = record { file = 0; line = 0; col = 0 }

  abbrev node_of : Option Local → Node
  node_of None = record { ordinal = 0; spot = no_place; type = 0 }
  node_of (Some local) = record { ordinal = local.ordinal; spot = local.spot; type = local.ty }

  abbrev pub slot_of : (s : ℕ) → Local → Option ℕ
  slot_of s local = if local.is_slot then Some (numbers.slot s local.ordinal) else None

  -- what the numbers stand for of the source s, where these are the locals
  abbrev pub names_in : (s : ℕ) → Linked → List Local → Names
  names_in s linked locals = record {
    at = numbers.point s;
    form = type_at linked.unit.types;
    type = λ t. get_or linked.types t 0;
    pointer = λ t. option_map_or numbers.pointer (slice_get linked.types t) 0;
    object = object_root s locals;
    text = numbers.root s;
    heap = numbers.root s;
    inside = part_type linked.unit.types;
    declared = λ l. node_of (slice_get locals l);
    slot = λ l. option_and_then (slot_of s) (slice_get locals l);
    hidden = numbers.slot s;
    function = λ e. function_of (definition_of s e);
    is_defined = λ e. is_some (definition_of s e);
  }

  -- ---- points

  -- the place of a cell of a local, by the steps to it: its root, and the node to which
  -- they lead with indices forgotten
  abbrev pub place_in_body : (s : ℕ) → Linked → List Local → ℕ → List CellStep → Place
  place_in_body s linked locals l path =
      option_map_or (λ local. record {
        root = numbers.root s local.ordinal;
        node = numbers.node (get_or linked.types local.ty 0) path;
      }) (slice_get locals l)
      (record { root = 0; node = numbers.node 0 [] })

  abbrev declared_at : Option Declaration → ℕ → Node
  declared_at None t = record { ordinal = 0; spot = no_place; type = t }
  declared_at (Some is) t = record { ordinal = is.ordinal; spot = is.spot; type = t }

  -- the function that the points of an initialiser of static storage stand in: none, which is
  -- written as the number of functions
  abbrev pub no_function : Program → ℕ
  no_function program = length program.functions

  -- a step of a body, or of the initialiser of an object of static storage, with
  -- the function in which it stands
  pub data StandsIn (program : Program) (s o k : ℕ) (is : Step) : (function : ℕ) → Type 0 where
    of_body : (linked : Linked) (b : ℕ) (body : Body) → linked_at s ≡ Some linked →
        slice_get linked.unit.bodies b ≡ Some body →
        IsStep o k is (body_walk (names_in s linked body.locals) (place_in_body s linked body.locals)
        body.ordinal body.spot body.block) → StandsIn program s o k is (numbers.function s b)
    of_static : (linked : Linked) (object : StaticObject) (entity : Entity) → linked_at s ≡ Some linked →
        Contains linked.unit.objects object → slice_get linked.unit.entities object.entity ≡ Some entity →
        IsStep o k is (static_walk (names_in s linked []) (record { ordinal = object.ordinal; spot = object.spot; type = entity.ty })
        (object_root s [] (storage.Entity object.entity)) object.parts) →
        StandsIn program s o k is (no_function program)

  abbrev HasStep : Program → (s o k : ℕ) → Type 0
  HasStep program s o k = (is : Step) × (function : ℕ) × StandsIn program s o k is function

  -- the point with this number is the step
  pub record IsPointOf (program : Program) (n : ℕ) (is : Step) (function : ℕ) : Type 0 where
    pub point : Point
    pub at : slice_get program.points n ≡ Some point
    pub does : point.action ≡ is.does
    pub gives : point.value ≡ is.gives
    pub leads : point.next ≡ is.next
    pub stands : point.spot ≡ is.spot
    pub inside : point.function ≡ function

  -- the points are the steps, in the order of the sources, of the nodes and of the steps
  pub record ArePoints (program : Program) : Type 0 where
    pub order : Counts (HasStep program) 0 (length program.points) numbers.point
    pub each : (s o k : ℕ) (is : Step) (function : ℕ) → StandsIn program s o k is function →
        IsPointOf program (numbers.point s o k) is function
