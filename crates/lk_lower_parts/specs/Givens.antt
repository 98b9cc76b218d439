-- What the tables of the program's numbers say.
use Rattle.std.specs.Prelude.{◌≡◌, ◌<◌, ◌≤◌, ◌+◌, ◌++◌, ℕ, suc, Bool, List, [], ◌∷◌, Option, None, Some, length, map, slice_get, get_or}
use Rattle.std.specs.Option.{is_some, option_and_then, option_map_or}
use Rattle.lk_facts.specs.declared.initial.Initial.{Initial}
use Rattle.lk_facts.specs.declared.initial.InitialValue.{InitialValue}
use Rattle.lk_facts.specs.declared.initial.InitialValue.TheVariants as begins
use Rattle.lk_lower_expr.specs.Lowering.{Numbers, declaration_of}
use Rattle.lk_lower_expr.specs.Programs.{initials_from}
use Rattle.lk_lower_expr.specs.declared.names.SourceNames.{SourceNames}
use Rattle.lk_lower_parts.specs.FunctionNumbers.{AreFunctionNumbers}
use Rattle.lk_lower_parts.specs.Sources.{defined_by, defined_of, entity_in}
use Rattle.lk_lower_parts.specs.declared.names.Given.{Given}
use Rattle.lk_typed.specs.declared.initialiser.StaticObject.{StaticObject}
use Rattle.lk_typed.specs.declared.initialiser.StaticPart.{StaticPart}
use Rattle.lk_typed.specs.declared.initialiser.StaticValue.{StaticValue}
use Rattle.lk_typed.specs.declared.initialiser.StaticValue.TheVariants as value
use Rattle.lk_typed.specs.declared.whole.Linked.{Linked}

-- what stands at a node of a source, where each source has a list of that; 0 past the last one
abbrev pub at_node : List (List ℕ) → (s o : ℕ) → ℕ
at_node lists s o = get_or (get_or lists s []) o 0

-- the root of an entity that the source defines; 0 where it has none
abbrev pub root_in : Given → (s e : ℕ) → ℕ
root_in given s e =
    option_map_or (λ declaration. at_node given.by_node.now s declaration.ordinal)
    (option_and_then declaration_of (entity_in given.whole.now s e)) 0

-- the same by its definition
abbrev pub root_by : Given → Option (ℕ × ℕ) → ℕ
root_by given None = 0
root_by given (Some (s, e)) = root_in given s e

-- the number behind those of the functions of a source
abbrev pub behind_source : Given → (s : ℕ) → ℕ
behind_source given s = get_or given.functions.now.first (suc s) 0

-- the function of an entity that the source defines
abbrev pub function_in : Given → (s e : ℕ) → ℕ
function_in given s e = get_or (get_or given.functions.now.of_entities s []) e (behind_source given s)

abbrev pub function_by : Given → Option (ℕ × ℕ) → ℕ
function_by given None = 0
function_by given (Some (s, e)) = function_in given s e

-- an entity of the program: its root, its function, and whether a source defines it
abbrev pub object_here : Given → (here : ℕ) → ℕ
object_here given here = root_by given (defined_of given.whole.now here)

abbrev pub function_here : Given → (here : ℕ) → ℕ
function_here given here = function_by given (defined_of given.whole.now here)

abbrev pub is_defined : Given → (here : ℕ) → Bool
is_defined given here = is_some (defined_of given.whole.now here)

-- what the numbers of the source `s` stand for by the tables
pub record HasTables (given : Given) (s : ℕ) (names : SourceNames) : Type 0 where
  pub linked : Linked
  pub at : slice_get given.whole.now.sources s ≡ Some linked
  pub bases : names.bases ≡ get_or given.points.now s []
  pub by_node : names.by_node ≡ get_or given.by_node.now s []
  pub types : names.types ≡ linked.types
  pub pointers : names.pointers ≡ get_or given.pointers.now s []
  pub objects : names.objects ≡ map (object_here given) linked.entities
  pub functions : names.functions ≡ map (function_here given) linked.entities
  pub defined : names.defined ≡ map (is_defined given) linked.entities

-- these are the numbers that the tables hold
pub record AreGiven (given : Given) (numbers : Numbers) : Type 0 where
  pub root : (s o : ℕ) → numbers.root s o ≡ at_node given.by_node.now s o
  pub slot : (s o : ℕ) → numbers.slot s o ≡ at_node given.by_node.now s o
  pub function : (s b : ℕ) → s < length given.whole.now.sources →
      numbers.function s b ≡ get_or given.functions.now.first s 0 + b
  -- no source stands there, and none of its functions
  pub no_function : (s b : ℕ) → length given.whole.now.sources ≤ s → numbers.function s b ≡ 0
  pub functions : AreFunctionNumbers given.whole.now.sources given.functions.now

-- ---- what objects of static storage begin with

module _ (given : Given) where
  abbrev pub value_by : Linked → (by_node : List ℕ) → StaticValue → InitialValue
  value_by linked by_node (value.Number n) = begins.Number n
  value_by linked by_node value.Null = begins.Null
  value_by linked by_node (value.Function e) =
      begins.Function (function_by given (defined_by given.whole.now linked e))
  value_by linked by_node (value.Address e path past) =
      begins.Address (root_by given (defined_by given.whole.now linked e)) path past
  value_by linked by_node (value.Text node path past) = begins.Address (get_or by_node node 0) path past
  value_by linked by_node value.Ready = begins.Ready

  abbrev pub initial_by : Linked → (by_node : List ℕ) → (root : ℕ) → StaticPart → Initial
  initial_by linked by_node root part =
      record { root = root; path = part.path; value = value_by linked by_node part.value }

  abbrev pub object_by : Linked → (by_node : List ℕ) → StaticObject → List Initial
  object_by linked by_node object =
      map (initial_by linked by_node (root_by given (defined_by given.whole.now linked object.entity)))
      object.parts

  abbrev pub objects_by : Linked → (by_node : List ℕ) → List StaticObject → List Initial
  objects_by linked by_node [] = []
  objects_by linked by_node (object ∷ others) =
      object_by linked by_node object ++ objects_by linked by_node others

  -- those of the source `s`
  abbrev pub source_by : (s : ℕ) → Linked → List Initial
  source_by s linked = objects_by linked (get_or given.by_node.now s []) linked.unit.objects

  -- those of all sources, the first of them the source s
  abbrev pub sources_by : (s : ℕ) → List Linked → List Initial
  sources_by s [] = []
  sources_by s (linked ∷ others) = source_by s linked ++ sources_by (suc s) others

-- those of a source are put behind others
abbrev pub AddsSource : Given → (s : ℕ) → List Initial → List Initial → Type 0
AddsSource given s old new =
    (linked : Linked) × (slice_get given.whole.now.sources s ≡ Some linked)
    × (new ≡ old ++ source_by given s linked)

-- by the numbers that are given they are what its storage begins with
abbrev pub AreInitials : Given → List Initial → Type 0
AreInitials given initials = (numbers : Numbers) → AreGiven given numbers →
    initials ≡ initials_from given.whole.now numbers 0 given.whole.now.sources
