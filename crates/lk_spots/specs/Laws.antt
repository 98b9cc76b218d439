-- Where the nodes of a source stand: each at one of its tokens. Each is the contract of a function.
use Rattle.std.specs.Prelude.{ℕ, ◌<◌, List, map}
use Rattle.std.specs.List.{All, Contains}
use Rattle.lk_base.specs.declared.spot.Spot.{Spot}
use Rattle.lk_lex.specs.declared.token.Token.{Token}
use Rattle.lk_tree.specs.declared.statement.Unit.{Unit}
use Rattle.lk_parse_unit.specs.Tree.{IsTree}
use Rattle.lk_typed.specs.Env.{Env, Name}
use Rattle.lk_typed.specs.Faults.{Fault}
use Rattle.lk_typed.specs.NodeRules.{mark_of}
use Rattle.lk_typed.specs.Nodes.{Node}
use Rattle.lk_typed.specs.TypedUnits.{IsTypedUnit}
use Rattle.lk_typed.specs.Units.{IsNode, IsFaultOf}
use Rattle.lk_typed.specs.declared.unit.TypedUnit.{TypedUnit}
use Rattle.lk_spots.specs.NodePlaces.{NodeSpots}
use Rattle.lk_spots.specs.StatementPlaces.{UnitSpots}
use Rattle.lk_spots.specs.TypedPlaces.{TypedUnitSpots}

-- a place is that of one of these tokens
abbrev pub IsPlaceOf : List Token → Spot → Type 0
IsPlaceOf tokens spot = Contains (map (λ token. token.spot) tokens) spot

-- each place in the tree that tokens have is that of one of them
abbrev pub TreesStandAtTokens : Type 0
TreesStandAtTokens = (most : ℕ) (source : List ℕ) (tokens : List Token) (unit : Unit) →
    IsTree most source tokens unit → UnitSpots (IsPlaceOf tokens) unit

-- so is each place in a node of the source
abbrev pub NodesHoldPlacesOfTokens : Type 0
NodesHoldPlacesOfTokens =
    (most : ℕ) (externs : List Name) (source : List ℕ) (tokens : List Token) (unit : Unit) (env : Env)
    (node : Node) → IsTree most source tokens unit → IsNode externs unit env node →
    NodeSpots (IsPlaceOf tokens) node

-- so is the place of a node
abbrev pub NodesStandAtTokens : Type 0
NodesStandAtTokens =
    (most : ℕ) (externs : List Name) (source : List ℕ) (tokens : List Token) (unit : Unit) (env : Env)
    (node : Node) → IsTree most source tokens unit → IsNode externs unit env node →
    IsPlaceOf tokens (mark_of node).spot

-- and so is the place of a fault
abbrev pub FaultsStandAtTokens : Type 0
FaultsStandAtTokens =
    (most : ℕ) (externs : List Name) (source : List ℕ) (tokens : List Token) (unit : Unit) (f : Fault) →
    IsTree most source tokens unit → IsFaultOf externs unit f → IsPlaceOf tokens f.spot

-- where each token stands in one of the first files, so does each node
abbrev pub NodesStandInFiles : Type 0
NodesStandInFiles =
    (most files : ℕ) (externs : List Name) (source : List ℕ) (tokens : List Token) (unit : Unit) (env : Env)
    (node : Node) → All (λ token. token.spot.file < files) tokens →
    IsTree most source tokens unit → IsNode externs unit env node → (mark_of node).spot.file < files

-- and so does each fault
abbrev pub FaultsStandInFiles : Type 0
FaultsStandInFiles =
    (most files : ℕ) (externs : List Name) (source : List ℕ) (tokens : List Token) (unit : Unit) (f : Fault) →
    All (λ token. token.spot.file < files) tokens →
    IsTree most source tokens unit → IsFaultOf externs unit f → f.spot.file < files

-- each place in the typed tree of the source is that of one of its tokens
abbrev pub TypedTreesStandAtTokens : Type 0
TypedTreesStandAtTokens =
    (most : ℕ) (externs : List Name) (source : List ℕ) (tokens : List Token) (unit : Unit)
    (typed : TypedUnit) → IsTree most source tokens unit → IsTypedUnit externs unit typed →
    TypedUnitSpots (IsPlaceOf tokens) typed

-- so it is in one of the first files, where each token is
abbrev pub TypedTreesStandInFiles : Type 0
TypedTreesStandInFiles =
    (most files : ℕ) (externs : List Name) (source : List ℕ) (tokens : List Token) (unit : Unit)
    (typed : TypedUnit) → All (λ token. token.spot.file < files) tokens →
    IsTree most source tokens unit → IsTypedUnit externs unit typed →
    TypedUnitSpots (λ spot. spot.file < files) typed
