-- The nodes and the faults of a source stand at its tokens, and in the files of those.
use Rattle.std.proofs.Common.{inl, inr, ℕ, ◌<◌, List, [], ◌∷◌, map, sym, ap, subst, arith}
use Rattle.std.proofs.lemmas.List.Elements.{All-contains, All-map, Contains-append_right}
use Rattle.std.specs.List.{All}
use Rattle.lk_base.specs.declared.spot.Spot.{Spot}
use Rattle.lk_lex.specs.declared.token.Token.{Token}
use Rattle.lk_tree.specs.declared.statement.Unit.{Unit}
use Rattle.lk_parse_unit.specs.Tree.{IsTree}
use Rattle.lk_typed.specs.Stands.{IsIn}
use Rattle.lk_spots.specs.Laws as laws
use Rattle.lk_spots.specs.Laws.{IsPlaceOf}
use Rattle.lk_spots.specs.StatementPlaces.{UnitSpots}
use Rattle.lk_spots.proofs.Standing.{node_spots, node_place, fault_place}
use Rattle.lk_spots.proofs.StatementNumbering.{number-unit}
use Rattle.lk_spots.proofs.StatementReading.{at-unit}
use Rattle.lk_spots.proofs.TypedUnits.{typed_unit_spots}

place_of : (tokens : List Token) (token : Token) → IsIn token tokens → IsPlaceOf tokens token.spot
place_of [] token none = absurd none
place_of (t ∷ ts) token (inl is) = (0, omega arith, ap (λ (t : Token). t.spot) (sym is))
place_of (t ∷ ts) token (inr is) = Contains-append_right (t.spot ∷ []) (map (λ token. token.spot) ts) token.spot (place_of ts token is)

-- where the place of each token has a property, each place in their tree has it
pub unit_spots : (P : Spot → Type 0) {most : ℕ} {source : List ℕ} {tokens : List Token} {unit : Unit} → ((token : Token) → IsIn token tokens → P token.spot)
    → IsTree most source tokens unit → UnitSpots P unit
unit_spots P each tree = subst (UnitSpots P) (sym tree.ordinals) (number-unit P (record { externals = tree.externals }) (at-unit P tree.reads (record { each = each })))

pub trees_stand_at_tokens : laws.TreesStandAtTokens
trees_stand_at_tokens most source tokens unit tree = unit_spots (IsPlaceOf tokens) (place_of tokens) tree

pub nodes_hold_places_of_tokens : laws.NodesHoldPlacesOfTokens
nodes_hold_places_of_tokens most externs source tokens unit env node tree is =
    node_spots (IsPlaceOf tokens) externs unit (trees_stand_at_tokens most source tokens unit tree) is

pub nodes_stand_at_tokens : laws.NodesStandAtTokens
nodes_stand_at_tokens most externs source tokens unit env node tree is =
    node_place (IsPlaceOf tokens) node (nodes_hold_places_of_tokens most externs source tokens unit env node tree is)

pub faults_stand_at_tokens : laws.FaultsStandAtTokens
faults_stand_at_tokens most externs source tokens unit f tree is = fault_place (IsPlaceOf tokens) externs unit f (trees_stand_at_tokens most source tokens unit tree) is

-- a place of one of the tokens is in one of the first files, where each of them is
in_files : (files : ℕ) (tokens : List Token) (spot : Spot) → All (λ token. token.spot.file < files) tokens → IsPlaceOf tokens spot → spot.file < files
in_files files tokens spot filed at = All-contains (λ (spot : Spot). spot.file < files) (map (λ token. token.spot) tokens) spot (All-map (λ (spot : Spot). spot.file < files) (λ (token : Token). token.spot) tokens filed) at

pub nodes_stand_in_files : laws.NodesStandInFiles
nodes_stand_in_files most files externs source tokens unit env node filed tree is =
    in_files files tokens _ filed (nodes_stand_at_tokens most externs source tokens unit env node tree is)

pub faults_stand_in_files : laws.FaultsStandInFiles
faults_stand_in_files most files externs source tokens unit f filed tree is = in_files files tokens f.spot filed (faults_stand_at_tokens most externs source tokens unit f tree is)

pub typed_trees_stand_at_tokens : laws.TypedTreesStandAtTokens
typed_trees_stand_at_tokens most externs source tokens unit typed tree is = typed_unit_spots (IsPlaceOf tokens) externs unit (trees_stand_at_tokens most source tokens unit tree) is

pub typed_trees_stand_in_files : laws.TypedTreesStandInFiles
typed_trees_stand_in_files most files externs source tokens unit typed filed tree is =
    typed_unit_spots (λ spot. spot.file < files) externs unit (unit_spots (λ spot. spot.file < files) (λ token among. in_files files tokens token.spot filed (place_of tokens token among)) tree) is
