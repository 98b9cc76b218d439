-- The trees of tokens that stand in files, and where their refusals stand.
use Rattle.std.proofs.Common.{◌<◌, ℕ, zero, suc, List, [], ◌∷◌, drop, sym, subst}
use Rattle.std.specs.List.{All}
use Rattle.std.proofs.lemmas.List.Elements.{All-cons, All-head, All-nil, All-tail}
use Rattle.lk_base.specs.declared.fault.Fault.{Fault}
use Rattle.lk_base.specs.declared.fault.Fault.TheVariants as fault
use Rattle.lk_base.specs.declared.refusal.Refusal.{Refusal}
use Rattle.lk_base.specs.declared.spot.Spot.{Spot}
use Rattle.lk_lex.specs.declared.token.Token.{Token}
use Rattle.lk_parse_expr.specs.Input.{spot_of}
use Rattle.lk_spots.specs.Laws.{FaultsStandInFiles}
use Rattle.lk_tree.specs.declared.statement.Unit.{Unit}
use Rattle.lk_typed.specs.Env.{Name}
use Rattle.lk_sources.specs.Accepting.{IsPlaced}
use Rattle.lk_sources.specs.Calls.{IsFaultIn}
use Rattle.lk_sources.specs.Faults as faults
use Rattle.lk_sources.specs.Faults.{AreFaulty}
use Rattle.lk_sources.specs.Judging.{IsFaulty, IsTreeFault}
use Rattle.lk_sources.specs.Splitting.{AreFiled}
use Rattle.lk_sources.specs.Trees.{AreTrees, HasNoTree, nothing, next, here, behind}
use Rattle.lk_sources.specs.declared.reading.Source.{Source}

pub placed_all : {sources : List Source} {lists : List (List Token)} {units : List Unit} (files : ℕ) → AreTrees sources lists units → All (AreFiled files) lists → All (IsPlaced files) units
placed_all files nothing filed = All-nil (IsPlaced files)
placed_all files (next {s = s} {tokens = tokens} {lists = lists} {unit = unit} {units = units} tree rest) filed =
    All-cons (IsPlaced files) unit units (record { bytes = s.bytes; tokens = tokens; tree = tree; filed = All-head (AreFiled files) tokens lists filed })
    (placed_all files rest (All-tail (AreFiled files) tokens lists filed))

-- what is left of tokens begins in one of their files
left_in : (files n : ℕ) (tokens : List Token) → AreFiled files tokens → (spot_of (drop n tokens)).file < files
left_in files zero [] filed = filed.some
left_in files (suc n) [] filed = filed.some
left_in files zero (token ∷ tokens) filed = All-head (λ (t : Token). t.spot.file < files) token tokens filed.each
left_in files (suc n) (token ∷ tokens) filed = left_in files n tokens (record { some = filed.some; each = All-tail (λ (t : Token). t.spot.file < files) token tokens filed.each })

pub no_tree_in : {sources : List Source} {lists : List (List Token)} {told : Refusal} (files : ℕ) → HasNoTree sources lists told → All (AreFiled files) lists → told.spot.file < files
no_tree_in files (here {tokens = tokens} {lists = lists} refused) filed =
    subst (λ (s : Spot). s.file < files) (sym refused.place.1) (left_in files refused.place.0 tokens (All-head (AreFiled files) tokens lists filed))
no_tree_in files (behind {tokens = tokens} {lists = lists} tree rest) filed = no_tree_in files rest (All-tail (AreFiled files) tokens lists filed)

pub fault_in : FaultsStandInFiles → (files : ℕ) (externs : List Name) {units : List Unit} {told : Refusal} → AreFaulty externs units told → All (IsPlaced files) units → told.spot.file < files
fault_in law files externs (faults.here {unit = unit} {units = units} fault first is) placed =
    let at = All-head (IsPlaced files) unit units placed in
    subst (λ (r : Refusal). r.spot.file < files) (sym is) (law 200 files externs at.bytes at.tokens unit fault at.filed.each at.tree first.holds)
fault_in law files externs (faults.behind {unit = unit} {units = units} none rest) placed = fault_in law files externs rest (All-tail (IsPlaced files) unit units placed)

pub tree_fault_in : (sources : List Source) (lists : List (List Token)) (files : ℕ) (told : Fault) → IsTreeFault sources lists told → All (AreFiled files) lists → IsFaultIn files told
tree_fault_in sources lists files fault.NoMemory is filed = tt
tree_fault_in sources lists files (fault.Refused refusal) is filed = no_tree_in files is filed

pub faulty_in : FaultsStandInFiles → (externs : List Name) (units : List Unit) (files : ℕ) (told : Fault) → IsFaulty externs units told → All (IsPlaced files) units → IsFaultIn files told
faulty_in law externs units files fault.NoMemory is placed = tt
faulty_in law externs units files (fault.Refused refusal) is placed = fault_in law files externs is placed
