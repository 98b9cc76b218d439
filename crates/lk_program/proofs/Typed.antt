-- What the typed trees of accepted sources have.
use Rattle.std.specs.Bool.{⊤}
use Rattle.std.proofs.Common.{◌≡◌, ℕ, suc, List, [], ◌∷◌, Result, Ok, Err, IfErr, length, refl, ap}
use Rattle.std.specs.List.{AllZip}
use Rattle.std.specs.Prelude.{All}
use Rattle.std.proofs.lemmas.List.Elements.{All-cons, All-head, All-nil, All-tail, All-weaker}
use Rattle.lk_base.specs.declared.fault.Fault.{Fault}
use Rattle.lk_base.specs.declared.fault.Fault.TheVariants as fault
use Rattle.lk_elaborate.specs.Checked.{IsCheckedOf}
use Rattle.lk_join.specs.Program as linking
use Rattle.lk_link.specs.Laws.{TypedUnitsAreSources}
use Rattle.lk_link.specs.Sources.{AreSources, IsSource}
use Rattle.lk_sources.specs.Accepting.{IsCheckedSource, units_of}
use Rattle.lk_sources.specs.declared.checking.AcceptedSource.{AcceptedSource}
use Rattle.lk_tree.specs.declared.statement.Unit.{Unit}
use Rattle.lk_typed.specs.Env.{Name}
use Rattle.lk_typed.specs.declared.unit.TypedUnit.{TypedUnit}
use Rattle.lk_typed.specs.declared.whole.Whole.{Whole}
use Rattle.lk_program.specs.Program.{AreTyped, IsUnlinkedFault}
use Rattle.lk_program.specs.Trees.{HasReadyTypes, IsNumbered, TypesSource}

-- the types of checked sources are as their typed trees ask for them
pub all_ready : (externs : List Name) (sources : List AcceptedSource) → All (IsCheckedSource externs) sources → All HasReadyTypes sources
all_ready externs sources = All-weaker (IsCheckedSource externs) HasReadyTypes (λ source checked. (checked.ready, checked.few)) sources

checked_of : (externs : List Name) (source : AcceptedSource) → IsCheckedSource externs source → IsNumbered source → IsCheckedOf externs source.parsed.unit source.checked
checked_of externs source checked (before, numbers) = record { before = before; numbers = numbers; faultless = checked.faultless; records = checked.records; behind = checked.behind }

-- sources that are checked and numbered come to typed trees
pub all_typed : (externs : List Name) (sources : List AcceptedSource) (units : List TypedUnit) → All (IsCheckedSource externs) sources → All IsNumbered sources → AllZip TypesSource sources units →
    AreTyped externs (units_of sources) units
all_typed externs [] [] checked numbered typed = typed
all_typed externs [] (unit ∷ units) checked numbered typed = absurd typed
all_typed externs (source ∷ sources) [] checked numbered typed = absurd typed
all_typed externs (source ∷ sources) (unit ∷ units) checked numbered typed = (
  typed.0 externs (checked_of externs source (All-head (IsCheckedSource externs) source sources checked) (All-head IsNumbered source sources numbered)),
  all_typed externs sources units (All-tail (IsCheckedSource externs) source sources checked) (All-tail IsNumbered source sources numbered) typed.1,
)

-- there is one of each source
pub as_many : (sources : List AcceptedSource) (units : List TypedUnit) → AllZip TypesSource sources units → length units ≡ length sources
as_many [] [] typed = refl
as_many [] (unit ∷ units) typed = absurd typed
as_many (source ∷ sources) [] typed = absurd typed
as_many (source ∷ sources) (unit ∷ units) typed = ap suc (as_many sources units typed.1)

-- typed trees are as their program asks for them
pub all_sources : TypedUnitsAreSources → (externs : List Name) (trees : List Unit) (units : List TypedUnit) → AreTyped externs trees units → AreSources units
all_sources law externs [] [] typed = All-nil IsSource
all_sources law externs [] (unit ∷ units) typed = absurd typed
all_sources law externs (tree ∷ trees) [] typed = absurd typed
all_sources law externs (tree ∷ trees) (unit ∷ units) typed = All-cons IsSource unit units (law externs tree unit typed.0) (all_sources law externs trees units typed.1)

-- why they are not put together
pub unlinked : (externs : List Name) (trees : List Unit) (units : List TypedUnit) → AreTyped externs trees units → (result : Result Whole Fault) → IfErr result (linking.IsFault units externs) →
    IfErr result (IsUnlinkedFault externs trees)
unlinked externs trees units typed (Ok whole) is = tt
unlinked externs trees units typed (Err (fault.Refused refusal)) is = record { units = units; typed = typed; refused = is }
unlinked externs trees units typed (Err fault.NoMemory) is = tt
