-- Where the typed trees of accepted sources stand, and what is told of them.
use Rattle.std.specs.Bool.{⊤}
use Rattle.std.proofs.Common.{◌≡◌, ◌<◌, ℕ, List, [], ◌∷◌, Some, length, refl, slice_get, sym, subst, arith}
use Rattle.std.specs.Prelude.{All}
use Rattle.std.proofs.lemmas.List.Elements.{All-cons, All-head, All-nil, All-tail}
use Rattle.lk_base.specs.declared.refusal.Refusal.{Refusal}
use Rattle.lk_base.specs.declared.spot.Spot.{Spot}
use Rattle.lk_join.specs.Program.{IsRefusal, without_main, clashing}
use Rattle.lk_sources.specs.Accepting.{AreChecked, IsInFile, IsPlaced, units_of}
use Rattle.lk_sources.specs.Readable.{AreFew}
use Rattle.lk_sources.specs.declared.accepting.Accepted.{Accepted}
use Rattle.lk_sources.specs.declared.checking.AcceptedSource.{AcceptedSource}
use Rattle.lk_sources.specs.declared.fault.SourcesFault.{SourcesFault}
use Rattle.lk_sources.specs.declared.fault.SourcesFault.TheVariants as told
use Rattle.lk_spots.specs.Laws.{TypedTreesStandInFiles}
use Rattle.lk_spots.specs.TypedPlaces.{TypedUnitSpots}
use Rattle.lk_tree.specs.declared.statement.Unit.{Unit}
use Rattle.lk_typed.specs.Env.{Name}
use Rattle.lk_typed.specs.declared.unit.TypedUnit.{TypedUnit}
use Rattle.lk_typed.specs.declared.whole.Whole.{Whole}
use Rattle.lk_program.specs.Program.{AreTyped, IsFault, IsProgram, IsUnlinked, Makes, StandIn}
use Rattle.lk_program.specs.Trees.{IsNumbered}
use Rattle.lk_program.specs.declared.program.Program.{Program}
use Rattle.lk_program.proofs.ClashSpots.{clash_stands}

-- the trees of sources that stand in files are numbered
pub all_numbered : (files : ℕ) (sources : List AcceptedSource) → All (IsPlaced files) (units_of sources) → All IsNumbered sources
all_numbered files [] placed = All-nil IsNumbered
all_numbered files (source ∷ sources) placed =
    let tree = (All-head (IsPlaced files) source.parsed.unit (units_of sources) placed).tree in
    All-cons IsNumbered source sources (record { externals = tree.externals }, tree.ordinals)
    (all_numbered files sources (All-tail (IsPlaced files) source.parsed.unit (units_of sources) placed))

-- a place is in one of the first files
abbrev IsIn : ℕ → Spot → Type 0
IsIn files spot = spot.file < files

module _ (law : TypedTreesStandInFiles) where
  -- typed trees stand where their tokens do
  all_stand : (files : ℕ) (externs : List Name) (trees : List Unit) (units : List TypedUnit) → All (IsPlaced files) trees → AreTyped externs trees units → StandIn files units
  all_stand files externs [] [] placed typed = All-nil (TypedUnitSpots (IsIn files))
  all_stand files externs [] (unit ∷ units) placed typed = absurd typed
  all_stand files externs (tree ∷ trees) [] placed typed = absurd typed
  all_stand files externs (tree ∷ trees) (unit ∷ units) placed typed =
      let at = All-head (IsPlaced files) tree trees placed in
      All-cons (TypedUnitSpots (IsIn files)) unit units (law 200 files externs at.bytes at.tokens tree unit at.filed.each at.tree typed.0)
      (all_stand files externs trees units (All-tail (IsPlaced files) tree trees placed) typed.1)

  -- where a source is accepted there is a file
  some_file : (files : ℕ) (sources : List AcceptedSource) → 0 < length sources → All (IsPlaced files) (units_of sources) → 0 < files
  some_file files [] some placed = absurd (omega (arith, some))
  some_file files (source ∷ sources) some placed = (All-head (IsPlaced files) source.parsed.unit (units_of sources) placed).filed.some

  module _ (sources : Accepted) (checked : AreChecked sources) (few : AreFew (length sources.sources.items)) where
    some : 0 < length sources.files
    some = some_file (length sources.files) sources.sources.items few.some checked.placed

    stand : (units : List TypedUnit) → AreTyped sources.externs.items (units_of sources.sources.items) units → StandIn (length sources.files) units
    stand units typed = all_stand (length sources.files) sources.externs.items (units_of sources.sources.items) units checked.placed typed

    pub stands : (whole : Whole) → IsProgram sources.externs.items (units_of sources.sources.items) whole → Makes sources (record { files = sources.files; whole = whole })
    stands whole is = record {
      files = refl;
      is = is;
      some = some;
      stand = subst (StandIn (length sources.files)) (sym is.linked.joined.sources) (stand is.units is.typed);
    }

    refusal_in : (units : List TypedUnit) → StandIn (length sources.files) units → (refusal : Refusal) → IsRefusal units sources.externs.items refusal → refusal.spot.file < length sources.files
    refusal_in units are refusal (without_main none) = some
    refusal_in units are refusal (clashing clash has first) = clash_stands (IsIn (length sources.files)) units sources.externs.items clash are first.0

    pub unlinked_in : (refusal : Refusal) → IsUnlinked sources.externs.items (units_of sources.sources.items) refusal → refusal.spot.file < length sources.files
    unlinked_in refusal is = refusal_in is.units (stand is.units is.typed) refusal is.refused

-- a refusal with the name of its file
pub refused : (sources : Accepted) (refusal : Refusal) (fault : SourcesFault) → IsUnlinked sources.externs.items (units_of sources.sources.items) refusal → IsInFile sources.files refusal fault →
    IsFault sources fault
refused sources refusal (told.Refused file is) why (same, at) = record {
  why = subst (IsUnlinked sources.externs.items (units_of sources.sources.items)) (sym same) why;
  at = subst (λ (r : Refusal). slice_get sources.files r.spot.file ≡ Some file) (sym same) at;
}
refused sources refusal (told.Unread name) why none = absurd none
refused sources refusal told.NoMemory why none = tt
