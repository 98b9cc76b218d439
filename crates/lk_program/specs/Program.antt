-- The program that accepted sources make, and why others make none.
use Rattle.std.specs.Bool.{⊤}
use Rattle.std.specs.Prelude.{ℕ, ◌≡◌, ◌<◌, All, List, Some, length, map, slice_get}
use Rattle.std.specs.List.{AllZip}
use Rattle.lk_base.specs.declared.fault.Fault.{Fault}
use Rattle.lk_base.specs.declared.fault.Fault.TheVariants as fault
use Rattle.lk_base.specs.declared.refusal.Refusal.{Refusal}
use Rattle.lk_join.specs.Program.{IsLinked, IsRefusal}
use Rattle.lk_program.specs.declared.program.Program.{Program}
use Rattle.lk_sources.specs.Accepting.{units_of}
use Rattle.lk_sources.specs.declared.accepting.Accepted.{Accepted}
use Rattle.lk_sources.specs.declared.fault.SourcesFault.{SourcesFault}
use Rattle.lk_sources.specs.declared.fault.SourcesFault.TheVariants as told
use Rattle.lk_spots.specs.TypedPlaces.{TypedUnitSpots}
use Rattle.lk_tree.specs.declared.statement.Unit.{Unit}
use Rattle.lk_typed.specs.Env.{Name}
use Rattle.lk_typed.specs.TypedUnits.{IsTypedUnit}
use Rattle.lk_typed.specs.declared.unit.TypedUnit.{TypedUnit}
use Rattle.lk_typed.specs.declared.whole.Whole.{Whole}

-- ---- trees of sources, where --externs lists these names

module _ (externs : List Name) (trees : List Unit) where
  -- their typed trees
  abbrev pub AreTyped : List TypedUnit → Type 0
  AreTyped units = AllZip (IsTypedUnit externs) trees units

  -- these are put together
  pub record IsProgram (whole : Whole) : Type 0 where
    pub units : List TypedUnit
    pub typed : AreTyped units
    pub linked : IsLinked units externs whole

  -- or speak against one another: 60 to 63
  pub record IsUnlinked (refusal : Refusal) : Type 0 where
    pub units : List TypedUnit
    pub typed : AreTyped units
    pub refused : IsRefusal units externs refusal

  abbrev pub IsUnlinkedFault : Fault → Type 0
  IsUnlinkedFault (fault.Refused refusal) = IsUnlinked refusal
  IsUnlinkedFault fault.NoMemory = ⊤

-- ---- accepted sources

-- each place in typed trees is in one of the first files
abbrev pub StandIn : ℕ → List TypedUnit → Type 0
StandIn files units = All (TypedUnitSpots (λ spot. spot.file < files)) units

-- the program of accepted sources, and where it stands
pub record Makes (sources : Accepted) (made : Program) : Type 0 where
  pub files : made.files ≡ sources.files
  pub is : IsProgram sources.externs.items (units_of sources.sources.items) made.whole
  pub some : 0 < length sources.files
  pub stand : StandIn (length sources.files) (map (λ linked. linked.unit) made.whole.sources)

-- why they make none, with the name of the file in which its place stands
pub record IsUnlinkedIn (sources : Accepted) (file : List ℕ) (refusal : Refusal) : Type 0 where
  pub why : IsUnlinked sources.externs.items (units_of sources.sources.items) refusal
  pub at : slice_get sources.files refusal.spot.file ≡ Some file

abbrev pub IsFault : Accepted → SourcesFault → Type 0
IsFault sources (told.Refused file refusal) = IsUnlinkedIn sources file refusal
IsFault sources (told.Unread name) = ⊥
IsFault sources told.NoMemory = ⊤
