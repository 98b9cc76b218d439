-- Soundness of locks and of races: threads own what the lock sets say, a race in a run is a pair of racing
-- items, and so no state that is reached has a race at a location that isn't called suspect. Each law is the
-- contract of a public function.
use Rattle.std.specs.Prelude.{◌≡◌, ℕ, Bool, true, List, Some, slice_get}
use Rattle.lk_cells.specs.declared.state.State.{State}
use Rattle.lk_cells.specs.declared.state.Thread.{Thread}
use Rattle.lk_facts.specs.Analysis.{AreVerdictsOf}
use Rattle.lk_facts.specs.Basis.{Basis}
use Rattle.lk_facts.specs.Held.{AreClosedLockSets, at_test}
use Rattle.lk_facts.specs.Labels.{is_lock_at}
use Rattle.lk_facts.specs.LockSets.{LockSets}
use Rattle.lk_facts.specs.Many.{IsLinear}
use Rattle.lk_facts.specs.PathTables.{IsFlowOf}
use Rattle.lk_facts.specs.Program.{action_at}
use Rattle.lk_facts.specs.Verdicts.{IsLockedBy}
use Rattle.lk_facts.specs.declared.action.Action.TheVariants.{Retake}
use Rattle.lk_facts.specs.declared.edge.Edge.{Edge}
use Rattle.lk_facts.specs.declared.program.Program.{Program}
use Rattle.lk_facts.specs.declared.verdict.Verdict.{Verdict}
use Rattle.lk_facts.specs.declared.verdict.VerdictState.TheVariants.{Suspect}
use Rattle.lk_meaning.specs.Laws.{Owns}
use Rattle.lk_meaning.specs.Locations.{HasLocation}
use Rattle.lk_meaning.specs.Reached.{Reached}
use Rattle.lk_meaning.specs.Runs.{Race}
use Rattle.lk_meaning.specs.declared.stepping.Event.{Event}
use Rattle.lk_meaning.specs.declared.stepping.Stepped.{Stepped}
use Rattle.lk_meaning.specs.declared.stepping.Stepped.TheVariants.{Moved, Waits, Undefined, Ended, NoSuchThread, Full, NoMemory}
use Rattle.lk_right.specs.Laws.{IsAnalysed}
use Rattle.lk_safe.specs.Steps.{IsFollowed}
use Rattle.lk_sound.specs.Soundness.{HasOrigin}
use Rattle.lk_trails.specs.Rising.{Tables, AreClosedTables}
use Rattle.lk_values.specs.declared.cell.Cell.{Cell}

-- the thread isn't about to take a mutex again after a wait
abbrev pub IsNoRetake : Program → ℕ → Type 0
IsNoRetake program p = (a : ℕ) → action_at program p ≡ Some (Retake a) → ⊥

module _ (basis : Basis) (s : State) (t : ℕ) where
  -- the thread owns a mutex at this place
  pub record OwnsPlace (o : ℕ) : Type 0 where
    pub cell : Cell
    pub owns : Owns basis.program s t cell
    pub of : HasOrigin basis.program basis.labels s cell o

  -- and the label may mean it
  pub record OwnsLock (x : ℕ) : Type 0 where
    pub origin : ℕ
    pub place : OwnsPlace origin
    pub is_lock : is_lock_at basis.labels origin ≡ true
    pub all : basis.flow.all x origin ≡ true

-- Soundness of locks (LOCKSMITH: lock state). It is asked of each thread that stands at a point,
-- whether its step is defined or not.
abbrev pub LocksAreHeld : Type 0
LocksAreHeld =
    (basis : Basis) (es : List Edge) → IsFollowed basis es → (held : LockSets) →
    AreClosedLockSets basis held → (s : State) → Reached basis.program s →
    (t : ℕ) (thread : Thread) → slice_get s.threads t ≡ Some thread →
    IsNoRetake basis.program thread.frame.point →
    (x : ℕ) → at_test held thread.frame.point x ≡ true → OwnsLock basis s t x

-- the same of what a step tells: the thread that moved owned what the lock sets have at its point
abbrev pub IsEventHeld : Program → State → Event → Type 0
IsEventHeld program s event =
    (basis : Basis) (es : List Edge) → basis.program ≡ program → IsFollowed basis es → (held : LockSets) →
    AreClosedLockSets basis held → Reached program s → IsNoRetake program event.point →
    (x : ℕ) → at_test held event.point x ≡ true → OwnsLock basis s event.thread x

-- what `step` promises where it moved
abbrev pub IsSteppedHeld : Program → State → Stepped → Type 0
IsSteppedHeld program s (Moved s2 event) = IsEventHeld program s event
IsSteppedHeld program s (Waits s2) = s2 ≡ s
IsSteppedHeld program s (Undefined s2 why) = s2 ≡ s
IsSteppedHeld program s (Ended s2) = s2 ≡ s
IsSteppedHeld program s (NoSuchThread s2) = s2 ≡ s
IsSteppedHeld program s (Full s2) = s2 ≡ s
IsSteppedHeld program s (NoMemory s2) = s2 ≡ s

-- main has a racing item for the location o of the access at which the thread stands, and the thread owns a
-- mutex at each lock place by which its racing items for o are locked
pub record IsFound (basis : Basis) (tables : Tables) (s : State) (t o : ℕ) : Type 0 where
  pub thread : Thread
  pub there : slice_get s.threads t ≡ Some thread
  pub child : Bool
  pub races : tables.races basis.program.main child o thread.frame.point ≡ true
  pub owns : (q : ℕ) → IsLockedBy basis tables.races tables.race_locks o thread.frame.point q →
      OwnsPlace basis s t q

-- Soundness of races (LOCKSMITH: correlation of accesses and locks)
abbrev pub RacesAreFound : Type 0
RacesAreFound =
    (basis : Basis) (es : List Edge) → IsFollowed basis es → (tables : Tables) →
    AreClosedTables basis tables → (s : State) → Reached basis.program s →
    (cell : Cell) (race : Race basis.program s cell) (o : ℕ) → HasLocation basis.program s cell o →
    IsFound basis tables s race.first o × IsFound basis tables s race.second o

-- a linear lock place has one mutex (LOCKSMITH: linearity)
abbrev pub LinearIsOne : Type 0
LinearIsOne =
    (basis : Basis) (es : List Edge) → IsFollowed basis es → (s : State) → Reached basis.program s →
    (q : ℕ) → IsLinear basis.program q →
    (c d : Cell) → HasOrigin basis.program basis.labels s c q →
    HasOrigin basis.program basis.labels s d q → c ≡ d

-- ---- what verdicts say of races

-- the tables of the analysis from which verdicts follow
abbrev pub tables_behind : (basis : Basis) (verdicts : List Verdict) → AreVerdictsOf basis verdicts → Tables
tables_behind basis verdicts are = record {
  held = are.held;
  after = are.after;
  has = are.has;
  item_locks = are.item_locks;
  races = are.races;
  race_locks = are.race_locks;
  linear = are.linear;
}

-- the analysis has found a race of the threads t and u at the location o: main has racing items for it from
-- both accesses, each thread owns a mutex at the lock places of its own, and each of these that counts as
-- linear has one mutex
pub record IsRaceFound (basis : Basis) (tables : Tables) (s : State) (t u o : ℕ) : Type 0 where
  pub first : IsFound basis tables s t o
  pub second : IsFound basis tables s u o
  pub one : (q : ℕ) → tables.linear q ≡ true → (c d : Cell) → HasOrigin basis.program basis.labels s c q →
      HasOrigin basis.program basis.labels s d q → c ≡ d

-- so it is with each race at a location in each state that is reached
abbrev pub FindsRaces : (basis : Basis) (verdicts : List Verdict) → AreVerdictsOf basis verdicts → Type 0
FindsRaces basis verdicts are =
    (s : State) → Reached basis.program s → (cell : Cell) (race : Race basis.program s cell) (o : ℕ) →
    HasLocation basis.program s cell o →
    IsRaceFound basis (tables_behind basis verdicts are) s race.first race.second o

-- so it is with the verdicts of a program that was lowered, by its labels, its
-- edges and what flows along these
abbrev pub VerdictsFindRaces : Type 0
VerdictsFindRaces =
    (basis : Basis) (es : List Edge) → IsAnalysed basis.program basis.labels es →
    IsFlowOf es basis.labels basis.flow → (verdicts : List Verdict) (are : AreVerdictsOf basis verdicts) →
    FindsRaces basis verdicts are

-- ---- no races but at suspect locations

-- no state that is reached has a race at a location that isn't called suspect
abbrev pub HasNoOtherRaces : Program → List Verdict → Type 0
HasNoOtherRaces program verdicts =
    (s : State) → Reached program s → (cell : Cell) → Race program s cell → (o : ℕ) →
    HasLocation program s cell o → (verdict : Verdict) → slice_get verdicts o ≡ Some verdict →
    verdict.state ≡ Suspect

abbrev pub RacesAreSuspect : Type 0
RacesAreSuspect = (basis : Basis) (es : List Edge) → IsFollowed basis es → (verdicts : List Verdict) →
    AreVerdictsOf basis verdicts → HasNoOtherRaces basis.program verdicts

-- so it is with the verdicts of a program that was lowered, by its labels, its
-- edges and what flows along these
abbrev pub VerdictsAreSafe : Type 0
VerdictsAreSafe =
    (basis : Basis) (es : List Edge) → IsAnalysed basis.program basis.labels es →
    IsFlowOf es basis.labels basis.flow → (verdicts : List Verdict) → AreVerdictsOf basis verdicts →
    HasNoOtherRaces basis.program verdicts
