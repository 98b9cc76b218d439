-- What locks, items and races do along trails. They speak of any predicate of owned places, so they are lemmas and no contracts.
use Rattle.std.specs.Prelude.{◌≡◌, ◌⊎◌, ℕ, Bool, true, List, [], Some}
use Rattle.lk_facts.specs.Basis.{Basis}
use Rattle.lk_facts.specs.Doing.{Accesses}
use Rattle.lk_facts.specs.Flow.{Flow, RisesAs}
use Rattle.lk_facts.specs.Held.{AreClosedLockSets}
use Rattle.lk_facts.specs.Labels.{LabelTable, is_origin_at}
use Rattle.lk_facts.specs.LockSets.{LockSets}
use Rattle.lk_facts.specs.Lowered.{IsLowered}
use Rattle.lk_facts.specs.PathTables.{IsClosed}
use Rattle.lk_facts.specs.Program.{IsLocation, writes_at, entry_of}
use Rattle.lk_facts.specs.declared.edge.Edge.{Edge}
use Rattle.lk_facts.specs.declared.way.Way.{Way}
use Rattle.lk_trails.specs.Holding.{Owned, AreHeld, OwnedGoesOn}
use Rattle.lk_trails.specs.Named.{Means, Holds}
use Rattle.lk_trails.specs.Rising.{Tables, AreClosedTables}
use Rattle.lk_trails.specs.Trails.{Act, Trail, Stay, trail, inside_of, Moves, IsFromMain, IsLinked, ArePast}

module _ (basis : Basis) (es : List Edge) (tables : Tables) where
  -- a trail to a thread that stands at an access of the place o, in an object at home in h, and owns what its lock sets say
  pub record Accessing (owned : Owned basis es tables.held) (o : ℕ) (h : List ℕ) (a : ℕ) (t : Trail) : Type 0 where
    pub from_main : IsFromMain basis t
    pub held : AreHeld basis es tables.held owned t
    pub at : t.top.point ≡ a
    pub f : ℕ
    pub label : ℕ
    pub accesses : Accesses basis a f label
    pub means : Means basis.labels es o h label t.top.context

  -- a racing item of main for o and the access, of whose locks each one means a mutex that is owned
  pub record IsRacingItem (owned : Owned basis es tables.held) (o a : ℕ) : Type 0 where
    pub child : Bool
    pub races : tables.races basis.program.main child o a ≡ true
    pub locks : (x : ℕ) → tables.race_locks basis.program.main child o a x ≡ true → Holds basis.labels es owned x []

-- so a lock that rises is owned outside where it is inside
abbrev pub LocksGoOut : Type 1
LocksGoOut =
    (es : List Edge) (labels : LabelTable) (flow : Flow) → IsClosed es labels flow → (owned : ℕ → List ℕ → Type 0) (x y : ℕ) (c : List ℕ) (way : Way) →
    RisesAs flow way y x → Holds labels es owned y (inside_of way c) → Holds labels es owned x c

-- A step of a thread keeps what its lock sets say of its trail; so it is with a trail that doesn't move; and of one that begins they say nothing.
abbrev pub HeldStays : Type 1
HeldStays =
    (basis : Basis) (es : List Edge) (held : LockSets) (old new : Owned basis es held) → ((o : ℕ) (h : List ℕ) → old o h → new o h) → (t : Trail) → AreHeld basis es held old t →
    AreHeld basis es held new t

abbrev pub HeldBegins : Type 1
HeldBegins =
    (basis : Basis) (es : List Edge) (held : LockSets) → AreClosedLockSets basis held → (owned : Owned basis es held) (f : ℕ) (to : Stay) → entry_of basis.program f ≡ Some to.point →
    AreHeld basis es held owned (trail [] to)

abbrev pub HeldIsKept : Type 1
HeldIsKept =
    (basis : Basis) (es : List Edge) (held : LockSets) → IsClosed es basis.labels basis.flow → AreClosedLockSets basis held →
    (old new : Owned basis es held) (act : Act) (s t : Trail) → IsLinked basis s.left s.top → OwnedGoesOn basis es held s.top old new → Moves basis act s t → AreHeld basis es held old s →
    AreHeld basis es held new t

-- two accesses to one place, one of which writes, along trails that have parted: main has racing items of both
pub record RacingItemsRise (basis : Basis) (es : List Edge) (tables : Tables) : Type 1 where
  pub rise : IsClosed es basis.labels basis.flow → AreClosedTables basis tables → (mine yours : Owned basis es tables.held) (o a b : ℕ) (h : List ℕ) (s t : Trail) →
      IsLocation basis.program o → is_origin_at basis.labels o ≡ true → Accessing basis es tables mine o h a s → Accessing basis es tables yours o h b t → ArePast basis.program s t →
      (writes_at basis.program a ≡ true) ⊎ (writes_at basis.program b ≡ true) → IsRacingItem basis es tables mine o a × IsRacingItem basis es tables yours o b

abbrev pub RacesRise : Type 1
RacesRise = (basis : Basis) → IsLowered basis.program → (es : List Edge) (tables : Tables) → RacingItemsRise basis es tables
