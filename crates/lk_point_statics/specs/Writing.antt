-- The points that write the pointers with which cells of static storage begin (C99 6.7.8, 4).
use Rattle.std.specs.Prelude.{◌≡◌, ◌<◌, ◌≤◌, ℕ, Bool, true, false, List, Some, All, length, slice_get, ⊤}
use Rattle.lk_facts.specs.Initials.{GivesFunction}
use Rattle.lk_facts.specs.Lowered.{IsInitial}
use Rattle.lk_facts.specs.Program.{action_at, function_at}
use Rattle.lk_facts.specs.declared.action.Action.TheVariants.{Write}
use Rattle.lk_facts.specs.declared.initial.Initial.{Initial}
use Rattle.lk_facts.specs.declared.initial.InitialValue.{InitialValue}
use Rattle.lk_facts.specs.declared.initial.InitialValue.TheVariants as value
use Rattle.lk_facts.specs.declared.program.Program.{Program}
use Rattle.lk_point_statics.specs.Near.{GivesNear, IsWrittenNear}
use Rattle.lk_point_statics.specs.declared.writes.StaticWrite.{StaticWrite}

-- the point is one of no function, and writes what one point gives into the cell to which another one points
pub record WritesAt (program : Program) (p : ℕ) (write : StaticWrite) : Type 0 where
  pub stands : function_at program p ≡ Some (length program.functions)
  pub does : action_at program p ≡ Some (Write write.pointer write.value false)

-- a point of no function writes what one point gives into the cell to which another one points
pub record IsStaticWrite (program : Program) (write : StaticWrite) : Type 0 where
  pub point : ℕ
  pub writes : WritesAt program point write
  pub pointer_in : write.pointer < length program.points
  pub value_in : write.value < length program.points

-- the list has it
abbrev pub IsAmong : List StaticWrite → StaticWrite → Type 0
IsAmong writes write = (i : ℕ) × (slice_get writes i ≡ Some write)

-- these are what the points of no function before this one write
pub record AreWritesBefore (program : Program) (p : ℕ) (writes : List StaticWrite) : Type 0 where
  pub each : All (IsStaticWrite program) writes
  pub all : (q : ℕ) (write : StaticWrite) → q < p → WritesAt program q write → IsAmong writes write

-- these are what the points of no function write
pub record AreStaticWrites (program : Program) (writes : List StaticWrite) : Type 0 where
  pub each : All (IsStaticWrite program) writes
  pub all : (p : ℕ) (write : StaticWrite) → WritesAt program p write → IsAmong writes write

-- the point gives the pointer with which a cell begins; any other value needs none
abbrev pub GivesValue : Program → ℕ → InitialValue → Type 0
GivesValue program b (value.Number n) = ⊤
GivesValue program b value.Null = ⊤
GivesValue program b (value.Function f) = GivesFunction program b f
GivesValue program b (value.Address r path past) = GivesNear program b r path past
GivesValue program b value.Ready = ⊤

-- whether it is a pointer that a point writes
abbrev pub needs_write : InitialValue → Bool
needs_write (value.Number n) = false
needs_write value.Null = false
needs_write (value.Function f) = true
needs_write (value.Address r path past) = true
needs_write value.Ready = false

-- the pointer with which the cell begins is what is written
pub record Begins (program : Program) (initial : Initial) (write : StaticWrite) : Type 0 where
  pub cell : GivesNear program write.pointer initial.root initial.path false
  pub value : GivesValue program write.value initial.value

-- the write at this place is that of the cell
abbrev pub BeginsAt : Program → Initial → List StaticWrite → ℕ → Type 0
BeginsAt program initial writes i =
    (write : StaticWrite) × (slice_get writes i ≡ Some write) × Begins program initial write

-- none of the writes from one place up to another is that of the cell
abbrev pub NoneBegins : Program → Initial → List StaticWrite → (first end : ℕ) → Type 0
NoneBegins program initial writes first end =
    (i : ℕ) → first ≤ i → i < end → BeginsAt program initial writes i → ⊥

abbrev pub IsBegun : Program → Initial → Type 0
IsBegun program initial = IsWrittenNear program initial initial.value

abbrev pub MayAllBegin : Program → Type 0
MayAllBegin program = (i : ℕ) (initial : Initial) → slice_get program.initials i ≡ Some initial →
    IsInitial program initial

abbrev pub AreWritten : Program → Type 0
AreWritten program = (i : ℕ) (initial : Initial) → slice_get program.initials i ≡ Some initial →
    IsBegun program initial
