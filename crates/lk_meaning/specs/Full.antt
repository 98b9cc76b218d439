-- When a step would make a thread or an object of the number that none may have.
use Rattle.std.specs.Prelude.{ℕ, ◌+◌, Bool, ◌&&◌, ◌||◌, length, nat_lt}
use Rattle.lk_facts.specs.declared.program.Program.{Program}
use Rattle.lk_cells.specs.declared.state.State.{State}
use Rattle.lk_change.specs.declared.change.Change.{Change}
use Rattle.lk_change.specs.declared.change.Change.TheVariants.{Goes, Enter, Leave, EndThread, EndProcess}
use Rattle.lk_change.specs.declared.change.Effect.{Effect}
use Rattle.lk_change.specs.declared.change.Effect.TheVariants as effect
use Rattle.lk_birth.specs.Births.{locals_of}

-- the number that no thread and no object may have
abbrev pub greatest : ℕ
greatest = 4294967295

-- how many objects and threads a change makes
abbrev pub objects_by : Program → Effect → ℕ
objects_by program effect.Nothing = 0
objects_by program (effect.PutSlot slot v) = 0
objects_by program (effect.PutValue c v) = 0
objects_by program (effect.PutMutex c m) = 0
objects_by program (effect.PutCondition c m) = 0
objects_by program (effect.Begin call) = length (locals_of program call.function)
objects_by program (effect.Join u) = 0
objects_by program (effect.Detach u) = 0
objects_by program (effect.Bear birth) = 1
objects_by program (effect.End o) = 0

abbrev pub threads_by : Effect → ℕ
threads_by effect.Nothing = 0
threads_by (effect.PutSlot slot v) = 0
threads_by (effect.PutValue c v) = 0
threads_by (effect.PutMutex c m) = 0
threads_by (effect.PutCondition c m) = 0
threads_by (effect.Begin call) = 1
threads_by (effect.Join u) = 0
threads_by (effect.Detach u) = 0
threads_by (effect.Bear birth) = 0
threads_by (effect.End o) = 0

abbrev pub objects_made : Program → Change → ℕ
objects_made program (Goes going) = objects_by program going.effect
objects_made program (Enter call) = length (locals_of program call.function)
objects_made program (Leave v q) = 0
objects_made program EndThread = 0
objects_made program EndProcess = 0

abbrev pub threads_made : Change → ℕ
threads_made (Goes going) = threads_by going.effect
threads_made (Enter call) = 0
threads_made (Leave v q) = 0
threads_made EndThread = 0
threads_made EndProcess = 0

-- whether so many more than there are would need the number that none may have
abbrev pub is_past : ℕ → ℕ → Bool
is_past there more = nat_lt 0 more && nat_lt greatest (there + more)

-- whether a change would make a thread or an object of the number that none may have
abbrev pub is_full : Program → State → Change → Bool
is_full program s change =
    is_past (length s.objects) (objects_made program change)
    || is_past (length s.threads) (threads_made change)
