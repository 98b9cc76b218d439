-- Mutexes that are owned (POSIX pthread_mutex_lock).
use Rattle.std.specs.Prelude.{Bool, true, false, List}
use Rattle.std.specs.List.{list_any}
use Rattle.std.specs.Map.{values_of}
use Rattle.lk_base.specs.declared.cell.CellStep.{CellStep}
use Rattle.lk_values.specs.declared.value.Mutex.{Mutex}
use Rattle.lk_values.specs.declared.value.Mutex.TheVariants as mutex

-- whether a thread owns the mutex
abbrev pub is_owned : Mutex → Bool
is_owned mutex.NotReady = false
is_owned mutex.Free = false
is_owned (mutex.Owned t) = true

-- whether one of the mutexes at paths is owned
abbrev pub is_any_owned : List (List CellStep × Mutex) → Bool
is_any_owned mutexes = list_any is_owned (values_of mutexes)
