-- Why a mutex or condition variable may not be used (the POSIX pages of the functions).
use Rattle.std.specs.Prelude.{ℕ, Option}
use Rattle.lk_facts.specs.declared.program.Program.{Program}
use Rattle.lk_cells.specs.declared.state.State.{State}
use Rattle.lk_values.specs.declared.value.Value.{Value}
use Rattle.lk_values.specs.Causes.{◌or◌, ◌when◌}
use Rattle.lk_cells.specs.Places as places
use Rattle.lk_cells.specs.Places.{is_unready, is_taken, is_not_of, is_condition_unready}
use Rattle.lk_values.specs.declared.why.Why.{Why}
use Rattle.lk_values.specs.declared.why.Why.TheVariants as why

module _ (program : Program) (s : State) where
  -- a mutex, or a condition variable below, is used through a pointer (the POSIX pages of the functions)
  abbrev pub lock_row : Option Value → Option Why
  lock_row v = places.followed s v or why.NotReady when is_unready (places.mutex_through program.types s v)

  -- a mutex is freed by the thread of this number, which owns it
  abbrev pub unlock_row : ℕ → Option Value → Option Why
  unlock_row t v =
      places.followed s v or why.NotOwner when is_not_of t (places.mutex_through program.types s v)

  abbrev pub signal_row : Option Value → Option Why
  signal_row v =
      places.followed s v or why.NotReady when is_condition_unready
      (places.condition_through program.types s v)

  -- a mutex that is made ready, or not ready, isn't owned
  abbrev pub init_row : Option Value → Option Why
  init_row v = places.followed s v or why.OwnedLock when is_taken (places.mutex_through program.types s v)

  abbrev pub destroy_row : Option Value → Option Why
  destroy_row v = init_row v or lock_row v or signal_row v

  -- a thread frees a mutex to wait on a condition variable (POSIX pthread_cond_wait)
  abbrev pub release_row : ℕ → Option Value → Option Value → Option Why
  release_row t condition mutex = unlock_row t mutex or signal_row condition
