-- Why a thread may not be joined or detached (POSIX pthread_join, pthread_detach).
use Rattle.std.specs.Prelude.{ℕ, Bool, false, not, ◌||◌, Option, None, Some, slice_get, nat_eq, ◌&&◌}
use Rattle.std.specs.Option.{option_map_or}
use Rattle.lk_cells.specs.declared.state.State.{State}
use Rattle.lk_values.specs.declared.value.Value.{Value}
use Rattle.lk_values.specs.declared.value.Value.TheVariants.{Number, Pointer, Function, Null, Thread as Id, Indeterminate}
use Rattle.lk_values.specs.Causes.{◌or◌, ◌when◌, never}
use Rattle.lk_cells.specs.Operands.{used}
use Rattle.lk_values.specs.declared.why.Why.{Why}
use Rattle.lk_values.specs.declared.why.Why.TheVariants as why

module _ (s : State) where
  -- whether a thread that is there was neither joined nor detached
  abbrev pub may_be_joined : ℕ → Bool
  may_be_joined u =
      option_map_or (λ other. not (other.joined || other.detached)) (slice_get s.threads u) false

-- a thread id is joined or detached, where the test tells which threads may be (POSIX
-- pthread_join, pthread_detach)
abbrev pub id_cause : (ℕ → Bool) → Option Value → Option Why
id_cause may None = never
id_cause may (Some (Number k n)) = Some why.WrongType
id_cause may (Some (Pointer p)) = Some why.WrongType
id_cause may (Some (Function f)) = Some why.WrongType
id_cause may (Some Null) = Some why.WrongType
id_cause may (Some (Id None)) = Some why.BadJoin
id_cause may (Some (Id (Some u))) = why.BadJoin when not (may u)
id_cause may (Some Indeterminate) = never

-- a thread is joined by the thread of this number, and not by itself; or detached
abbrev pub join_row : State → ℕ → Option Value → Option Why
join_row s t v = used v or id_cause (λ u. may_be_joined s u && not (nat_eq u t)) v

abbrev pub detach_row : State → Option Value → Option Why
detach_row s v = used v or id_cause (may_be_joined s) v
