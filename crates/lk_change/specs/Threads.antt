-- How threads begin, and are joined or detached (POSIX pthread_create, pthread_join, pthread_detach).
use Rattle.std.specs.Prelude.{ℕ, [], ◌∷◌, Option, Some, option_and_then, if◌then◌else◌, nat_eq, pos}
use Rattle.std.specs.Option.{option_map}
use Rattle.lk_base.specs.declared.kind.Kind.TheVariants as kind
use Rattle.lk_facts.specs.declared.program.Program.{Program}
use Rattle.lk_values.specs.declared.value.Value.{Value}
use Rattle.lk_values.specs.declared.value.Value.TheVariants.{Number}
use Rattle.lk_cells.specs.Operands.{id_in}
use Rattle.lk_change.specs.declared.change.Change.{Change}
use Rattle.lk_change.specs.declared.change.Effect.TheVariants as effect
use Rattle.lk_change.specs.Going.{goes, succeeds}
use Rattle.lk_change.specs.Calls.{call_of}

-- the thread that an id names
abbrev pub thread_in : Option Value → Option ℕ
thread_in v = option_and_then (λ id. id) (id_in v)

-- begins a thread; or fails with 11 by the word, and goes on past the step that stores
-- its id (POSIX pthread_create)
abbrev pub begins : Program → ℕ → ℕ → ℕ → Value → Option Change
begins program p w f v = if nat_eq w 0 then goes program p 1 (Some (Number kind.Int (pos 11))) effect.Nothing
    else succeeds program p (option_map effect.Begin (call_of program f (v ∷ [])))

-- the thread of an id is joined or detached (POSIX pthread_join, pthread_detach)
abbrev pub joins : Program → ℕ → Option Value → Option Change
joins program p v = succeeds program p (option_map effect.Join (thread_in v))

abbrev pub detaches : Program → ℕ → Option Value → Option Change
detaches program p v = succeeds program p (option_map effect.Detach (thread_in v))
