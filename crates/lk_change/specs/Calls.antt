-- How functions are called and left, and ways branch (C99 6.5.2.2, 6.8.4, 6.8.6.4).
use Rattle.std.specs.Prelude.{ℕ, ◌-◌, List, map, length, Option, None, Some, slice_get, option_and_then, unwrap_or, if◌then◌else◌, nat_eq, ℤ}
use Rattle.std.specs.List.{position_from}
use Rattle.std.specs.Option.{option_map, option_map_or}
use Rattle.std.specs.Ordering.{int_eq}
use Rattle.lk_facts.specs.Program.{entry_of}
use Rattle.lk_facts.specs.declared.program.Program.{Program}
use Rattle.lk_cells.specs.declared.state.Frame.{Frame}
use Rattle.lk_cells.specs.declared.state.Thread.{Thread}
use Rattle.lk_values.specs.declared.value.Value.{Value}
use Rattle.lk_cells.specs.Operands.{operand, all_given, number_in, function_in, condition_in}
use Rattle.lk_change.specs.declared.change.Call.{Call}
use Rattle.lk_change.specs.declared.change.Change.{Change}
use Rattle.lk_change.specs.declared.change.Change.TheVariants.{Enter, Leave, EndThread, EndProcess}
use Rattle.lk_change.specs.declared.change.Effect.TheVariants as effect
use Rattle.lk_change.specs.Going.{successor, goes}

-- the frame that called a thread's frame: the youngest of those below it
abbrev pub caller_of : Thread → Option Frame
caller_of thread = slice_get thread.below (length thread.below - 1)

-- a call of a function that is there, which begins at its entry
abbrev pub call_of : Program → ℕ → List Value → Option Call
call_of program f values =
    option_map (λ e. record { function = f; entry = e; args = values }) (entry_of program f)

-- enters a function with the values of operands (C99 6.5.2.2)
abbrev pub enters : Program → Thread → ℕ → List ℕ → Option Change
enters program thread f args =
    option_and_then (λ values. option_map Enter (call_of program f values))
    (all_given (map (operand thread) args))

-- returns to the frame below; from a thread's first frame ends the thread, from main's the
-- process (C99 5.1.2.2.3, 6.8.6.4)
abbrev pub ends_first : ℕ → Option Change
ends_first t = Some (if nat_eq t 0 then EndProcess else EndThread)

abbrev pub returns_to : Program → Option Value → Frame → Option Change
returns_to program v caller = option_map (Leave v) (successor program caller.point 0)

abbrev pub returns : Program → ℕ → Thread → Option Value → Option Change
returns program t thread v = option_map_or (returns_to program v) (caller_of thread) (ends_first t)

-- to the first successor where the condition holds, else to the second (C99 6.8.4.1)
abbrev pub branched : Program → ℕ → Option Value → Option Change
branched program p v =
    option_and_then (λ holds. goes program p (if holds then 0 else 1) None effect.Nothing) (condition_in v)

-- the place of a number among the values of cases, or how many there are
abbrev pub case_of : ℤ → List ℤ → ℕ
case_of n cases = unwrap_or (position_from (int_eq n) 0 cases) (length cases)

-- to the case whose value it is, else to the last successor (C99 6.8.4.2)
abbrev pub switched : Program → ℕ → Option Value → List ℤ → Option Change
switched program p v cases =
    option_and_then (λ n. goes program p (case_of n cases) None effect.Nothing) (number_in v)

-- enters the function that a value points to (C99 6.5.2.2)
abbrev pub enters_through : Program → Thread → ℕ → List ℕ → Option Change
enters_through program thread a args =
    option_and_then (λ f. enters program thread f args) (function_in (operand thread a))

abbrev pub returns_value : Program → ℕ → Thread → ℕ → Option Change
returns_value program t thread a = option_and_then (λ v. returns program t thread (Some v)) (operand thread a)

-- returns, with the value of an operand where there is one (C99 6.8.6.4)
abbrev pub returns_by : Program → ℕ → Thread → Option ℕ → Option Change
returns_by program t thread None = returns program t thread None
returns_by program t thread (Some a) = returns_value program t thread a
