-- Where a thread goes from a point, with what the point gives and what it changes.
use Rattle.std.specs.Prelude.{ℕ, Option, None, Some, slice_get, option_and_then, pos}
use Rattle.std.specs.Option.{option_map}
use Rattle.lk_base.specs.declared.kind.Kind.TheVariants as kind
use Rattle.lk_facts.specs.Program.{next_of}
use Rattle.lk_facts.specs.declared.program.Program.{Program}
use Rattle.lk_values.specs.declared.cell.Pointer.{Pointer as PointerTo}
use Rattle.lk_values.specs.declared.value.Value.{Value}
use Rattle.lk_values.specs.declared.value.Value.TheVariants.{Number}
use Rattle.lk_change.specs.declared.change.Change.{Change}
use Rattle.lk_change.specs.declared.change.Change.TheVariants.{Goes}
use Rattle.lk_change.specs.declared.change.Effect.{Effect}
use Rattle.lk_change.specs.declared.change.Effect.TheVariants as effect
use Rattle.lk_change.specs.declared.change.Turn.TheVariants as turn

-- the value 0 of a library function, as an int
abbrev pub done : Value
done = Number kind.Int (pos 0)

-- Where a thread goes from the point p.
module _ (program : Program) (p : ℕ) where
  -- the successor of this number
  abbrev pub successor : ℕ → Option ℕ
  successor k = slice_get (next_of program p) k

  -- goes on to the successor of this number, where the point gives this and changes this
  abbrev pub goes : ℕ → Option Value → Effect → Option Change
  goes k given changed =
      option_map (λ q. Goes (record { gives = given; turn = turn.To q; effect = changed })) (successor k)

  -- gives a value and goes on, where there is one
  abbrev pub gives : Option Value → Option Change
  gives v = option_and_then (λ value. goes 0 (Some value) effect.Nothing) v

  -- changes something and goes on, where there is something to change; without a value, or with the value 0
  abbrev pub changes : Option Effect → Option Change
  changes changed = option_and_then (goes 0 None) changed

  abbrev pub succeeds : Option Effect → Option Change
  succeeds changed = option_and_then (goes 0 (Some done)) changed

-- changes something, and comes next to a cell
abbrev pub stays_on : PointerTo → Effect → Option Change
stays_on next changed = Some (Goes (record { gives = None; turn = turn.OnAt next; effect = changed }))
