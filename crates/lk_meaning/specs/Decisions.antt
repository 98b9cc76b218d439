-- What a thread does next.
use Rattle.std.specs.Prelude.{ℕ, Bool, true, false, Option, None, Some}
use Rattle.std.specs.Option.{option_map_or}
use Rattle.lk_facts.specs.Program.{action_at}
use Rattle.lk_facts.specs.declared.action.Action.{Action}
use Rattle.lk_facts.specs.declared.program.Program.{Program}
use Rattle.lk_cells.specs.declared.state.State.{State}
use Rattle.lk_cells.specs.declared.state.Thread.{Thread}
use Rattle.lk_change.specs.Changes.{change}
use Rattle.lk_decide.specs.Undefined.{cause}
use Rattle.lk_decide.specs.Waiting.{waits}
use Rattle.lk_change.specs.declared.change.Change.{Change}
use Rattle.lk_values.specs.declared.why.Why.{Why}
use Rattle.lk_values.specs.declared.why.Why.TheVariants.{WrongType}
use Rattle.lk_meaning.specs.declared.deciding.Decision.{Decision}
use Rattle.lk_meaning.specs.declared.deciding.Decision.TheVariants.{Moves, Waits, Undefined}

-- a change is performed; where no row of the table takes the action's operands, the
-- step is undefined by WrongType
abbrev pub moves_or_not : Option Change → Decision
moves_or_not None = Undefined WrongType
moves_or_not (Some change) = Moves change

-- first come the causes, then waiting
abbrev pub unless : Option Why → Bool → Decision → Decision
unless (Some reason) busy decision = Undefined reason
unless None true decision = Waits
unless None false decision = decision

-- The thread t of the state s does this next, with the word w.
module _ (program : Program) (s : State) (t : ℕ) (thread : Thread) (w : ℕ) where
  abbrev pub decision_of : Action → Decision
  decision_of action =
      unless (cause program s t thread action) (waits program s thread action)
      (moves_or_not (change program s t thread w action))

  abbrev pub decision : Decision
  decision = option_map_or decision_of (action_at program thread.frame.point) (Undefined WrongType)
