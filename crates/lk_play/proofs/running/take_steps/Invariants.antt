use Rattle.std.proofs.Common.{◌≤◌, ◌-◌, ◌∷◌, List}
use Rattle.lk_birth.specs.Starts.{IsSmall}
use Rattle.lk_play.specs.Calls.{GoesOn}
use Rattle.lk_play.specs.Plays.{most_steps, until}
use Rattle.lk_play.specs.declared.schedules.Turn.{Turn}
use Rattle.lk_play.proofs.running.take_steps.Given as goal

-- the play has come to this state, with the same turn ahead
abbrev pub invariant-loop-state : goal.invariant-loop-state
invariant-loop-state l =
    record {
      small : IsSmall l.state;
      few : l.telling.taken ≤ most_steps;
      goes : (rest : List Turn) →
          GoesOn l.points l.initial.state l.initial.telling (until l.thread l.word ∷ rest) l.telling l.state
          (until l.thread l.word ∷ rest);
    }

abbrev pub decreases-loop-state : goal.decreases-loop-state
decreases-loop-state l = most_steps - l.telling.taken
