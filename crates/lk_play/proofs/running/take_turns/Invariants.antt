use Rattle.std.proofs.Common.{◌≤◌, drop}
use Rattle.lk_birth.specs.Starts.{IsSmall}
use Rattle.lk_play.specs.Calls.{GoesOn}
use Rattle.lk_play.specs.Plays.{most_steps}
use Rattle.lk_play.proofs.running.take_turns.Given as goal

-- the play has come to this state, with the other turns ahead
abbrev pub invariant-loop-turn : goal.invariant-loop-turn
invariant-loop-turn l =
    record {
      small : IsSmall l.state;
      few : l.telling.taken ≤ most_steps;
      goes : GoesOn l.points l.initial.state l.initial.telling l.turns l.telling l.state (drop l.turn-index l.turns);
    }
