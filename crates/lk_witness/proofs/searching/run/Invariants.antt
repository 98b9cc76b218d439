use Rattle.lk_birth.specs.Starts.{IsSmall}
use Rattle.lk_witness.proofs.searching.run.Given as goal

abbrev pub invariant-loop-turn : goal.invariant-loop-turn
invariant-loop-turn l = IsSmall l.running.state
