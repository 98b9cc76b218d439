use Rattle.lk_birth.specs.Starts.{IsSmall}
use Rattle.lk_witness.proofs.shortening.Asked.steps.Given as goal

abbrev pub invariant-loop-step : goal.invariant-loop-step
invariant-loop-step l = IsSmall l.running.state
