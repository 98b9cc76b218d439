use Rattle.std.proofs.Common.{take}
use Rattle.lk_facts.specs.Labels.{is_global_at}
use Rattle.lk_sets.specs.Adding.{Adds, IsGiven}
use Rattle.lk_match.specs.Levels.{IsPassedOn}
use Rattle.lk_match.proofs.level.arrows.Given as goal

abbrev pub invariant-loop-summary : goal.invariant-loop-summary
invariant-loop-summary l = Adds (IsGiven (IsPassedOn (is_global_at l.labels)) (take l.summary-index l.found)) l.initial.arrows.items l.arrows.items
