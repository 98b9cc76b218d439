use Rattle.lk_facts.specs.Labels.{is_global_at}
use Rattle.lk_sets.specs.Closing.{absent}
use Rattle.lk_sets.proofs.Closing.{Grown}
use Rattle.lk_match.specs.Levels.{AreSound}
use Rattle.lk_match.proofs.level.levels.Given as goal

abbrev pub invariant-loop-rows : goal.invariant-loop-rows
invariant-loop-rows l = Grown (AreSound l.edges (is_global_at l.labels)) l.initial.rows l.rows

abbrev pub decreases-loop-rows : goal.decreases-loop-rows
decreases-loop-rows l = absent l.rows
