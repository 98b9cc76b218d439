use Rattle.std.proofs.Common.{take}
use Rattle.lk_facts.specs.Labels.{is_global_at}
use Rattle.lk_sets.specs.Adding.{Adds, IsGiven}
use Rattle.lk_match.specs.Summaries.{Ends}
use Rattle.lk_match.proofs.summary.push_matched.Given as goal

abbrev pub invariant-loop-leaving : goal.invariant-loop-leaving
invariant-loop-leaving l = Adds (IsGiven (Ends (is_global_at l.labels) l.levels l.from l.fn.inside) (take l.leaving-index l.leavings)) l.initial.found.items l.found.items
