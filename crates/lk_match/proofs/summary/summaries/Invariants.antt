use Rattle.std.proofs.Common.{take}
use Rattle.lk_facts.specs.Labels.{is_global_at}
use Rattle.lk_sets.specs.Adding.{Adds, IsGiven}
use Rattle.lk_match.specs.Summaries.{GivesSummary}
use Rattle.lk_match.proofs.summary.summaries.Given as goal

abbrev pub invariant-loop-edge : goal.invariant-loop-edge
invariant-loop-edge l =
    Adds (IsGiven (λ e s. GivesSummary (is_global_at l.labels) l.levels l.leavings.items e.from e.to e.mark s) (take l.edge-index l.edges)) l.initial.found.items l.found.items
