use Rattle.std.proofs.Common.{◌≡◌, take}
use Rattle.lk_sets.specs.Adding.{IsGiven}
use Rattle.lk_graph.specs.Found.{Finds}
use Rattle.lk_graph.proofs.loops.put_each.Given as goal

abbrev pub invariant-loop-id : goal.invariant-loop-id
invariant-loop-id l = Finds (IsGiven (λ e x. e ≡ x) (take l.id-index l.ids)) l.fn.found l.found
