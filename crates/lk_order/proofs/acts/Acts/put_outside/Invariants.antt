use Rattle.std.proofs.Common.{All, take}
use Rattle.lk_links.specs.declared.link.Link.{Link}
use Rattle.lk_order.specs.Acts.{basis_in, linear_in, functions_in, labels_in}
use Rattle.lk_order.specs.Asking.{IsGoalBelow, IsOutsideGoal}
use Rattle.lk_order.specs.Work.{Finds}
use Rattle.lk_sets.specs.Adding.{IsGiven}
use Rattle.lk_order.proofs.acts.Acts.put_outside.Given as goal

-- what is asked outside the links so far is put
abbrev pub invariant-loop-link : goal.invariant-loop-link
invariant-loop-link l = record {
  finds : Finds (IsGiven (λ (link : Link). IsOutsideGoal (basis_in l.self) (linear_in l.self) l.goal link.above link.way) (take l.link-index l.link-items)) l.fn.goals.keys l.goals.keys;
  below : All (IsGoalBelow (functions_in l.self) (labels_in l.self)) l.goals.keys;
}
