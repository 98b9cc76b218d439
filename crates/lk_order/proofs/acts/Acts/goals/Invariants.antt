use Rattle.std.proofs.Common.{◌≡◌, ◌≤◌, All, length}
use Rattle.lk_order.specs.Acts.{basis_in, linear_in, functions_in, labels_in}
use Rattle.lk_order.specs.Asking.{IsAskedByOne, IsGoalBelow}
use Rattle.lk_order.specs.Work.{IsWork}
use Rattle.lk_order.specs.declared.same.Goal.{Goal}
use Rattle.lk_rise.specs.Links.{links_into}
use Rattle.lk_order.proofs.acts.Acts.goals.Given as goal

-- what is asked outside the first k goals is among them
abbrev pub invariant-loop-k : goal.invariant-loop-k
invariant-loop-k l = record {
  work : IsWork (λ (first : Goal). l.fn.goal ≡ first) (λ (one : Goal). IsAskedByOne (basis_in l.self) (linear_in l.self) (links_into l.self.into.now one.function) one) l.goals.keys l.k;
  below : All (IsGoalBelow (functions_in l.self) (labels_in l.self)) l.goals.keys;
  within : l.k ≤ length l.goals.keys;
}
