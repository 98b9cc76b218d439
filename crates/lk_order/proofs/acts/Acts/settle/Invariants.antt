use Rattle.std.proofs.Common.{Contains, take}
use Rattle.lk_held.specs.Progress.{Progress}
use Rattle.lk_order.specs.Acts.{basis_in, linear_in}
use Rattle.lk_order.specs.Asking.{IsSettled, Learns, unknown}
use Rattle.lk_order.specs.declared.same.Goal.{Goal}
use Rattle.lk_order.proofs.acts.Acts.settle.Given as goal

-- the goals so far are settled
abbrev pub invariant-loop-goal : goal.invariant-loop-goal
invariant-loop-goal l =
    let basis = basis_in l.self in
    let linear = linear_in l.self in
    Progress unknown (Learns basis linear) (λ known. (g : Goal) → Contains (take l.goal-index l.goal-items) g → IsSettled basis linear g known) l.fn.known.keys l.known.keys l.changed
