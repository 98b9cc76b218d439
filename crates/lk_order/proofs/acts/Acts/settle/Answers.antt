use Rattle.std.proofs.Common.{All, Contains, sym, subst}
use Rattle.lk_held.specs.Progress.{Progress}
use Rattle.lk_order.specs.Acts.{basis_in, linear_in, functions_in, labels_in}
use Rattle.lk_order.specs.Asking.{IsGoalBelow, IsSettled, Learns, unknown}
use Rattle.lk_order.specs.declared.same.Goal.{Goal}
use Rattle.lk_order.proofs.SameLemmas.{learns_more, learns_nothing}
use Rattle.lk_order.proofs.WorkLemmas.{progress_each_all, progress_each_more, progress_each_none, read_is}
use Rattle.lk_order.proofs.acts.Acts.settle.Goals as goal

pub loop-goal-init : goal.loop-goal-init
loop-goal-init c =
    let self = c.args.self.now in
    let basis = basis_in self in
    let linear = linear_in self in
    progress_each_none unknown (Learns basis linear) (IsSettled basis linear) c.as_slice-goal-items.result.now c.args.known.now.keys (learns_nothing basis linear c.args.known.now.keys)

pub settle_one-requires-clause-goal : goal.settle_one-requires-clause-goal
settle_one-requires-clause-goal c =
    let self = c.args.self.now in
    subst (All (IsGoalBelow (functions_in self) (labels_in self))) (sym c.as_slice-goal-items.ensures.keys) c.requires.goals c.loop-goal.goal-index _ c.loop-goal-test.true

pub loop-goal-preserved : goal.loop-goal-preserved
loop-goal-preserved c =
    let self = c.args.self.now in
    let basis = basis_in self in
    let linear = linear_in self in
    let goals = c.as_slice-goal-items.result.now in
    progress_each_more unknown (Learns basis linear) (IsSettled basis linear) goals c.loop-goal.goal-index _ c.args.known.now.keys c.loop-goal.known.keys c.settle_one.new.known.keys
    c.loop-goal.changed c.in_ok-changed.field-0 c.loop-goal-test.true (read_is goals c.loop-goal.goal-index (record { function = 0; first = 0; second = 0 }) c.loop-goal-test.true) (learns_more basis linear _ _ _) c.loop-goal.invariant c.in_ok-changed.ensures

pub returns : goal.returns
returns c =
    let self = c.args.self.now in
    let basis = basis_in self in
    let linear = linear_in self in
    subst (λ goals. Progress unknown (Learns basis linear) (λ known. (g : Goal) → Contains goals g → IsSettled basis linear g known) c.args.known.now.keys c.loop-goal.known.keys c.loop-goal.changed) c.as_slice-goal-items.ensures.keys
    (progress_each_all unknown (Learns basis linear) (IsSettled basis linear) c.as_slice-goal-items.result.now c.loop-goal.goal-index c.args.known.now.keys c.loop-goal.known.keys c.loop-goal.changed c.loop-goal-test.false c.loop-goal.invariant)
