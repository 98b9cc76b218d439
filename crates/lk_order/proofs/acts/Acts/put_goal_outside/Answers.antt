use Rattle.std.proofs.Common.{◌≡◌, subst}
use Rattle.std.specs.Option.{IfSome}
use Rattle.std.proofs.lemmas.Result.{on_ok_weaker}
use Rattle.lk_order.specs.Acts.{basis_in, linear_in, functions_in, labels_in}
use Rattle.lk_order.specs.Asking.{IsAskedOutside, IsGoalBelow, IsOutsideGoal}
use Rattle.lk_order.proofs.SameLemmas.{outside_one}
use Rattle.lk_order.proofs.WorkLemmas.{finds_all, finds_as, finds_none}
use Rattle.lk_order.proofs.acts.Acts.put_goal_outside.Goals as goal

pub returns-in-Some-clause-adds : goal.returns-in-Some-clause-adds
returns-in-Some-clause-adds c =
    let self = c.args.self.now in
    let basis = basis_in self in
    let linear = linear_in self in
    let found = subst (IsAskedOutside basis linear c.args.goal c.args.link.now) c.in-Some.is c.in_ok-outside.ensures.value in
    on_ok_weaker c.put_goal.result
    (finds_as (λ other. c.in-Some.outside ≡ other) (IsOutsideGoal basis linear c.args.goal c.args.link.now.above c.args.link.now.way) c.args.goals.now.keys c.put_goal.new.goals.keys
    (outside_one basis linear c.args.goal c.in-Some.outside c.args.link.now.above c.args.link.now.way found))
    c.put_goal.ensures

pub returns-in-Some-clause-in_range : goal.returns-in-Some-clause-in_range
returns-in-Some-clause-in_range c =
    let self = c.args.self.now in
    let below = subst (λ found. IfSome found (IsGoalBelow (functions_in self) (labels_in self))) c.in-Some.is c.in_ok-outside.ensures.in_range in
    on_ok_weaker c.put_goal.result
    (λ finds. finds_all (λ other. c.in-Some.outside ≡ other) (IsGoalBelow (functions_in self) (labels_in self)) c.args.goals.now.keys c.put_goal.new.goals.keys finds c.requires.goals (λ other same. subst (IsGoalBelow (functions_in self) (labels_in self)) same below))
    c.put_goal.ensures

pub returns-in-None-clause-adds : goal.returns-in-None-clause-adds
returns-in-None-clause-adds c =
    let self = c.args.self.now in
    let basis = basis_in self in
    let linear = linear_in self in
    let found = subst (IsAskedOutside basis linear c.args.goal c.args.link.now) c.in-None.is c.in_ok-outside.ensures.value in
    finds_none (IsOutsideGoal basis linear c.args.goal c.args.link.now.above c.args.link.now.way) c.args.goals.now.keys found
