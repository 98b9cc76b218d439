use Rattle.std.proofs.Common.{◌≡◌, ◌<◌, ◌∙◌, [], Contains, length, sym, subst, arith}
use Rattle.std.proofs.lemmas.List.{get_or_read}
use Rattle.lk_links.specs.declared.link.Link.{Link}
use Rattle.lk_order.specs.Acts.{basis_in, linear_in}
use Rattle.lk_order.specs.Asking.{IsAskedByOne, IsOutsideGoal}
use Rattle.lk_order.specs.Work.{Finds}
use Rattle.lk_order.proofs.WorkLemmas.{finds_each_all, finds_each_none, finds_each_read}
use Rattle.lk_rise.specs.Links.{links_into}
use Rattle.lk_order.proofs.acts.Acts.put_outside.Goals as goal

pub loop-link-init : goal.loop-link-init
loop-link-init c =
    let self = c.args.self.now in
    record {
      finds = finds_each_none (λ (link : Link). IsOutsideGoal (basis_in self) (linear_in self) c.args.goal link.above link.way) c.list-link-items.result.now c.args.goals.now.keys;
      below = c.requires.goals;
    }

pub put_goal_outside-requires-clause-above : goal.put_goal_outside-requires-clause-above
put_goal_outside-requires-clause-above c =
    let self = c.args.self.now in
    let within : c.args.goal.function < length self.into.now = omega (arith, c.requires.goal.function, c.requires.functions) in
    let links : c.list-link-items.result.now ≡ links_into self.into.now c.args.goal.function =
    c.list-link-items.ensures ∙ sym c.index-self-goal.is ∙ get_or_read self.into.now c.args.goal.function c.index-self-goal.result within c.index-self-goal.is [] in
    let there : Contains (links_into self.into.now c.args.goal.function) c.link-item.result =
    subst (λ ls. Contains ls c.link-item.result) links (c.loop-link.link-index, c.loop-link-test.true, sym c.link-item.is) in
    (c.requires.into.each c.args.goal.function c.link-item.result there).is.above

pub loop-link-preserved : goal.loop-link-preserved
loop-link-preserved c =
    let self = c.args.self.now in
    record {
      finds = finds_each_read (λ (link : Link). IsOutsideGoal (basis_in self) (linear_in self) c.args.goal link.above link.way) c.list-link-items.result.now c.loop-link.link-index c.link-item.result
          c.args.goals.now.keys c.loop-link.goals.keys c.put_goal_outside.new.goals.keys c.loop-link-test.true c.link-item.is c.loop-link.invariant.finds c.in_ok-put_goal_outside.ensures.adds;
      below = c.in_ok-put_goal_outside.ensures.in_range;
    }

pub returns-clause-adds : goal.returns-clause-adds
returns-clause-adds c =
    let self = c.args.self.now in
    let within : c.args.goal.function < length self.into.now = omega (arith, c.requires.goal.function, c.requires.functions) in
    let links : c.list-link-items.result.now ≡ links_into self.into.now c.args.goal.function =
    c.list-link-items.ensures ∙ sym c.index-self-goal.is ∙ get_or_read self.into.now c.args.goal.function c.index-self-goal.result within c.index-self-goal.is [] in
    subst (λ ls. Finds (IsAskedByOne (basis_in self) (linear_in self) ls c.args.goal) c.args.goals.now.keys c.loop-link.goals.keys) links
    (finds_each_all (λ (link : Link). IsOutsideGoal (basis_in self) (linear_in self) c.args.goal link.above link.way) c.list-link-items.result.now c.loop-link.link-index
    c.args.goals.now.keys c.loop-link.goals.keys c.loop-link-test.false c.loop-link.invariant.finds)
