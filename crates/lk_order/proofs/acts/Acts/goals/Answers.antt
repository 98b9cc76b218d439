use Rattle.std.proofs.Common.{◌≡◌, ◌≤◌, ◌∙◌, Some, length, inr, refl, sym, subst, arith}
use Rattle.std.specs.List.{slice_get}
use Rattle.std.proofs.lemmas.List.Elements.{All-contains}
use Rattle.std.proofs.lemmas.Option.{slice_get_within}
use Rattle.lk_links.proofs.ListLemmas.{contained}
use Rattle.lk_order.specs.Acts.{basis_in, linear_in, functions_in, labels_in}
use Rattle.lk_order.specs.Asking.{IsAskedByOne, IsGoalBelow}
use Rattle.lk_order.specs.declared.same.Goal.{Goal}
use Rattle.lk_order.proofs.SameLemmas.{asked_is}
use Rattle.lk_order.proofs.WorkLemmas.{finds_all, past_none, work_done, work_more, work_none}
use Rattle.lk_rise.specs.Links.{links_into}
use Rattle.lk_order.proofs.acts.Acts.goals.Goals as goal

pub loop-k-init : goal.loop-k-init
loop-k-init c =
    let self = c.args.self.now in
    record {
      work = work_none (λ (first : Goal). c.args.goal ≡ first) (λ (one : Goal). IsAskedByOne (basis_in self) (linear_in self) (links_into self.into.now one.function) one) c.put_goal.new.goals.keys
          (λ first same. (c.in_ok-put_goal.ensures.adds.members first).1 (inr same));
      below = finds_all (λ other. c.args.goal ≡ other) (IsGoalBelow (functions_in self) (labels_in self)) c.new-goals.result.keys c.put_goal.new.goals.keys c.in_ok-put_goal.ensures
          (λ k d less. absurd (omega (arith, c.new-goals.ensures.len, less))) (λ other same. subst (IsGoalBelow (functions_in self) (labels_in self)) same c.requires.goal);
      within = omega arith;
    }

pub put_outside-requires-clause-goal : goal.put_outside-requires-clause-goal
put_outside-requires-clause-goal c =
    let self = c.args.self.now in
    let at : slice_get c.loop-k.goals.keys c.loop-k.k ≡ Some c.in-Some.next = sym c.get_index.ensures.key ∙ sym c.in-Some.ensures in
    All-contains (IsGoalBelow (functions_in self) (labels_in self)) c.loop-k.goals.keys c.in-Some.next c.loop-k.invariant.below (contained c.loop-k.goals.keys c.loop-k.k c.in-Some.next at)

pub loop-k-preserved : goal.loop-k-preserved
loop-k-preserved c =
    let self = c.args.self.now in
    let at : slice_get c.loop-k.goals.keys c.loop-k.k ≡ Some c.in-Some.next = sym c.get_index.ensures.key ∙ sym c.in-Some.ensures in
    let adds = c.in_ok-put_outside.ensures.adds in
    record {
      work = work_more (λ (first : Goal). c.args.goal ≡ first) (λ (one : Goal). IsAskedByOne (basis_in self) (linear_in self) (links_into self.into.now one.function) one)
          c.loop-k.goals.keys c.put_outside.new.goals.keys c.loop-k.k c.in-Some.next at adds c.loop-k.invariant.work;
      below = c.in_ok-put_outside.ensures.in_range;
      within = omega (arith, slice_get_within c.put_outside.new.goals.keys c.loop-k.k c.in-Some.next (adds.places c.loop-k.k c.in-Some.next at));
    }

pub returns-in_default-clause-there : goal.returns-in_default-clause-there
returns-in_default-clause-there c = c.loop-k.invariant.work.seeds c.args.goal refl

pub returns-in_default-clause-asked : goal.returns-in_default-clause-asked
returns-in_default-clause-asked c =
    let self = c.args.self.now in
    let past : length c.loop-k.goals.keys ≤ c.loop-k.k = past_none c.loop-k.goals.keys c.loop-k.k (sym c.get_index.ensures.key ∙ sym c.copied.ensures ∙ c.in_default.is) in
    λ goal outer p h i there enters outside.
    work_done (λ (first : Goal). c.args.goal ≡ first) (λ (one : Goal). IsAskedByOne (basis_in self) (linear_in self) (links_into self.into.now one.function) one) c.loop-k.goals.keys c.loop-k.k past c.loop-k.invariant.work
    goal outer there (asked_is (basis_in self) (linear_in self) self.into.now c.requires.into goal outer p h i enters outside)

pub returns-in_default-clause-in_range : goal.returns-in_default-clause-in_range
returns-in_default-clause-in_range c = c.loop-k.invariant.below
