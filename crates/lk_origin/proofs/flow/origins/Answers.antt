use Rattle.std.proofs.Common.{◌≡◌, ◌∙◌, All, length, subst, sym}
use Rattle.lk_facts.specs.Origins.{flow_of, IsCrossingInRange}
use Rattle.lk_facts.specs.PathTables.{IsFlowOf}
use Rattle.lk_match.specs.declared.passage.Side.TheVariants.{Into, OutOf}
use Rattle.lk_sets.specs.Spread.{IsWithin}
use Rattle.lk_origin.proofs.FlowLemmas.{lent_ways, ways_within, sound_start, flowed_lent, exact_flow}
use Rattle.lk_origin.proofs.flow.origins.Goals as goal

pub loop-all-init : goal.loop-all-init
loop-all-init c = record {
  inner_size = c.in_ok-inner.ensures.size;
  all_size = c.in_ok-all.ensures.size ∙ c.count-4.ensures.value;
  starts = c.in_ok-inner.ensures.origins;
  sound = sound_start c.args.edges.now c.args.labels.now c.in_ok-inner.inner c.in_ok-all.all c.in_ok-inner.ensures.alone c.in_ok-all.ensures.empty;
}

pub flow-requires-clause-rising : goal.flow-requires-clause-rising
flow-requires-clause-rising c =
    let ways = lent_ways c.args.edges.now c.args.labels.now c.args.levels.now c.requires.edges c.requires.levels c.size.ensures.square OutOf c.in_ok-found.found.items c.deref.result.now c.in_ok-rising.rising.items c.in_ok-found.ensures.each c.deref.ensures.value c.in_ok-rising.ensures in
    subst (All (IsWithin (length c.args.labels.now.entries))) (sym c.deref-in-loop-all.ensures.value) (ways_within c.args.edges.now c.args.labels.now c.args.levels.now c.requires.edges c.requires.levels c.size.ensures.square OutOf c.in_ok-rising.rising.items ways)

pub flow-requires-clause-falling : goal.flow-requires-clause-falling
flow-requires-clause-falling c =
    let ways = lent_ways c.args.edges.now c.args.labels.now c.args.levels.now c.requires.edges c.requires.levels c.size.ensures.square Into c.in_ok-found.found.items c.deref-2.result.now c.in_ok-falling.falling.items c.in_ok-found.ensures.each c.deref-2.ensures.value c.in_ok-falling.ensures in
    subst (All (IsWithin (length c.args.labels.now.entries))) (sym c.deref-in-loop-all-2.ensures.value) (ways_within c.args.edges.now c.args.labels.now c.args.levels.now c.requires.edges c.requires.levels c.size.ensures.square Into c.in_ok-falling.falling.items ways)

pub loop-all-smaller : goal.loop-all-smaller
loop-all-smaller c = let flowed = c.in_ok-flow.ensures.flowed c.args.edges.now in flowed.grows.falls (flowed.new c.if-branch.true)

pub loop-all-preserved : goal.loop-all-preserved
loop-all-preserved c =
    let ways = lent_ways c.args.edges.now c.args.labels.now c.args.levels.now c.requires.edges c.requires.levels c.size.ensures.square OutOf c.in_ok-found.found.items c.deref.result.now c.in_ok-rising.rising.items c.in_ok-found.ensures.each c.deref.ensures.value c.in_ok-rising.ensures in
    let ways' = lent_ways c.args.edges.now c.args.labels.now c.args.levels.now c.requires.edges c.requires.levels c.size.ensures.square Into c.in_ok-found.found.items c.deref-2.result.now c.in_ok-falling.falling.items c.in_ok-found.ensures.each c.deref-2.ensures.value c.in_ok-falling.ensures in
    let flowed = flowed_lent c.args.edges.now c.args.labels.now c.deref-in-loop-all.result.now c.deref-in-loop-all-2.result.now c.in_ok-rising.rising.items c.in_ok-falling.falling.items c.loop-all.inner c.loop-all.all c.flow.new.inner c.flow.new.all c.in_ok-flow.field-0 c.deref-in-loop-all.ensures.value c.deref-in-loop-all-2.ensures.value (c.in_ok-flow.ensures.flowed c.args.edges.now) in
    record {
      inner_size = flowed.grows.size ∙ c.loop-all.invariant.inner_size;
      all_size = c.in_ok-flow.ensures.size ∙ c.loop-all.invariant.all_size;
      starts = λ o h. flowed.grows.kept o o (c.loop-all.invariant.starts o h);
      sound = flowed.sound ways ways' c.loop-all.invariant.sound;
    }

pub new-requires-2 : goal.new-requires-2
new-requires-2 c =
    let flowed = c.in_ok-flow.ensures.flowed c.args.edges.now in
    let all_size : c.flow.new.all.size ≡ length c.args.labels.now.entries = c.in_ok-flow.ensures.size ∙ c.loop-all.invariant.all_size in
    record {
      same_size = flowed.grows.size ∙ (c.loop-all.invariant.inner_size ∙ sym all_size);
      crossings = subst (λ n. All (IsCrossingInRange n) c.in_ok-crossings.crossings.items) (c.requires.levels.size ∙ sym all_size) c.in_ok-crossings.ensures.within;
    }

pub returns-clause-flow : goal.returns-clause-flow
returns-clause-flow c =
    let ways = lent_ways c.args.edges.now c.args.labels.now c.args.levels.now c.requires.edges c.requires.levels c.size.ensures.square OutOf c.in_ok-found.found.items c.deref.result.now c.in_ok-rising.rising.items c.in_ok-found.ensures.each c.deref.ensures.value c.in_ok-rising.ensures in
    let ways' = lent_ways c.args.edges.now c.args.labels.now c.args.levels.now c.requires.edges c.requires.levels c.size.ensures.square Into c.in_ok-found.found.items c.deref-2.result.now c.in_ok-falling.falling.items c.in_ok-found.ensures.each c.deref-2.ensures.value c.in_ok-falling.ensures in
    let flowed = flowed_lent c.args.edges.now c.args.labels.now c.deref-in-loop-all.result.now c.deref-in-loop-all-2.result.now c.in_ok-rising.rising.items c.in_ok-falling.falling.items c.loop-all.inner c.loop-all.all c.flow.new.inner c.flow.new.all c.in_ok-flow.field-0 c.deref-in-loop-all.ensures.value c.deref-in-loop-all-2.ensures.value (c.in_ok-flow.ensures.flowed c.args.edges.now) in
    subst (λ table. IsFlowOf c.args.edges.now c.args.labels.now (flow_of table)) (sym c.new-2.ensures)
    (exact_flow c.args.edges.now c.args.labels.now c.args.levels.now c.requires.edges c.requires.levels c.in_ok-rising.rising.items c.in_ok-falling.falling.items c.flow.new.inner c.flow.new.all c.in_ok-crossings.crossings.items ways ways'
    (λ o h. flowed.grows.kept o o (c.loop-all.invariant.starts o h)) (flowed.sound ways ways' c.loop-all.invariant.sound) (flowed.done c.if-branch.false) c.in_ok-crossings.ensures.each)
