use Rattle.std.proofs.Common.{◌≤◌, List, Contains, length, arith, subst}
use Rattle.lk_rise.specs.Tables.{setting}
use Rattle.lk_rise.specs.declared.correlations.Correlation.{Correlation}
use Rattle.lk_rise.proofs.ListLemmas.{none_there}
use Rattle.lk_rise.proofs.PassLemmas.{settled_more, settled_all}
use Rattle.lk_rise.proofs.TableLemmas.{at_has_item}
use Rattle.lk_rise.proofs.WorkLemmas.{grows_more, grows_not}
use Rattle.lk_rise.proofs.rising.Rising.pass_all.Goals as goal

pub loop-k-init : goal.loop-k-init
loop-k-init c = record {
  grows = grows_not (setting c.args.self.now) c.args.table.now;
  there = λ item among. absurd (none_there item (subst (λ (again : List Correlation). Contains again item) c.new-again.ensures.items among));
  settled = λ i below. absurd (omega arith);
  small = omega arith;
}

pub pass_item-requires-clause-there : goal.pass_item-requires-clause-there
pass_item-requires-clause-there c = at_has_item c.loop-k.table c.loop-k.k c.item-item.result c.count.ensures.different c.item-item.ensures

pub pass_item-requires-clause-sound : goal.pass_item-requires-clause-sound
pass_item-requires-clause-sound c = c.loop-k.invariant.grows.sound c.requires.sound

pub loop-k-preserved : goal.loop-k-preserved
loop-k-preserved c =
    let s = setting c.args.self.now in
    let steps = c.in_ok-pass_item.ensures.steps in
    record {
      grows = grows_more s c.args.table.now c.loop-k.table c.pass_item.new.table c.loop-k.invariant.grows steps.grows;
      there = steps.there c.loop-k.invariant.there;
      settled = settled_more s c.args.into.now c.loop-k.k c.loop-k.table c.pass_item.new.table c.loop-k.again.items c.pass_item.new.again.items c.item-item.result
          c.count.ensures.different c.item-item.ensures c.loop-k.invariant.settled steps c.in_ok-pass_item.ensures.settled;
      small = omega (arith, c.if-k-count.false, c.count.ensures.small);
    }

pub returns-then-k-count-clause-passed : goal.returns-then-k-count-clause-passed
returns-then-k-count-clause-passed c item there =
    let past : length c.loop-k.table ≤ c.loop-k.k = omega (arith, c.if-k-count.true, c.count.ensures.value) in
    (settled_all (setting c.args.self.now) c.args.into.now c.loop-k.k c.loop-k.again.items c.loop-k.table past c.loop-k.invariant.settled item there).0

pub returns-then-k-count-clause-settled : goal.returns-then-k-count-clause-settled
returns-then-k-count-clause-settled c item there =
    let past : length c.loop-k.table ≤ c.loop-k.k = omega (arith, c.if-k-count.true, c.count.ensures.value) in
    (settled_all (setting c.args.self.now) c.args.into.now c.loop-k.k c.loop-k.again.items c.loop-k.table past c.loop-k.invariant.settled item there).1
