use Rattle.std.proofs.Common.{◌≡◌, ◌<◌, ℕ, false, List, [], get_or, length, arith, subst, sym}
use Rattle.std.proofs.lemmas.Option.{slice_get-get_or}
use Rattle.lk_links.proofs.ListLemmas.{contained}
use Rattle.lk_rise.specs.Tables.{setting, Steps}
use Rattle.lk_rise.specs.declared.correlations.Correlation.{Correlation}
use Rattle.lk_rise.proofs.PassLemmas.{PassedAt, AreSettledOf, round_none, round_more, round_settled, round_all, settled_of_all}
use Rattle.lk_rise.proofs.rising.Rising.pass_again.Goals as goal

-- what a list has past its end
abbrev none : Correlation
none = record { function = 0; child = false; subject = 0; access = 0 }

pub loop-item-init : goal.loop-item-init
loop-item-init c =
    let s = setting c.args.self.now in
    record {
      steps = subst (λ (again : List Correlation). Steps s (λ e. (i : ℕ) → i < 0 → PassedAt s c.args.into.now c.args.items.now i e) c.args.table.now c.args.table.now [] again) (sym c.new-again.ensures.items)
          (round_none s c.args.into.now c.args.items.now c.args.table.now);
      settled = λ i below. absurd (omega arith);
    }

pub pass_item-requires-clause-there : goal.pass_item-requires-clause-there
pass_item-requires-clause-there c =
    let item = get_or c.args.items.now c.loop-item.item-index none in
    c.loop-item.invariant.steps.grows.kept item (c.requires.there item (contained c.args.items.now c.loop-item.item-index item (slice_get-get_or c.args.items.now c.loop-item.item-index none c.loop-item-test.true)))

pub pass_item-requires-clause-sound : goal.pass_item-requires-clause-sound
pass_item-requires-clause-sound c = c.loop-item.invariant.steps.grows.sound c.requires.sound

pub loop-item-preserved : goal.loop-item-preserved
loop-item-preserved c =
    let s = setting c.args.self.now in
    let item = get_or c.args.items.now c.loop-item.item-index none in
    let at = slice_get-get_or c.args.items.now c.loop-item.item-index none c.loop-item-test.true in
    record {
      steps = round_more s c.args.into.now c.args.items.now c.loop-item.item-index c.args.table.now c.loop-item.table c.pass_item.new.table [] c.loop-item.again.items c.pass_item.new.again.items item at
          c.loop-item.invariant.steps c.in_ok-pass_item.ensures.steps;
      settled = round_settled s c.args.into.now c.args.items.now c.loop-item.item-index c.args.table.now c.loop-item.table c.pass_item.new.table [] c.loop-item.again.items c.pass_item.new.again.items item at
          c.requires.there c.loop-item.invariant.steps c.in_ok-pass_item.ensures.steps c.loop-item.invariant.settled c.in_ok-pass_item.ensures.settled;
    }

pub returns-clause-steps : goal.returns-clause-steps
returns-clause-steps c =
    let s = setting c.args.self.now in
    let end : c.loop-item.item-index ≡ length c.args.items.now = omega (arith, c.loop-item.auto.item-index-end, c.loop-item-test.false) in
    round_all s c.args.into.now c.args.items.now c.args.table.now c.loop-item.table [] c.loop-item.again.items
    (subst (λ n. Steps s (λ e. (i : ℕ) → i < n → PassedAt s c.args.into.now c.args.items.now i e) c.args.table.now c.loop-item.table [] c.loop-item.again.items) end c.loop-item.invariant.steps)

pub returns-clause-settled : goal.returns-clause-settled
returns-clause-settled c =
    let s = setting c.args.self.now in
    let end : c.loop-item.item-index ≡ length c.args.items.now = omega (arith, c.loop-item.auto.item-index-end, c.loop-item-test.false) in
    settled_of_all s c.args.into.now c.args.items.now c.loop-item.again.items c.loop-item.table
    (subst (λ n. AreSettledOf s c.args.into.now c.args.items.now n c.loop-item.again.items c.loop-item.table) end c.loop-item.invariant.settled)
