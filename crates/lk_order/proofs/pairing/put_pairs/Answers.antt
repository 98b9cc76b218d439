use Rattle.std.proofs.Common.{ℕ}
use Rattle.lk_order.specs.Pairing.{IsPairOf, IsPairWith}
use Rattle.lk_order.proofs.PairingLemmas.{pairs_of_lists}
use Rattle.lk_order.proofs.WorkLemmas.{finds_as, finds_each_all, finds_each_more, finds_each_none}
use Rattle.lk_sets.specs.Adding.{IsGiven}
use Rattle.lk_order.proofs.pairing.put_pairs.Goals as goal

pub loop-label-init : goal.loop-label-init
loop-label-init c = finds_each_none (λ x. IsGiven (IsPairWith c.args.function x) c.args.wanted.now) c.args.held.now c.args.pairs.now.keys

pub loop-label-preserved : goal.loop-label-preserved
loop-label-preserved c =
    finds_each_more (λ x. IsGiven (IsPairWith c.args.function x) c.args.wanted.now) c.args.held.now c.loop-label.label-index 0 c.args.pairs.now.keys c.loop-label.pairs.keys c.put_wanted.new.pairs.keys
    c.loop-label-test.true c.loop-label.invariant c.in_ok-put_wanted.ensures

pub returns : goal.returns
returns c =
    let gives = λ (x : ℕ). IsGiven (IsPairWith c.args.function x) c.args.wanted.now in
    finds_as (IsGiven gives c.args.held.now) (IsPairOf c.args.function c.args.held.now c.args.wanted.now) c.args.pairs.now.keys c.loop-label.pairs.keys
    (pairs_of_lists c.args.function c.args.held.now c.args.wanted.now)
    (finds_each_all gives c.args.held.now c.loop-label.label-index c.args.pairs.now.keys c.loop-label.pairs.keys c.loop-label-test.false c.loop-label.invariant)
