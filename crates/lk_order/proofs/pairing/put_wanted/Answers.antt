use Rattle.lk_order.specs.Pairing.{IsPairWith}
use Rattle.lk_order.proofs.WorkLemmas.{finds_each_all, finds_each_more, finds_each_none}
use Rattle.lk_order.proofs.pairing.put_wanted.Goals as goal

pub loop-label-init : goal.loop-label-init
loop-label-init c = finds_each_none (IsPairWith c.args.function c.args.held) c.args.wanted.now c.args.pairs.now.keys

pub loop-label-preserved : goal.loop-label-preserved
loop-label-preserved c =
    finds_each_more (IsPairWith c.args.function c.args.held) c.args.wanted.now c.loop-label.label-index 0 c.args.pairs.now.keys c.loop-label.pairs.keys c.put_pair.new.pairs.keys
    c.loop-label-test.true c.loop-label.invariant c.in_ok-put_pair.ensures

pub returns : goal.returns
returns c =
    finds_each_all (IsPairWith c.args.function c.args.held) c.args.wanted.now c.loop-label.label-index c.args.pairs.now.keys c.loop-label.pairs.keys
    c.loop-label-test.false c.loop-label.invariant
