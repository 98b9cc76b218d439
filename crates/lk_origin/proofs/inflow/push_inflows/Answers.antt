use Rattle.std.proofs.Common.{◌≡◌}
use Rattle.lk_sets.specs.Rows.{row_of}
use Rattle.lk_origin.proofs.InflowLemmas.{listing_none, listing_more, listing_all}
use Rattle.lk_origin.proofs.inflow.push_inflows.Goals as goal

pub loop-label-init : goal.loop-label-init
loop-label-init c =
    let is : c.into_iter-label-iterator.result ≡ row_of c.args.levels.now c.args.entrance.now.to = (cc) in
    listing_none c.args.levels.now c.args.entrance.now c.args.all.now.items _ is

pub loop-label-preserved : goal.loop-label-preserved
loop-label-preserved c = listing_more c.in-Some.ensures.steps c.loop-label.invariant c.in_ok-push_inflow.ensures

pub returns : goal.returns
returns c = listing_all c.in-None.ensures.steps.0 c.loop-label.invariant
