use Rattle.lk_sets.specs.Spread.Spread.{stands}
use Rattle.lk_sets.proofs.Closing.{grown_none, grown_more}
use Rattle.lk_sets.proofs.Reaching.{spread_there}
use Rattle.lk_sets.proofs.bit_rows.BitRows.spread.Goals as goal

pub loop-init : goal.loop-init
loop-init c = grown_none _ c.args.self.now

pub loop-preserved : goal.loop-preserved
loop-preserved c = grown_more c.loop.invariant (c.pass_on.ensures c.args.self.now)

pub loop-smaller : goal.loop-smaller
loop-smaller c = (c.pass_on.ensures c.args.self.now).grows.falls c.loop-test.true

pub returns-clause-size : goal.returns-clause-size
returns-clause-size c = (grown_more c.loop.invariant (c.pass_on.ensures c.args.self.now)).size

pub returns-clause-pairs : goal.returns-clause-pairs
returns-clause-pairs c =
    let round = c.pass_on.ensures c.args.self.now in
    let grown = grown_more c.loop.invariant round in
    λ a b. (grown.sound (λ x y h. stands h) a b, λ s. spread_there s c.pass_on.new.self grown.kept (round.done c.loop-test.false))
