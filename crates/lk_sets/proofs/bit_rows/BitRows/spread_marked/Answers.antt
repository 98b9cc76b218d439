use Rattle.std.proofs.Common.{◌∙◌, sym}
use Rattle.lk_sets.specs.Spread.Spread.{stands}
use Rattle.lk_sets.proofs.Closing.{round_found, round_none}
use Rattle.lk_sets.proofs.Reaching.{spread_there}
use Rattle.lk_sets.proofs.bit_rows.BitRows.spread_marked.Goals as goal

pub loop-marks-smaller : goal.loop-marks-smaller
loop-marks-smaller c = (c.in_ok-pass_all_marked.ensures.going c.args.self.now).grows.falls c.if-branch.true

pub loop-marks-preserved : goal.loop-marks-preserved
loop-marks-preserved c =
    let round = c.in_ok-pass_all_marked.ensures.going c.args.self.now in
    record {
      going = round_found c.if-branch.true c.loop-marks.invariant.going round;
      long = c.in_ok-pass_all_marked.ensures.long ∙ sym round.grows.size;
      waits = c.in_ok-pass_all_marked.ensures.waits;
    }

pub returns-clause-grows : goal.returns-clause-grows
returns-clause-grows c = (round_none c.if-branch.false c.loop-marks.invariant.going (c.in_ok-pass_all_marked.ensures.going c.args.self.now)).grows

pub returns-clause-pairs : goal.returns-clause-pairs
returns-clause-pairs c =
    let round = c.in_ok-pass_all_marked.ensures.going c.args.self.now in
    let going = round_none c.if-branch.false c.loop-marks.invariant.going round in
    λ a b. (going.sound (λ x y h. stands h) a b, λ s. spread_there s c.pass_all_marked.new.self going.grows.kept (round.done c.if-branch.false))
