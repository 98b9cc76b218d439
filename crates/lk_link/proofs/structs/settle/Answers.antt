use Rattle.std.proofs.Common.{◌≡◌, true, false, arith}
use Rattle.lk_link.proofs.Keeping.{keeping_first, keeping_more, settled_no, settled_yes}
use Rattle.lk_link.proofs.structs.settle.Goals as goal

pub loop-place-init : goal.loop-place-init
loop-place-init c = keeping_first c.args.units.now c.args.pairs.now c.requires.known

pub loop-place-preserved : goal.loop-place-preserved
loop-place-preserved c =
    let is : c.in_ok-compare_pair.field-0 ≡ true = cc in
    keeping_more c.args.units.now c.args.pairs.now c.loop-place.pairs c.compare_pair.new.pairs c.loop-place.place c.at-pair.result c.loop-place.invariant c.at-pair.ensures c.in_ok-compare_pair.field-0 is c.in_ok-compare_pair.ensures

pub returns-then-not-branch : goal.returns-then-not-branch
returns-then-not-branch c =
    let is : c.in_ok-compare_pair.field-0 ≡ false = cc in
    settled_no c.args.units.now c.args.pairs.now c.loop-place.pairs c.compare_pair.new.pairs c.loop-place.place c.at-pair.result c.loop-place.invariant c.at-pair.ensures c.in_ok-compare_pair.field-0 is c.in_ok-compare_pair.ensures

pub returns : goal.returns
returns c = settled_yes c.args.units.now c.args.pairs.now c.loop-place.pairs c.loop-place.place (omega arith) c.loop-place.invariant
