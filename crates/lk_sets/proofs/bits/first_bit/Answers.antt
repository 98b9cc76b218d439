use Rattle.std.proofs.Common.{◌/◌, arith}
use Rattle.std.proofs.lemmas.Nat.{and_le_l}
use Rattle.lk_sets.proofs.WordBits.{look_first, found_here}
use Rattle.lk_sets.proofs.bits.first_bit.Goals as goal

pub loop-word-init : goal.loop-word-init
loop-word-init c = record {
  looks = look_first c.args.words.now c.args.from c.args.end c.requires.from;
  behind = omega arith;
  fits = omega (arith, and_le_l, c.type_inv.words (c.args.from / 64));
}

pub overflow_add-result : goal.overflow_add-result
overflow_add-result c =
    let found = found_here _ _ _ _ _ c.loop-word.invariant.looks (omega arith) c.loop-word.invariant.fits in
    omega (arith, found.before)

pub returns : goal.returns
returns c = found_here _ _ _ _ _ c.loop-word.invariant.looks (omega arith) c.loop-word.invariant.fits
