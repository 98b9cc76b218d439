use Rattle.std.proofs.Common.{◌<◌, ◌≤◌, ◌^◌, ◌-◌, ◌/◌}
use Rattle.lk_sets.proofs.WordBits.{LooksAt}
use Rattle.lk_sets.proofs.bits.first_bit.Given as goal

abbrev pub invariant-loop-word : goal.invariant-loop-word
invariant-loop-word l = record {
  looks : LooksAt l.words l.from l.end l.at l.word;
  behind : l.from / 64 ≤ l.at;
  fits : l.word < 2 ^ 64;
}

abbrev pub decreases-loop-word : goal.decreases-loop-word
decreases-loop-word l = l.end - l.at
