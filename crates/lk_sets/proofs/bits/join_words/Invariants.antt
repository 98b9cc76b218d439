use Rattle.std.proofs.Common.{◌≡◌, true, false}
use Rattle.lk_sets.specs.Words.{AddsBit}
use Rattle.lk_sets.proofs.WordBits.{IsJoinedTo}
use Rattle.lk_sets.proofs.bits.join_words.Given as goal

abbrev pub invariant-loop-i : goal.invariant-loop-i
invariant-loop-i l = record {
  joined : IsJoinedTo l.initial.words.items l.words.items l.from l.into l.i;
  added : l.added ≡ true → AddsBit l.initial.words.items l.from l.into l.i;
  same : l.added ≡ false → l.words.items ≡ l.initial.words.items;
}
