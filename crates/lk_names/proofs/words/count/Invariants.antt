use Rattle.std.proofs.Common.{◌≡◌, ◌+◌, ◌≤◌, drop}
use Rattle.lk_typed.specs.TypeWords.{count}
use Rattle.lk_names.proofs.words.count.Given as goal

abbrev pub invariant-loop-other : goal.invariant-loop-other
invariant-loop-other l = record {
  counted : l.times + count l.word (drop l.other-index l.words) ≡ count l.word l.words;
  few : l.times ≤ l.other-index;
}
