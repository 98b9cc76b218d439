use Rattle.std.proofs.Common.{◌≡◌, drop, map}
use Rattle.std.specs.Prelude.{string_bytes}
use Rattle.lk_confirm.specs.Seen.{seen_split}
use Rattle.lk_confirm.specs.Words.{nothing_split, walk}
use Rattle.lk_confirm.proofs.words.split_of.Given as goal

-- the words so far led to this, and the others lead on from it
abbrev pub invariant-loop-word : goal.invariant-loop-word
invariant-loop-word l =
    walk nothing_split (map string_bytes l.words) ≡ walk (seen_split l.split) (map string_bytes (drop l.word-index l.words))
