use Rattle.std.proofs.Common.{◌≡◌, ◌+◌, drop}
use Rattle.lk_lex.specs.Tokens.{after}
use Rattle.lk_lex.specs.Lengths.{IsBounded}
use Rattle.lk_lex.proofs.place.after.Given as goal

abbrev pub invariant-loop-byte : goal.invariant-loop-byte
invariant-loop-byte l = record {
  same : after l.place (drop l.byte-index l.bytes) ≡ after l.fn.place l.bytes;
  bounded : IsBounded l.place;
  at : l.place.at ≡ l.fn.place.at + l.byte-index;
}
