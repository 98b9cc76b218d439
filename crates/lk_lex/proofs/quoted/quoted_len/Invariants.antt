use Rattle.std.proofs.Common.{◌≡◌, ◌+◌, length}
use Rattle.std.specs.Option.{option_map}
use Rattle.lk_lex.specs.Characters.{quoted_len}
use Rattle.lk_lex.proofs.quoted.quoted_len.Given as goal

abbrev pub invariant-loop-byte : goal.invariant-loop-byte
invariant-loop-byte l = record {
  count : quoted_len l.quotation 0 l.bytes ≡ option_map (λ n. l.len + n) (quoted_len l.quotation 0 l.rest);
  left : l.len + length l.rest ≡ length l.bytes;
}

abbrev pub decreases-loop-byte : goal.decreases-loop-byte
decreases-loop-byte l = length l.rest
