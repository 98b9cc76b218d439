use Rattle.std.proofs.Common.{◌≡◌, ◌++◌, length}
use Rattle.lk_lex.specs.Answer.{Extends}
use Rattle.lk_lex.specs.Characters.{quoted_bytes}
use Rattle.lk_lex.proofs.quoted.push_quoted.Given as goal

abbrev pub invariant-loop-byte : goal.invariant-loop-byte
invariant-loop-byte l = record {
  value : l.fn.out.items ++ quoted_bytes l.quotation 0 l.bytes ≡ l.out.items ++ quoted_bytes l.quotation 0 l.rest;
  kept : Extends l.fn.out.items l.out.items;
}

abbrev pub decreases-loop-byte : goal.decreases-loop-byte
decreases-loop-byte l = length l.rest
