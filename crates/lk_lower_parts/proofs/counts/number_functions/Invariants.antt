use Rattle.std.proofs.Common.{◌≡◌, ◌+◌, ◌++◌, drop, length}
use Rattle.lk_lower_parts.proofs.FunctionCounts.{Rows}
use Rattle.lk_lower_parts.specs.FunctionNumbers.{bodies_of, firsts}
use Rattle.lk_lower_parts.proofs.counts.number_functions.Given as goal

abbrev pub invariant-loop-linked : goal.invariant-loop-linked
invariant-loop-linked l = let sources = l.linked-items in record {
  first : firsts 0 sources ≡ l.first.items ++ firsts l.next (drop l.linked-index sources);
  count : bodies_of sources ≡ l.next + bodies_of (drop l.linked-index sources);
  firsts_ : length l.first.items ≡ l.linked-index;
  length_ : length l.of_entities.items ≡ l.linked-index;
  rows : Rows sources l.linked-index l.of_entities.items;
}
