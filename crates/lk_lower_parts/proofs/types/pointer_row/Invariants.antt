use Rattle.std.proofs.Common.{◌≡◌, length}
use Rattle.lk_lower_parts.proofs.Pointers.{Below}
use Rattle.lk_lower_parts.specs.Tables.{HasMore}
use Rattle.lk_lower_parts.proofs.types.pointer_row.Given as goal

abbrev pub invariant-loop-t : goal.invariant-loop-t
invariant-loop-t l = record {
  as_many : length l.row.items ≡ l.t-index;
  below : Below l.table l.t-index l.types l.row.items;
  more : HasMore l.initial.table l.table;
}
