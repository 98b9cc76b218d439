use Rattle.std.proofs.Common.{◌≡◌, length}
use Rattle.lk_lower_parts.proofs.Pointers.{RowsBelow}
use Rattle.lk_lower_parts.specs.Tables.{HasMore}
use Rattle.lk_lower_parts.proofs.types.pointer_rows.Given as goal

abbrev pub invariant-loop-linked : goal.invariant-loop-linked
invariant-loop-linked l = record {
  as_many : length l.rows.items ≡ l.linked-index;
  below : RowsBelow l.table l.linked-index l.linked-items l.rows.items;
  more : HasMore l.initial.table l.table;
}
