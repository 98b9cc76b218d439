use Rattle.std.proofs.Common.{◌≡◌, ◌≤◌, ◌+◌, ◌++◌, drop}
use Rattle.lk_lower_unit.specs.Counting.{total}
use Rattle.lk_lower_unit.specs.Prefixes.{rows_from}
use Rattle.lk_lower_unit.proofs.bases.bases_of.Given as goal

abbrev pub invariant-loop-row : goal.invariant-loop-row
invariant-loop-row l =
    let left = drop l.row-index l.counts in record {
      rows : rows_from l.first l.counts ≡ l.rows.items ++ rows_from l.next left;
      sum : l.next + total left ≡ l.first + total l.counts;
      few : l.next ≤ l.most;
    }
