use Rattle.std.proofs.Common.{◌≡◌, ◌≤◌, ◌+◌, ◌++◌, drop}
use Rattle.std.specs.List.{sum}
use Rattle.lk_lower_unit.specs.Prefixes.{sums_from}
use Rattle.lk_lower_unit.proofs.bases.push_row.Given as goal

abbrev pub invariant-loop-count : goal.invariant-loop-count
invariant-loop-count l =
    let left = drop l.count-index l.counts in record {
      row : sums_from l.first l.counts ≡ l.row.items ++ sums_from l.next left;
      sum : l.next + sum left ≡ l.first + sum l.counts;
      few : l.next ≤ l.most;
    }
