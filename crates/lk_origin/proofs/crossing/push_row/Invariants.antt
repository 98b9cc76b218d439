use Rattle.std.proofs.Common.{◌≡◌, ◌++◌}
use Rattle.lk_sets.specs.Rows.{row_of}
use Rattle.lk_origin.proofs.crossing.push_row.Given as goal

abbrev pub invariant-loop-label : goal.invariant-loop-label
invariant-loop-label l = l.list.items ++ l.label-iterator ≡ l.initial.list.items ++ row_of l.levels l.fn.entrance.to
