use Rattle.std.proofs.Common.{◌≡◌, ◌++◌}
use Rattle.lk_sets.specs.Rows.{row_of}
use Rattle.lk_order.proofs.sets.row.Given as goal

abbrev pub invariant-loop-m : goal.invariant-loop-m
invariant-loop-m l = l.ids.items ++ l.m-iterator ≡ row_of l.rows l.a
