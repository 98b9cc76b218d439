use Rattle.std.proofs.Common.{◌≡◌, ◌++◌}
use Rattle.lk_sets.specs.Rows.{row_of}
use Rattle.lk_links.proofs.over.push_row.Given as goal

abbrev pub invariant-loop-m : goal.invariant-loop-m
invariant-loop-m l = l.ids.items ++ l.m-iterator ≡ l.initial.ids.items ++ row_of l.rows l.a
