use Rattle.std.proofs.Common.{◌≡◌, ◌++◌, take}
use Rattle.std.specs.List.{flat_map}
use Rattle.lk_sets.specs.Rows.{row_of}
use Rattle.lk_links.proofs.over.push_rows.Given as goal

abbrev pub invariant-loop-n : goal.invariant-loop-n
invariant-loop-n l = l.ids.items ≡ l.initial.ids.items ++ flat_map (row_of l.rows) (take l.n-index l.labels)
