use Rattle.std.proofs.Common.{ℕ, take}
use Rattle.lk_links.specs.Only.{OneHas}
use Rattle.lk_links.proofs.over.first_in_rows.Given as goal

abbrev pub invariant-loop-n : goal.invariant-loop-n
invariant-loop-n l = (m : ℕ) → OneHas l.rows (take l.n-index l.labels) m → ⊥
