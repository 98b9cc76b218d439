use Rattle.std.proofs.Common.{◌≡◌, ℕ, take}
use Rattle.lk_links.specs.Only.{OneHas}
use Rattle.lk_links.proofs.over.have_no_other.Given as goal

abbrev pub invariant-loop-n : goal.invariant-loop-n
invariant-loop-n l = (o : ℕ) → OneHas l.rows (take l.n-index l.labels) o → o ≡ l.m
