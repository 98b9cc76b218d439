use Rattle.std.proofs.Common.{◌≡◌, ◌&&◌, eqb, nat_lt, ℕ}
use Rattle.lk_sets.specs.Rows.{has}
use Rattle.lk_match.proofs.level.themselves.Given as goal

abbrev pub invariant-loop-number : goal.invariant-loop-number
invariant-loop-number l = record { size : l.rows.size ≡ l.fn.size; pairs : (a b : ℕ) → has l.rows a b ≡ (nat_lt a l.number && eqb a b) }
