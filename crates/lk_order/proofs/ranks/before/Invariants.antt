use Rattle.std.proofs.Common.{◌≡◌, ◌↔◌, ℕ, true, map, take}
use Rattle.lk_order.specs.Ranking.{Leads}
use Rattle.lk_order.proofs.RankingLemmas.{arrow_of}
use Rattle.lk_sets.specs.Rows.{has}
use Rattle.lk_order.proofs.ranks.before.Given as goal

-- the rows and the arrows have the pairs so far
abbrev pub invariant-loop-pair : goal.invariant-loop-pair
invariant-loop-pair l = record {
  size : l.rows.size ≡ l.size;
  rows : (q o : ℕ) → (has l.rows q o ≡ true) ↔ Leads (take l.pair-index l.pairs) o q;
  arrows : l.arrows.items ≡ map arrow_of (take l.pair-index l.pairs);
}
