use Rattle.std.proofs.Common.{Contains, take}
use Rattle.lk_held.specs.Progress.{Progress}
use Rattle.lk_order.specs.Ranking.{HasRisen, Rises, to_rise}
use Rattle.lk_order.specs.declared.order.Pair.{Pair}
use Rattle.lk_order.proofs.ranks.Ranking.raise_each.Given as goal

-- the ranks of the pairs so far have risen
abbrev pub invariant-loop-pair : goal.invariant-loop-pair
invariant-loop-pair l =
    Progress (to_rise l.self.before.now.size) (Rises l.self.pairs.now l.self.before.now) (λ ranks. (pair : Pair) → Contains (take l.pair-index l.self.pairs.now) pair → HasRisen pair ranks) l.fn.ranks.items l.ranks.items l.changed
