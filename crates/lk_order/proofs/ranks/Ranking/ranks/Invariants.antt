use Rattle.lk_order.specs.Ranking.{AreRising, to_rise}
use Rattle.lk_order.proofs.ranks.Ranking.ranks.Given as goal

abbrev pub invariant-loop : goal.invariant-loop
invariant-loop l = AreRising l.self.pairs.now l.self.before.now l.ranks.items

abbrev pub decreases-loop : goal.decreases-loop
decreases-loop l = to_rise l.self.before.now.size l.ranks.items
