use Rattle.std.proofs.Common.{◌≡◌, replicate, sym, subst}
use Rattle.lk_order.specs.Ranking.{AreRising}
use Rattle.lk_order.proofs.RankingLemmas.{flat_rising, ranks_are}
use Rattle.lk_order.proofs.ranks.Ranking.ranks.Goals as goal

pub loop-init : goal.loop-init
loop-init c =
    let self = c.args.self.now in
    let flat : c.in_ok-ranks.ranks.items ≡ replicate c.size.result 0 = c.in_ok-ranks.ensures.items_if_clones_equal (λ y h. h) in
    subst (AreRising self.pairs.now self.before.now) (sym flat) (flat_rising self.pairs.now self.before.now c.size.result c.size.ensures.value)

pub raise_each-requires : goal.raise_each-requires
raise_each-requires c = record {
  ordered = record { square = c.size.ensures.square; first = c.requires.before; acyclic = c.requires.acyclic; within = c.requires.within };
  ranks = c.loop.invariant;
}

pub returns : goal.returns
returns c =
    let self = c.args.self.now in
    ranks_are self.pairs.now self.before.now c.raise_each.new.ranks.items (c.raise_each.ensures.keeps c.loop.invariant) (c.raise_each.ensures.done c.loop-test.false)
