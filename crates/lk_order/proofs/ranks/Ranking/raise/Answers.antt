use Rattle.std.proofs.Common.{◌≡◌, ◌+◌, ap, arith}
use Rattle.std.proofs.lemmas.List.{get_or_read}
use Rattle.lk_order.specs.Ranking.{rank_in}
use Rattle.lk_order.proofs.RankingLemmas.{at_most_size, not_raised, pair_within, raised}
use Rattle.lk_order.proofs.ranks.Ranking.raise.Goals as goal

pub overflow_add-rank : goal.overflow_add-rank
overflow_add-rank c =
    let self = c.args.self.now in
    let ranks = c.args.ranks.now.items in
    let inside = pair_within self.pairs.now self.before.now c.requires.ordered c.args.pair c.requires.pair in
    let few = at_most_size self.pairs.now self.before.now c.requires.ordered c.args.pair.held in
    let low = c.requires.ranks.bounded c.args.pair.held in
    let is : c.index.result.now ≡ rank_in ranks c.args.pair.held = get_or_read ranks c.args.pair.held c.index.result.now (omega (arith, inside.0, c.requires.ranks.size)) c.index.ensures 0 in
    omega (arith, is, low, few, c.requires.ordered.square.small)

pub returns : goal.returns
returns c =
    let self = c.args.self.now in
    let ranks = c.args.ranks.now.items in
    let pair = c.args.pair in
    let inside = pair_within self.pairs.now self.before.now c.requires.ordered pair c.requires.pair in
    let held : c.index.result.now ≡ rank_in ranks pair.held = get_or_read ranks pair.held c.index.result.now (omega (arith, inside.0, c.requires.ranks.size)) c.index.ensures 0 in
    let wanted : c.index-2.result.now ≡ rank_in ranks pair.wanted = get_or_read ranks pair.wanted c.index-2.result.now (omega (arith, inside.1, c.requires.ranks.size)) c.index-2.ensures 0 in
    raised self.pairs.now self.before.now c.requires.ordered ranks pair.held pair.wanted (c.index.result.now + 1) (ap (λ n. n + 1) held) c.requires.pair inside.1 (omega (arith, wanted, c.if-index-rank.false)) c.requires.ranks pair

pub returns-then-index-rank : goal.returns-then-index-rank
returns-then-index-rank c =
    let self = c.args.self.now in
    let ranks = c.args.ranks.now.items in
    let pair = c.args.pair in
    let inside = pair_within self.pairs.now self.before.now c.requires.ordered pair c.requires.pair in
    let held : c.index.result.now ≡ rank_in ranks pair.held = get_or_read ranks pair.held c.index.result.now (omega (arith, inside.0, c.requires.ranks.size)) c.index.ensures 0 in
    let wanted : c.index-2.result.now ≡ rank_in ranks pair.wanted = get_or_read ranks pair.wanted c.index-2.result.now (omega (arith, inside.1, c.requires.ranks.size)) c.index-2.ensures 0 in
    not_raised self.pairs.now self.before.now c.requires.ordered ranks pair (omega (arith, held, wanted, c.if-index-rank.true))
