use Rattle.std.proofs.Common.{sym}
use Rattle.lk_order.specs.Ranking.{HasRisen, Rises, to_rise}
use Rattle.lk_order.proofs.WorkLemmas.{progress_each_all, progress_each_more, progress_each_none, read_is}
use Rattle.lk_order.proofs.ranks.Ranking.raise_each.Goals as goal

pub loop-pair-init : goal.loop-pair-init
loop-pair-init c =
    let self = c.args.self.now in
    progress_each_none (to_rise self.before.now.size) (Rises self.pairs.now self.before.now) HasRisen self.pairs.now c.args.ranks.now.items (λ rising. rising)

pub raise-changed-requires-clause-pair : goal.raise-changed-requires-clause-pair
raise-changed-requires-clause-pair c =
    let pairs = c.args.self.now.pairs.now in
    let index = c.loop-pair.pair-index in
    (index, c.loop-pair-test.true, sym (read_is pairs index (record { held = 0; wanted = 0 }) c.loop-pair-test.true))

pub raise-changed-requires-clause-ranks : goal.raise-changed-requires-clause-ranks
raise-changed-requires-clause-ranks c = c.loop-pair.invariant.keeps c.requires.ranks

pub loop-pair-preserved : goal.loop-pair-preserved
loop-pair-preserved c =
    let self = c.args.self.now in
    progress_each_more (to_rise self.before.now.size) (Rises self.pairs.now self.before.now) HasRisen self.pairs.now c.loop-pair.pair-index _ c.args.ranks.now.items c.loop-pair.ranks.items c.raise-changed.new.ranks.items
    c.loop-pair.changed c.raise-changed.result c.loop-pair-test.true (read_is self.pairs.now c.loop-pair.pair-index (record { held = 0; wanted = 0 }) c.loop-pair-test.true) (λ first second rising. second (first rising)) c.loop-pair.invariant c.raise-changed.ensures

pub returns : goal.returns
returns c =
    let self = c.args.self.now in
    progress_each_all (to_rise self.before.now.size) (Rises self.pairs.now self.before.now) HasRisen self.pairs.now c.loop-pair.pair-index c.args.ranks.now.items c.loop-pair.ranks.items c.loop-pair.changed c.loop-pair-test.false c.loop-pair.invariant
