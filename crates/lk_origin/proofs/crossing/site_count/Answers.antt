use Rattle.std.proofs.Common.{◌<◌, All, subst}
use Rattle.std.proofs.lemmas.List.{take_all}
use Rattle.lk_match.specs.declared.passage.Passage.{Passage}
use Rattle.lk_origin.proofs.CrossingLemmas.{sites_more}
use Rattle.lk_origin.proofs.crossing.site_count.Goals as goal

pub loop-entrance-preserved : goal.loop-entrance-preserved
loop-entrance-preserved c = record {
  bound = c.past-count.ensures.bound;
  each = sites_more c.args.entrances.now c.loop-entrance.entrance-index c.entrance-item.result c.loop-entrance.count c.past-count.result c.loop-entrance-test.true c.entrance-item.is c.loop-entrance.invariant.each c.past-count.ensures.before c.past-count.ensures.here;
}

pub returns-clause-each : goal.returns-clause-each
returns-clause-each c =
    subst (All (λ (x : Passage). x.site < c.loop-entrance.count)) (take_all c.loop-entrance.entrance-index c.args.entrances.now c.loop-entrance-test.false) c.loop-entrance.invariant.each
