use Rattle.lk_facts.specs.Labels.{is_global_at}
use Rattle.lk_sets.proofs.Adding.{adds_each_none, adds_each_read, adds_each_all, adds_to_none}
use Rattle.lk_match.specs.Levels.{IsPassedOn}
use Rattle.lk_match.proofs.level.arrows.Goals as goal

pub loop-summary-init : goal.loop-summary-init
loop-summary-init c = adds_each_none (IsPassedOn (is_global_at c.args.labels.now)) c.args.found.now c.new-arrows.result.items

pub loop-summary-preserved : goal.loop-summary-preserved
loop-summary-preserved c =
    adds_each_read (IsPassedOn (is_global_at c.args.labels.now)) c.args.found.now c.loop-summary.summary-index c.summary-item.result c.loop-summary-test.true c.summary-item.is c.loop-summary.invariant c.in_ok-push_arrow.ensures

pub returns : goal.returns
returns c = λ x.
    let adds = adds_to_none c.new-arrows.ensures.items (adds_each_all (IsPassedOn (is_global_at c.args.labels.now)) c.args.found.now c.loop-summary.summary-index c.loop-summary-test.false c.loop-summary.invariant) x in
    let same = c.in_ok-ordered.ensures x in
    (λ h. adds.0 (same.0 h), λ given. same.1 (adds.1 given))
