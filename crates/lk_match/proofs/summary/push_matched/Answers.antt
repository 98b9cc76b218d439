use Rattle.std.proofs.Common.{sym}
use Rattle.lk_facts.specs.Labels.{is_global_at}
use Rattle.lk_sets.proofs.Adding.{adds_as, adds_each_none, adds_each_read, adds_each_all}
use Rattle.lk_match.specs.Summaries.{Ends}
use Rattle.lk_match.proofs.summary.push_matched.Goals as goal

pub loop-leaving-init : goal.loop-leaving-init
loop-leaving-init c = adds_each_none (Ends (is_global_at c.args.labels.now) c.args.levels.now c.args.from c.args.inside) c.args.leavings.now c.args.found.now.items

pub loop-leaving-preserved : goal.loop-leaving-preserved
loop-leaving-preserved c =
    adds_each_read (Ends (is_global_at c.args.labels.now) c.args.levels.now c.args.from c.args.inside) c.args.leavings.now c.loop-leaving.leaving-index c.leaving-item.result c.loop-leaving-test.true
    c.leaving-item.is c.loop-leaving.invariant c.in_ok-push_ended.ensures

pub returns : goal.returns
returns c =
    let Given = Ends (is_global_at c.args.labels.now) c.args.levels.now c.args.from c.args.inside in
    adds_as (λ s. ((λ given. (sym c.if-is_global.ensures, given)), (λ both. both.1)))
    (adds_each_all Given c.args.leavings.now c.loop-leaving.leaving-index c.loop-leaving-test.false c.loop-leaving.invariant)
