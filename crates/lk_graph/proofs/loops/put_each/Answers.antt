use Rattle.std.proofs.Common.{◌≡◌}
use Rattle.lk_graph.proofs.FoundLemmas.{finds_each_all, finds_each_more, finds_each_none}
use Rattle.lk_graph.proofs.SearchLemmas.{each_given, finds_as}
use Rattle.lk_graph.proofs.loops.put_each.Goals as goal

pub loop-id-init : goal.loop-id-init
loop-id-init c = finds_each_none (λ e x. e ≡ x) c.args.ids.now c.args.found.now

pub loop-id-preserved : goal.loop-id-preserved
loop-id-preserved c =
    finds_each_more (λ e x. e ≡ x) c.args.ids.now c.loop-id.id-index _ c.args.found.now c.loop-id.found c.put.new.self c.loop-id-test.true
    c.loop-id.invariant c.in_ok-put.ensures

pub returns : goal.returns
returns c =
    finds_as (each_given c.args.ids.now)
    (finds_each_all (λ e x. e ≡ x) c.args.ids.now c.loop-id.id-index c.args.found.now c.loop-id.found c.loop-id-test.false c.loop-id.invariant)
