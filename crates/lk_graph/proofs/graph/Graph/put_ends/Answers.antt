use Rattle.lk_graph.proofs.FoundLemmas.{finds_each_all, finds_each_more, finds_each_none}
use Rattle.lk_graph.proofs.SearchLemmas.{IsMarkedAs, finds_as, marked_ends}
use Rattle.lk_graph.proofs.graph.Graph.put_ends.Goals as goal

pub loop-b-init : goal.loop-b-init
loop-b-init c = finds_each_none (IsMarkedAs c.args.marks.now) c.ends-b-items.result.now c.args.found.now

pub loop-b-preserved : goal.loop-b-preserved
loop-b-preserved c =
    finds_each_more (IsMarkedAs c.args.marks.now) c.ends-b-items.result.now c.loop-b.b-index _ c.args.found.now c.loop-b.found c.put_marked.new.found c.loop-b-test.true
    c.loop-b.invariant c.in_ok-put_marked.ensures

pub returns : goal.returns
returns c =
    finds_as (marked_ends c.args.self.now c.args.marks.now c.args.a c.ends-b-items.result.now c.ends-b-items.ensures.value)
    (finds_each_all (IsMarkedAs c.args.marks.now) c.ends-b-items.result.now c.loop-b.b-index c.args.found.now c.loop-b.found c.loop-b-test.false c.loop-b.invariant)
