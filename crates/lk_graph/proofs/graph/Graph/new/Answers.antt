use Rattle.std.proofs.Common.{◌≡◌, length, arith}
use Rattle.lk_graph.proofs.GraphLemmas.{empty_graph, empty_leads}
use Rattle.lk_graph.proofs.graph.Graph.new.Goals as goal

pub invariant_of-result : goal.invariant_of-result
invariant_of-result c =
    let long : length c.loop.ends.items ≡ c.args.size = omega (arith, c.loop.auto.counter-end, c.loop-test.false, c.loop.invariant.long) in
    empty_graph c.args.size c.loop.ends.items long c.loop.invariant.empty

pub returns-clause-none : goal.returns-clause-none
returns-clause-none c = empty_leads c.loop.ends.items c.loop.invariant.empty
