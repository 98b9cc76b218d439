use Rattle.std.proofs.lemmas.List.Elements.{Contains-get_or}
use Rattle.lk_sets.proofs.Members.{has_id-from_Contains}
use Rattle.lk_graph.proofs.PassingLemmas.{round_all, round_more}
use Rattle.lk_graph.proofs.graph.Graph.pass_marked.Goals as goal

pub pass_row-changed-requires-clause-number : goal.pass_row-changed-requires-clause-number
pass_row-changed-requires-clause-number c =
    let order = c.args.order.now in
    (c.requires.order _).0 (has_id-from_Contains order _ (Contains-get_or order c.loop-a.a-index 0 c.loop-a-test.true))

pub loop-a-preserved : goal.loop-a-preserved
loop-a-preserved c = round_more c.loop-a.a-index _ c.loop-a-test.true c.loop-a.invariant c.pass_row-changed.ensures

pub returns-clause-going : goal.returns-clause-going
returns-clause-going c = round_all c.loop-a.a-index c.loop-a-test.false c.requires.order c.loop-a.invariant
