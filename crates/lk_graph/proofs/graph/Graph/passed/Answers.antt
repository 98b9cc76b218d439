use Rattle.lk_sets.proofs.Closing.{grown_more}
use Rattle.lk_graph.proofs.PassingLemmas.{closed_rows}
use Rattle.lk_graph.proofs.graph.Graph.passed.Goals as goal

pub loop-preserved : goal.loop-preserved
loop-preserved c = record {
  grown = grown_more c.loop.invariant.grown c.pass_marked.ensures.going;
  long = c.pass_marked.ensures.long;
  waits = c.pass_marked.ensures.waits;
}

pub loop-smaller : goal.loop-smaller
loop-smaller c = c.pass_marked.ensures.going.grows.falls c.loop-test.true

pub returns-clause-pairs : goal.returns-clause-pairs
returns-clause-pairs c =
    let round = c.pass_marked.ensures.going in
    closed_rows c.args.self.now c.args.back.now c.requires.back c.in_ok-rows.rows c.pass_marked.new.rows c.in_ok-rows.ensures.pairs (grown_more c.loop.invariant.grown round) (round.done c.loop-test.false)
