use Rattle.lk_graph.proofs.PassingLemmas.{passed_one}
use Rattle.lk_graph.proofs.reach.pass_one.Goals as goal

pub returns-clause-sound : goal.returns-clause-sound
returns-clause-sound c = λ graph arrow. passed_one graph c.args.from c.args.into c.args.rows.now c.join_row.new.self arrow c.if-not-join_row.ensures.pairs
