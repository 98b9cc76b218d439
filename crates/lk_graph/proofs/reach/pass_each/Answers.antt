use Rattle.std.proofs.Common.{◌∙◌, sym}
use Rattle.lk_graph.proofs.PassingLemmas.{passed_all, passed_more, passed_none}
use Rattle.lk_graph.proofs.reach.pass_each.Goals as goal

pub pass_one-changed-requires-clause-from : goal.pass_one-changed-requires-clause-from
pass_one-changed-requires-clause-from c = rw c.loop-a.invariant.grows.size c.requires.from

pub pass_one-changed-requires-clause-into : goal.pass_one-changed-requires-clause-into
pass_one-changed-requires-clause-into c = rw c.loop-a.invariant.grows.size (c.requires.into _ _ c.loop-a-test.true)

pub pass_one-changed-requires-clause-long : goal.pass_one-changed-requires-clause-long
pass_one-changed-requires-clause-long c = c.loop-a.invariant.marks.long ∙ c.requires.long ∙ sym c.loop-a.invariant.grows.size

pub loop-a-init : goal.loop-a-init
loop-a-init c = passed_none c.args.from c.args.into.now c.args.rows.now c.args.marks.now.items

pub loop-a-preserved : goal.loop-a-preserved
loop-a-preserved c =
    let step = c.pass_one-changed.ensures in
    passed_more c.loop-a.a-index _ c.loop-a-test.true c.loop-a.invariant step.grows step.sound step.marks step.passed step.same

pub returns-clause-passed : goal.returns-clause-passed
returns-clause-passed c = passed_all c.loop-a.a-index c.loop-a-test.false c.loop-a.invariant
