use Rattle.std.proofs.Common.{arith}
use Rattle.lk_flow.proofs.ActionLists.{no_slot}
use Rattle.lk_flow.proofs.actions.slot_pointee.Goals as goal

pub returns-then-f-functions : goal.returns-then-f-functions
returns-then-f-functions c = no_slot c.args.points.now c.args.labels.now.names c.args.f c.args.s (omega (arith, c.if-f-functions.true, c.functions.ensures))

pub returns : goal.returns
returns c = c.pointee.ensures.found
