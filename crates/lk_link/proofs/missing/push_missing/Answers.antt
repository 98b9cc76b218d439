use Rattle.std.proofs.Common.{arith}
use Rattle.lk_link.proofs.Gaining.{gained_nothing, gained_step, gained_all}
use Rattle.lk_link.proofs.missing.push_missing.Goals as goal

pub loop-entity-init : goal.loop-entity-init
loop-entity-init c = gained_nothing c.args.clashes.now.items c.args.source c.args.entities.now

pub loop-entity-preserved : goal.loop-entity-preserved
loop-entity-preserved c =
    gained_step c.args.source c.args.entities.now c.loop-entity.entity-index c.entity-item.result c.loop-entity-test.true c.entity-item.is
    c.args.clashes.now.items c.loop-entity.clashes.items c.push_missing_here.new.clashes.items c.loop-entity.invariant c.in_ok-push_missing_here.ensures

pub returns : goal.returns
returns c = gained_all c.args.clashes.now.items c.loop-entity.clashes.items c.args.source c.args.entities.now c.loop-entity.entity-index (omega arith) c.loop-entity.invariant
