use Rattle.std.proofs.Common.{refl}
use Rattle.lk_lower_expr.proofs.Operands.{from_end}
use Rattle.lk_lower_expr.specs.Reads.{names_by}
use Rattle.lk_lower_expr.specs.Statements.{init_flow}
use Rattle.lk_lower_stmt.proofs.Loops.{next_first, next_steps}
use Rattle.lk_lower_stmt.proofs.lowering.BodyLowering.push_inits.Goals as goal

pub loop-k-preserved : goal.loop-k-preserved
loop-k-preserved g c =
    let flow = init_flow (names_by c.args.self.now.source) (g.C.Cells.places c.args.self.now.cells.now) in
    let turn = from_end c.args.list.now c.loop-k.k _ c.index-list-list.result c.loop-k-test.true refl c.index-list-list.is in record {
      next = next_first flow c.args.go _ _ c.index-list-list.result turn c.to.result c.loop-k.next c.to.ensures c.loop-k.invariant.next _ c.in_ok-next.ensures.first;
      steps = next_steps flow c.args.go _ _ c.index-list-list.result turn c.to.result c.loop-k.next c.to.ensures c.loop-k.invariant.next _ _ _ c.loop-k.invariant.steps c.in_ok-next.ensures.steps;
    }
