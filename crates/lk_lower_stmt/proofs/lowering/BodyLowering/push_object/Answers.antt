use Rattle.std.proofs.Common.{rules}
use Rattle.lk_lower_stmt.proofs.Objects.{object_laid}
use Rattle.lk_lower_stmt.proofs.lowering.BodyLowering.push_object.Goals as goal

pub returns : goal.returns
returns g c = record {
  first = search rules;
  steps =
      object_laid c.args.self.now.source.table.now c.args.self.now.source.names.now (g.C.Cells.places c.args.self.now.cells.now) c.args.object c.args.named.now c.args.absent.now c.args.go c.local-local.result _ _ _ _ _ _ _
      c.local-local.ensures c.new-deeds.ensures.items c.in_ok-push_parts.ensures.deeds c.in_ok-push_parts.ensures.steps c.in_ok-push_fills.ensures c.in_ok-own.ensures c.in_ok-lay.ensures;
}
