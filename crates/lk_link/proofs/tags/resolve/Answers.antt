use Rattle.std.proofs.Common.{◌+◌, sym, subst}
use Rattle.lk_link.proofs.Resolving.{AreRowsBelow, rows_more}
use Rattle.lk_link.proofs.tags.resolve.Goals as goal

pub loop-source-preserved : goal.loop-source-preserved
loop-source-preserved c =
    subst (AreRowsBelow c.args.units.now (c.loop-source.source + 1)) (sym c.in_ok-push.ensures.items)
    (rows_more c.args.units.now c.loop-source.source c.loop-source.rows.items c.in_ok-row.field-0 c.loop-source.invariant c.in_ok-row.ensures)
