use Rattle.std.proofs.Common.{◌≡◌, ◌++◌, drop, length}
use Rattle.lk_lower_expr.specs.Initialisers.{fills_deeds}
use Rattle.lk_lower_expr.specs.Naming.{node_of_local}
use Rattle.lk_lower_expr.specs.Reads.{names_by}
use Rattle.lk_lower_stmt.proofs.lowering.BodyLowering.push_fills.Given as goal

abbrev pub invariant-loop-one : goal.invariant-loop-one
invariant-loop-one g l =
    let names = names_by l.self.source in
    let node = node_of_local l.local in
    let place = g.C.Cells.places l.self.cells.now l.object in
    let old = l.initial.deeds.items in
    old ++ fills_deeds names node place l.local.number (length old) l.absent ≡ l.deeds.items ++ fills_deeds names node place l.local.number (length l.deeds.items) (drop l.one-index l.absent)
