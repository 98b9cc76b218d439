use Rattle.std.proofs.Common.{◌≡◌, ◌-◌, drop, length}
use Rattle.std.specs.Prelude.{map}
use Rattle.lk_lower_expr.specs.Laid.{laid}
use Rattle.lk_lower_expr.specs.Reads.{names_by}
use Rattle.lk_lower_expr.specs.Statements.{all_in, first_in, init_flow}
use Rattle.lk_lower_stmt.proofs.lowering.BodyLowering.push_inits.Given as goal

abbrev pub invariant-loop-k : goal.invariant-loop-k
invariant-loop-k g l =
    let flows = map (init_flow (names_by l.self.source) (g.C.Cells.places l.self.cells.now)) (drop (length l.list - l.k) l.list) in record {
      next : l.next ≡ first_in flows l.go;
      steps : l.steps.items ≡ laid (all_in flows l.go) l.initial.steps.items;
    }
