use Rattle.std.proofs.Common.{◌≡◌, ◌++◌, ◌+◌, ◌*◌, ◌-◌, drop, length}
use Rattle.std.specs.Prelude.{map}
use Rattle.lk_lower_expr.specs.Laid.{laid}
use Rattle.lk_lower_expr.specs.Statements.{all_in, first_in, labelled_in}
use Rattle.lk_lower_stmt.specs.Flows.{item_by}
use Rattle.lk_lower_stmt.proofs.lowering.BodyLowering.+lowers.Given as goal

abbrev pub invariant-push_items-loop-k : goal.invariant-push_items-loop-k
invariant-push_items-loop-k g l =
    let flows = map (item_by l.self.source (g.C.Cells.places l.self.cells.now)) (drop (length l.items - l.k) l.items) in record {
      next : l.next ≡ first_in flows l.go;
      steps : l.out.steps.items ≡ laid (all_in flows l.go) l.initial.out.steps.items;
      labelled : l.out.labelled.items ≡ l.initial.out.labelled.items ++ labelled_in flows l.go;
    }
