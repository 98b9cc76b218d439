-- A function value that reads the statements inside a statement, with so many levels at most.
use Rattle.std.specs.Prelude.{◌≤◌, ℕ, Result}
use denote.Ref.{MutBor}
use Rattle.std.specs.declared.alloc.Global.{Global}
use Rattle.lk_base.specs.declared.fault.Fault.{Fault}
use Rattle.lk_tree.specs.declared.statement.Stmt.{Stmt}
use Rattle.lk_parse_expr.specs.declared.found.Found.{Found}
use Rattle.lk_parse_expr.specs.Input.{Input}
use Rattle.lk_parse_expr.specs.Readers.{Gives}
use Rattle.lk_parse_unit.specs.Reading.{stmt}

pub record NestsStmt (depth : ℕ) (pre : Global → MutBor Input → ℕ → Type 0)
    (post : Global → MutBor Input → ℕ → Result (Found Stmt) Fault → MutBor Input → Type 0) : Type 0 where
  pub callable : (alloc : Global) (old : MutBor Input) (d : ℕ) → d ≤ depth → pre alloc old d
  pub reads : (alloc : Global) (old new : MutBor Input) (d : ℕ) (r : Result (Found Stmt) Fault) → d ≤ depth →
      post alloc old d r new → Gives (stmt d old.now) r new.now
