-- Function values that read the nodes inside a node, with so many levels at most.
use Rattle.std.specs.Prelude.{◌≤◌, ℕ, Result}
use denote.Ref.{MutBor}
use Rattle.std.specs.declared.alloc.Global.{Global}
use Rattle.lk_base.specs.declared.fault.Fault.{Fault}
use Rattle.lk_tree.specs.declared.expression.Expr.{Expr}
use Rattle.lk_tree.specs.declared.expression.TypeName.{TypeName}
use Rattle.lk_parse_expr.specs.declared.found.Found.{Found}
use Rattle.lk_parse_expr.specs.Input.{Input}
use Rattle.lk_parse_expr.specs.Readers.{Gives}
use Rattle.lk_parse_expr.specs.Reading.{readers}

-- it reads expressions
pub record NestsExpr (depth : ℕ) (pre : Global → MutBor Input → ℕ → ℕ → Type 0)
    (post : Global → MutBor Input → ℕ → ℕ → Result (Found Expr) Fault → MutBor Input → Type 0) : Type 0 where
  pub callable : (alloc : Global) (old : MutBor Input) (d level : ℕ) → d ≤ depth → pre alloc old d level
  pub reads : (alloc : Global) (old new : MutBor Input) (d level : ℕ) (r : Result (Found Expr) Fault) →
      d ≤ depth → post alloc old d level r new → Gives ((readers d).expr level old.now) r new.now

-- it reads type names
pub record NestsTypeName (depth : ℕ) (pre : Global → MutBor Input → ℕ → Type 0)
    (post : Global → MutBor Input → ℕ → Result (Found TypeName) Fault → MutBor Input → Type 0) : Type 0 where
  pub callable : (alloc : Global) (old : MutBor Input) (d : ℕ) → d ≤ depth → pre alloc old d
  pub reads : (alloc : Global) (old new : MutBor Input) (d : ℕ) (r : Result (Found TypeName) Fault) →
      d ≤ depth → post alloc old d r new → Gives ((readers d).type_name old.now) r new.now
