-- Function values that read declarators, members and items inside a node, with so many levels at most.
use Rattle.std.specs.Prelude.{◌≤◌, ℕ, Result}
use denote.Ref.{MutBor}
use Rattle.std.specs.declared.alloc.Global.{Global}
use Rattle.lk_base.specs.declared.fault.Fault.{Fault}
use Rattle.lk_tree.specs.declared.expression.Declarator.{Declarator}
use Rattle.lk_tree.specs.declared.expression.Member.{Member}
use Rattle.lk_tree.specs.declared.expression.Item.{Item}
use Rattle.lk_parse_expr.specs.declared.found.Found.{Found}
use Rattle.lk_parse_expr.specs.declared.naming.Naming.{Naming}
use Rattle.lk_parse_expr.specs.declared.naming.Head.{Head}
use Rattle.lk_parse_expr.specs.Input.{Input}
use Rattle.lk_parse_expr.specs.Readers.{Gives}
use Rattle.lk_parse_expr.specs.Reading.{readers}

-- it reads declarators
pub record NestsDeclarator (depth : ℕ) (pre : Global → MutBor Input → ℕ → Naming → Type 0)
    (post : Global → MutBor Input → ℕ → Naming → Result (Found (Declarator × Head)) Fault → MutBor Input → Type 0) : Type 0 where
  pub callable : (alloc : Global) (old : MutBor Input) (d : ℕ) (n : Naming) → d ≤ depth → pre alloc old d n
  pub reads : (alloc : Global) (old new : MutBor Input) (d : ℕ) (n : Naming)
      (r : Result (Found (Declarator × Head)) Fault) → d ≤ depth → post alloc old d n r new →
      Gives ((readers d).declarator n old.now) r new.now

-- it reads members
pub record NestsMember (depth : ℕ) (pre : Global → MutBor Input → ℕ → Type 0)
    (post : Global → MutBor Input → ℕ → Result (Found Member) Fault → MutBor Input → Type 0) : Type 0 where
  pub callable : (alloc : Global) (old : MutBor Input) (d : ℕ) → d ≤ depth → pre alloc old d
  pub reads : (alloc : Global) (old new : MutBor Input) (d : ℕ) (r : Result (Found Member) Fault) →
      d ≤ depth → post alloc old d r new → Gives ((readers d).member old.now) r new.now

-- it reads items
pub record NestsItem (depth : ℕ) (pre : Global → MutBor Input → ℕ → Type 0)
    (post : Global → MutBor Input → ℕ → Result (Found Item) Fault → MutBor Input → Type 0) : Type 0 where
  pub callable : (alloc : Global) (old : MutBor Input) (d : ℕ) → d ≤ depth → pre alloc old d
  pub reads : (alloc : Global) (old new : MutBor Input) (d : ℕ) (r : Result (Found Item) Fault) → d ≤ depth →
      post alloc old d r new → Gives ((readers d).item old.now) r new.now
