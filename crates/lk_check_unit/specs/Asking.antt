-- What is found of an expression whose value nothing converts.
use Rattle.std.specs.Prelude.{Option, Some, None, [], ◌∷◌}
use Rattle.lk_tree.specs.declared.expression.Expr.{Expr}
use Rattle.lk_types.specs.Table.{Table}
use Rattle.lk_typed.specs.Addresses.{value}
use Rattle.lk_typed.specs.Env.{Env}
use Rattle.lk_typed.specs.Expressions.{expr_adds, expression}
use Rattle.lk_typed.specs.Nodes.{AnExpression, at}
use Rattle.lk_typed.specs.Ty.{Ty}
use Rattle.lk_typed.specs.Typing.{Typing}
use Rattle.lk_typed.specs.Typings.{IsResult}
use Rattle.lk_typed.specs.declared.typed.Typed.{Typed}
use Rattle.lk_checker.specs.declared.checker.Checker.{Checker}
use Rattle.lk_check_walk.specs.Walks.{Walks}
use Rattle.lk_check_unit.specs.Bodies.{IsPlain}

abbrev pub WalksOperand : Expr → Checker → Checker → Type 0
WalksOperand e old new = (at_end env : Env) → IsPlain old env →
    Walks at_end old new env (expr_adds e env) (at env (AnExpression e) ∷ [])

abbrev pub IsOperandFound : Expr → Checker → Table → Option Typed → Type 0
IsOperandFound e old table typing =
    (env : Env) → IsPlain old env → IsResult table typing (expression e env).typing

-- the type of its value
abbrev pub value_in : Option Typing → Option Ty
value_in None = None
value_in (Some typing) = Some (value typing).type
