-- The typed tree of an expression is the one that the rules give, where what was found at its
-- nodes is true (C99 6.3, 6.5).
use Rattle.std.specs.Prelude.{◌≡◌, Bool}
use Rattle.lk_tree.specs.declared.expression.Expr.{Expr}
use Rattle.lk_typed.specs.Elaborated.{InPlace, IsConverted, IsTyped, IsValue}
use Rattle.lk_typed.specs.Env.{Env, ConvertedTo}
use Rattle.lk_typed.specs.Meaning.{meaning_of}
use Rattle.lk_typed.specs.Nodes.{AnExpression}
use Rattle.lk_typed.specs.Tables.{Tables}
use Rattle.lk_typed.specs.declared.expression.TypedExpr.{TypedExpr}
use Rattle.lk_typed.specs.declared.typed.ExprType.{ExprType}
use Rattle.lk_elaborator.specs.Leading.{Leads}
use Rattle.lk_elaborator.specs.Telling.{IsTold, IsTrueOf}
use Rattle.lk_elaborator.specs.declared.elaborator.Elaborator.{Elaborator}

-- the node is that of the expression itself, wherever it stands
abbrev pub Elaborates : Elaborator → Elaborator → Expr → Bool → TypedExpr → Type 0
Elaborates old new e folded t =
    (at_end env : Env) → IsTold at_end old env (AnExpression e) → (tables : Tables) → Leads new tables →
    IsTyped tables folded (env, e) t

-- it is that of its value, converted to the type to which the rules convert it directly
abbrev pub ElaboratesTo : Elaborator → Elaborator → Expr → ExprType → Bool → TypedExpr → Type 0
ElaboratesTo old new e target folded t =
    (at_end env : Env) → IsTold at_end old env (AnExpression e) →
    env.role ≡ ConvertedTo (meaning_of old.types target) →
    (tables : Tables) → Leads new tables → IsConverted tables folded (env, e) (meaning_of old.types target) t

-- ---- a node that is the expression itself already

-- its value is made of it
abbrev pub ElaboratesValue : Elaborator → Elaborator → TypedExpr → TypedExpr → Type 0
ElaboratesValue old new a t =
    (p : InPlace) → IsTrueOf old p → (tables : Tables) → Leads new tables → (folded : Bool) →
    IsTyped tables folded p a → IsValue tables folded p t

-- and that value converted to a type
abbrev pub ElaboratesConverted : Elaborator → Elaborator → TypedExpr → ExprType → TypedExpr → Type 0
ElaboratesConverted old new a target t =
    (p : InPlace) → IsTrueOf old p → (tables : Tables) → Leads new tables → (folded : Bool) →
    IsTyped tables folded p a →
    IsConverted tables folded p (meaning_of old.types target) t
