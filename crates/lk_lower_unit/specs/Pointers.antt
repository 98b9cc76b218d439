-- The steps of a pointer that an initialiser of static storage names. Only the private calls
-- of this crate speak of them.
use Rattle.std.specs.Prelude.{ℕ, suc, false, List, [], Option, None, Some}
use Rattle.lk_base.specs.declared.cell.CellStep.{CellStep}
use Rattle.lk_facts.specs.declared.action.Action.TheVariants as does
use Rattle.lk_lower_expr.specs.Expressions.{part}
use Rattle.lk_lower_expr.specs.Initialisers.{pointed, settled}
use Rattle.lk_lower_expr.specs.Names.{Names, Node}
use Rattle.lk_lower_expr.specs.Parts.{goes}
use Rattle.lk_lower_expr.specs.Statics.{ended}
use Rattle.lk_lower_expr.specs.Walk.{Walk, nothing}
use Rattle.lk_lower_expr.specs.declared.step.Deed.{Deed}
use Rattle.lk_lower_expr.specs.declared.step.NamedStep.{NamedStep}
use Rattle.lk_typed.specs.declared.expression.TypedExpr.{TypedExpr}

module _ (names : Names) where
  abbrev pub pointer_deeds : Node → (root k : ℕ) → List CellStep → Option TypedExpr → List Deed
  pointer_deeds node root k path None = []
  pointer_deeds node root k path (Some e) =
      settled names node root k path (Some (part names e).first)
      (λ pointer. does.Write pointer (part names e).value false)

  abbrev pub pointer_walk : Node → (k : ℕ) → List CellStep → Option TypedExpr → Walk
  pointer_walk node k path None = nothing
  pointer_walk node k path (Some e) = goes (part names e) (names.at node.ordinal (suc (pointed k path)))

-- a step with its name after which control doesn't go on
abbrev pub ended_here : NamedStep → NamedStep
ended_here step = record { node = step.node; step = step.step; is = ended step.is }
