-- The points of static initialisers (C99 6.7.8, 4): each pointer that one names has the steps of a local's
-- entry. Control never comes to them.
use Rattle.std.specs.Prelude.{ℕ, suc, ◌+◌, false, List, [], ◌∷◌, ◌++◌, length, map, Option, None, Some}
use Rattle.lk_base.specs.declared.cell.CellStep.{CellStep}
use Rattle.lk_facts.specs.declared.action.Action.TheVariants as does
use Rattle.lk_lower_expr.specs.Expressions.{part}
use Rattle.lk_lower_expr.specs.Initialisers as initialisers
use Rattle.lk_lower_expr.specs.Initialisers.{pointed}
use Rattle.lk_lower_expr.specs.Names.{Names, Node}
use Rattle.lk_lower_expr.specs.Parts.{goes}
use Rattle.lk_lower_expr.specs.Walk.{Walk, nothing, own, ◌then◌}
use Rattle.lk_lower_expr.specs.declared.step.Deed.{Deed}
use Rattle.lk_lower_expr.specs.declared.step.Step.{Step}
use Rattle.lk_typed.specs.declared.expression.TypedExpr.{TypedExpr}
use Rattle.lk_typed.specs.declared.initialiser.StaticPart.{StaticPart}

-- a step after which control doesn't go on
abbrev pub ended : Step → Step
ended step = record { does = step.does; gives = step.gives; next = []; spot = step.spot }

abbrev pub all_ended : Walk → Walk
all_ended nothing = nothing
all_ended (own node steps) = own node (map ended steps)
all_ended (a then b) = all_ended a then all_ended b

module _ (names : Names) where
  abbrev pointer_deeds : Node → (root k : ℕ) → List CellStep → Option TypedExpr → List Deed
  pointer_deeds node root k path None = []
  pointer_deeds node root k path (Some e) =
      initialisers.settled names node root k path (Some (part names e).first)
      (λ pointer. does.Write pointer (part names e).value false)

  abbrev count_of : Node → (root k : ℕ) → StaticPart → ℕ
  count_of node root k one = length (pointer_deeds node root k one.path one.pointer)

  -- the pointers among the parts that an initialiser names, the steps of the first
  -- of them from the step `k` on
  abbrev pub pointers_deeds : Node → (root k : ℕ) → List StaticPart → List Deed
  pointers_deeds node root k [] = []
  pointers_deeds node root k (one ∷ others) =
      pointer_deeds node root k one.path one.pointer ++
      pointers_deeds node root (k + count_of node root k one) others

  abbrev value_walk : Node → (k : ℕ) → List CellStep → Option TypedExpr → Walk
  value_walk node k path None = nothing
  value_walk node k path (Some e) = goes (part names e) (names.at node.ordinal (suc (pointed k path)))

  abbrev pub values_walk : Node → (root k : ℕ) → List StaticPart → Walk
  values_walk node root k [] = nothing
  values_walk node root k (one ∷ others) =
      values_walk node root (k + count_of node root k one) others then value_walk node k one.path one.pointer

  -- the points of the initialiser of an object of static storage, by the node of
  -- its declared name and its root
  abbrev pub static_walk : Node → (root : ℕ) → List StaticPart → Walk
  static_walk node root parts =
      all_ended (own node.ordinal
      (initialisers.numbered (names.at node.ordinal) node.spot 0 (pointers_deeds node root 0 parts) 0)
      then values_walk node root 0 parts)
