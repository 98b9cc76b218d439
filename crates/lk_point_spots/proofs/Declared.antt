-- The steps of initialisers stand at the declared name, or at places of the values.
use Rattle.std.proofs.Common.{inl, inr, ℕ, suc, Option, None, Some, List, [], ◌∷◌, ◌++◌, map, refl}
use Rattle.lk_base.specs.declared.cell.CellStep.{CellStep}
use Rattle.lk_base.specs.declared.cell.CellStep.TheVariants.{Index}
use Rattle.lk_base.specs.declared.spot.Spot.{Spot}
use Rattle.lk_lower_expr.specs.Expressions.{part}
use Rattle.lk_lower_expr.specs.Initialisers as initialisers
use Rattle.lk_lower_expr.specs.Initialisers.{numbered, pointed}
use Rattle.lk_lower_expr.specs.Names.{Names, Node}
use Rattle.lk_lower_expr.specs.Parts.{goes}
use Rattle.lk_lower_expr.specs.Statics as statics
use Rattle.lk_lower_expr.specs.Statics.{all_ended, ended, static_walk}
use Rattle.lk_lower_expr.specs.Walk.{Walk, nothing, own, ◌then◌}
use Rattle.lk_lower_expr.specs.declared.step.Deed.{Deed}
use Rattle.lk_lower_expr.specs.declared.step.Step.{Step}
use Rattle.lk_spots.specs.Places.{Each, IfThere}
use Rattle.lk_spots.specs.TypedPlaces as t
use Rattle.lk_spots.specs.TypedPlaces.{TypedExprSpots, LocalValueSpots}
use Rattle.lk_typed.specs.declared.expression.TypedExpr.{TypedExpr}
use Rattle.lk_typed.specs.declared.initialiser.LocalPart.{LocalPart}
use Rattle.lk_typed.specs.declared.initialiser.LocalValue.{LocalValue}
use Rattle.lk_typed.specs.declared.initialiser.StaticPart.{StaticPart}
use Rattle.lk_point_spots.proofs.Expressions.{part_spots}
use Rattle.lk_point_spots.proofs.Walks.{StepsSpots, WalkSpots, goes_spots}

module _ (P : Spot → Type 0) where
  -- steps of one node, one after the other
  pub numbered_spots : (at : ℕ → ℕ) (spot : Spot) (k : ℕ) (deeds : List Deed) (on : ℕ) → P spot → StepsSpots P (numbered at spot k deeds on)
  numbered_spots at spot k [] on place = tt
  numbered_spots at spot k (deed ∷ []) on place = (place, tt)
  numbered_spots at spot k (deed ∷ (next ∷ others)) on place = (place, numbered_spots at spot (suc k) (next ∷ others) on place)

  ended_spots : (steps : List Step) → StepsSpots P steps → StepsSpots P (map ended steps)
  ended_spots [] all = tt
  ended_spots (is ∷ steps) all = (all.0, ended_spots steps all.1)

  all_ended_spots : (walk : Walk) → WalkSpots P walk → WalkSpots P (all_ended walk)
  all_ended_spots nothing all = tt
  all_ended_spots (own node steps) all = ended_spots steps all
  all_ended_spots (a then b) all = (all_ended_spots a all.0, all_ended_spots b all.1)

  module _ (names : Names) (node : Node) (root : ℕ) where
    -- ---- of locals

    bytes_spots : (spot : Spot) (k u : ℕ) (path : List CellStep) (i : ℕ) (bytes : List ℕ) → P spot → StepsSpots P (initialisers.byte_steps names node spot k u path i bytes)
    bytes_spots spot k u path i [] place = tt
    bytes_spots spot k u path i (byte ∷ others) place = (place, bytes_spots spot (initialisers.past_part k (path ++ (Index i ∷ []))) u path (suc i) others place)

    value_spots : (k u : ℕ) (path : List CellStep) {is : LocalValue} → LocalValueSpots P is → WalkSpots P (initialisers.value_walk names node k u path is)
    value_spots k u path (t.given {e = e} spots) = goes_spots P (part names e) (names.at node.ordinal (suc (pointed k path))) (part_spots P names spots)
    value_spots k u path (t.bytes {spot = spot} {text = bytes} place) = bytes_spots spot k (names.inside u (Index 0)) path 0 bytes place
    value_spots k u path t.ready = tt

    pub values_spots : (named : List LocalPart) (k : ℕ) → Each (λ (one : LocalPart). LocalValueSpots P one.value) named → WalkSpots P (initialisers.values_walk names node root k named)
    values_spots [] k each = tt
    values_spots (one ∷ others) k each = (values_spots others _ (λ a is. each a (inr is)), value_spots k one.ty one.path (each one (inl refl)))

    -- ---- of objects of static storage

    abbrev pointer_walk : (k : ℕ) → List CellStep → Option TypedExpr → Walk
    pointer_walk k path None = nothing
    pointer_walk k path (Some e) = goes (part names e) (names.at node.ordinal (suc (pointed k path)))

    pointer_spots : (k : ℕ) (path : List CellStep) (e : Option TypedExpr) → IfThere (TypedExprSpots P) e → WalkSpots P (pointer_walk k path e)
    pointer_spots k path None there = tt
    pointer_spots k path (Some e) there = goes_spots P (part names e) (names.at node.ordinal (suc (pointed k path))) (part_spots P names (there e refl))

    pointers_spots : (parts : List StaticPart) (k : ℕ) → Each (λ (one : StaticPart). IfThere (TypedExprSpots P) one.pointer) parts → WalkSpots P (statics.values_walk names node root k parts)
    pointers_spots [] k each = tt
    pointers_spots (one ∷ others) k each = (pointers_spots others _ (λ a is. each a (inr is)), pointer_spots _ one.path one.pointer (each one (inl refl)))

    pub static_spots : (parts : List StaticPart) → P node.spot → Each (λ (one : StaticPart). IfThere (TypedExprSpots P) one.pointer) parts → WalkSpots P (static_walk names node root parts)
    static_spots parts place each =
        all_ended_spots (own node.ordinal (numbered (names.at node.ordinal) node.spot 0 (statics.pointers_deeds names node root 0 parts) 0) then statics.values_walk names node root 0 parts)
        (numbered_spots (names.at node.ordinal) node.spot 0 (statics.pointers_deeds names node root 0 parts) 0 place, pointers_spots parts 0 each)
