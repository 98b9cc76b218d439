-- What the pointer of an operand means: the label of what the operand points to means the place to which the pointer leads.
use Rattle.std.proofs.Common.{◌≡◌, ℕ, true, false, List, Some, refl, sym, ap, subst, ◌∙◌}
use Rattle.std.proofs.lemmas.Option.{same_Some}
use Rattle.std.specs.List.{slice_get}
use Rattle.lk_cells.specs.Operands.{operand}
use Rattle.lk_cells.specs.declared.state.State.{State}
use Rattle.lk_cells.specs.declared.state.Thread.{Thread}
use Rattle.lk_change.specs.declared.change.Change.{Change}
use Rattle.lk_facts.specs.Basis.{Basis}
use Rattle.lk_facts.specs.EdgeRules.{value}
use Rattle.lk_facts.specs.LabelRules.{IsPart}
use Rattle.lk_facts.specs.Labels.{is_origin_at, target_at}
use Rattle.lk_facts.specs.Typed.{PointsToForm}
use Rattle.lk_facts.specs.declared.action.Action.{Action}
use Rattle.lk_facts.specs.declared.edge.Edge.{Edge}
use Rattle.lk_right.proofs.Cells.{one_place}
use Rattle.lk_right.proofs.Doing.{Acts, operand_right}
use Rattle.lk_right.proofs.Sees.{has_pointer, sees_form}
use Rattle.lk_right.specs.Contexts.{Home, Contexts}
use Rattle.lk_right.specs.Laws.{IsAnalysed}
use Rattle.lk_right.specs.Right.{IsPlaceAt, IsPointerRight}
use Rattle.lk_safe.specs.Owners.{IsAt}
use Rattle.lk_sound.proofs.GrownRight.{Keeps}
use Rattle.lk_trails.specs.Named.{Means}
use Rattle.lk_types.specs.Walks.{is_void}
use Rattle.lk_types.specs.declared.c_type.CType.{CType}
use Rattle.lk_types.specs.declared.node.Sel.TheVariants.{Target}
use Rattle.lk_values.specs.declared.cell.Cell.{Cell}
use Rattle.lk_values.specs.declared.cell.Pointer.{Pointer as PointerTo}
use Rattle.lk_values.specs.declared.value.Value.TheVariants.{Pointer}
use Rattle.lk_sound.proofs.Touching.{target_number, origin_known}

-- the operand a points to the cell: in the context c the label of what it points to means the place of the cell
pub record PointsAt (basis : Basis) (es : List Edge) (homes : List Home) (cell : Cell) (a : ℕ) (c : List ℕ) : Type 0 where
  pub label : ℕ
  pub leads : target_at basis.labels a ≡ Some label
  pub origin : ℕ
  pub context : List ℕ
  pub place : IsAt basis homes cell origin context
  pub is_origin : is_origin_at basis.labels origin ≡ true
  pub means : Means basis.labels es origin context label c

module _ (basis : Basis) (es : List Edge) (ok : IsAnalysed basis.program basis.labels es) where
  -- a pointer that is right for an operand, and leads to its Target, does so
  pub pointer_means : (homes : List Home) (a : ℕ) (c : List ℕ) (at : PointerTo) (right : IsPointerRight basis.program basis.labels es homes at (value basis.program a) c) →
      IsPart basis.program right.held_by Target right.aim → PointsAt basis es homes at.part a c
  pointer_means homes a c at right leads = record {
    label = right.flows.to;
    leads = target_number basis.program basis.labels es ok a right.flows.to right.aim (right.held_by, right.is, leads) right.flows.to_at;
    origin = right.flows.from;
    context = right.home.context;
    place = record { home = right.home; lives_in = right.lives_in; context = refl; name = right.origin; named = right.flows.from_at; place = right.place };
    is_origin = origin_known basis.program basis.labels es ok right.flows.from right.home.root at.part.path right.origin right.flows.from_at right.place;
    means = Means.flows right.flows.walk;
  }

  -- a cell is at one place
  pub one_at : (homes : List Home) (cell : Cell) (o q : ℕ) (h k : List ℕ) → IsAt basis homes cell o h → IsAt basis homes cell q k → (o ≡ q) × (h ≡ k)
  one_at homes cell o q h k first second =
      let home : first.home ≡ second.home = same_Some first.home second.home (sym first.lives_in ∙ second.lives_in) in
      let place : IsPlaceAt basis.program second.home.root cell.path first.name = subst (λ (x : Home). IsPlaceAt basis.program x.root cell.path first.name) home first.place in
      let name : first.name ≡ second.name = one_place basis.program second.home.root cell.path first.name second.name place second.place in (
        ok.labelled.different o q second.name (subst (λ x. slice_get basis.labels.names o ≡ Some x) name first.named) second.named,
        sym first.context ∙ (ap (λ (x : Home). x.context) home ∙ second.context),
      )

  -- so the place of a cell to which the operand points is an origin, which the label of what it points to means
  pub means_place : (homes : List Home) (cell : Cell) (a o : ℕ) (c h : List ℕ) (points : PointsAt basis es homes cell a c) → IsAt basis homes cell o h →
      (is_origin_at basis.labels o ≡ true) × Means basis.labels es o h points.label c
  means_place homes cell a o c h points at =
      let same = one_at homes cell points.origin o points.context h points.place at in (
        subst (λ x. is_origin_at basis.labels x ≡ true) same.0 points.is_origin,
        subst (λ x. Means basis.labels es x h points.label c) same.0 (subst (λ x. Means basis.labels es points.origin x points.label c) same.1 points.means),
      )

-- a cell stays where it is, where homes come
pub at_later : (basis : Basis) (homes later : List Home) → Keeps homes later → (cell : Cell) (o : ℕ) (h : List ℕ) → IsAt basis homes cell o h → IsAt basis later cell o h
at_later basis homes later keeps cell o h at = record { home = at.home; lives_in = keeps cell.object at.home at.lives_in; context = at.context; name = at.name; named = at.named; place = at.place }

-- of a thread that performs an action: an operand that points to a type other than void points to the cell
pub operand_means : (basis : Basis) (es : List Edge) (contexts : Contexts) (s : State) (t w f : ℕ) (thread : Thread) (cs : List (List ℕ)) (c : List ℕ) (action : Action) (made : Change) →
    Acts basis.program basis.labels es contexts s t w f thread cs c action made → (a : ℕ) (at : PointerTo) (form : CType) → operand thread a ≡ Some (Pointer at) →
    PointsToForm basis.program a form → is_void form ≡ false →
    PointsAt basis es contexts.homes at.part a c
operand_means basis es contexts s t w f thread cs c action made acts a at form given points plain =
    let right : IsPointerRight basis.program basis.labels es contexts.homes at (value basis.program a) c =
    operand_right basis.program basis.labels es contexts s t w f thread cs c action made acts a (Pointer at) given (has_pointer basis.program basis.labels es acts.ok a points.0 points.1) in
    pointer_means basis es acts.ok contexts.homes a c at right (sees_form basis.program basis.labels es acts.ok contexts.homes a c at right form points plain)
