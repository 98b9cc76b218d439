-- Pointers to roots, members and elements.
use Rattle.std.proofs.Common.{◌≡◌, ℕ, true, List, [], ◌∷◌, ◌++◌, Some, refl, subst}
use Rattle.std.specs.List.{slice_get}
use Rattle.std.specs.Prelude.{not}
use Rattle.lk_base.specs.declared.cell.CellStep.{CellStep}
use Rattle.lk_base.specs.declared.cell.CellStep.TheVariants as to
use Rattle.lk_cells.specs.Parts.{sel_of}
use Rattle.lk_facts.specs.EdgeRules.{In, value, target, place, IsInside, IsEdge}
use Rattle.lk_facts.specs.EdgeRules.IsEdge.{row}
use Rattle.lk_facts.specs.LabelRules.{IsPart, Steps, form_of, leads_inside}
use Rattle.lk_facts.specs.LabelRules.IsWithin.{part as within_part}
use Rattle.lk_facts.specs.Labels.{LabelTable, name_with}
use Rattle.lk_facts.specs.Program.{action_at, function_at}
use Rattle.lk_facts.specs.declared.action.Action.TheVariants as action
use Rattle.lk_facts.specs.declared.edge.Edge.{Edge}
use Rattle.lk_facts.specs.declared.edge.Mark.TheVariants.{Plain}
use Rattle.lk_facts.specs.declared.label_entry.LabelName.{LabelName}
use Rattle.lk_facts.specs.declared.program.Program.{Program}
use Rattle.lk_laws.proofs.AlikeTypes.{back, joined, target_step}
use Rattle.lk_laws.proofs.EdgeEnds.{label_there, label_part, join_labels, inside_to_place}
use Rattle.lk_laws.proofs.NodesThere.{element_too, field_too_there, function_too}
use Rattle.lk_laws.proofs.RowEnds.{rows_give}
use Rattle.lk_laws.specs.FlowLaws.{type_of}
use Rattle.lk_right.proofs.Carrying.{numbered, flow_on}
use Rattle.lk_right.proofs.Carrying.Crosses.{stays}
use Rattle.lk_right.proofs.Cells.{one_target, within_node}
use Rattle.lk_right.proofs.Paths.{along_step}
use Rattle.lk_laws.proofs.Inside.{walks_go_inside}
use Rattle.lk_right.proofs.Meeting.{alike_along, labelled}
use Rattle.lk_right.specs.Contexts.{Home}
use Rattle.lk_right.specs.Laws.{IsAnalysed}
use Rattle.lk_right.specs.Right.{IsPlaceAt, Flows, IsPointerRight}
use Rattle.lk_right.specs.Right.IsAim.{typed}
use Rattle.lk_types.specs.Equal.{IsAlike}
use Rattle.lk_types.specs.Nodes.{node_of, first}
use Rattle.lk_types.specs.Objects.{stays_inside}
use Rattle.lk_types.specs.Table.{Table}
use Rattle.lk_types.specs.declared.node.Base.TheVariants.{Start}
use Rattle.lk_types.specs.declared.node.NodeId.{NodeId}
use Rattle.lk_types.specs.declared.node.Sel.TheVariants.{Target}
use Rattle.lk_values.specs.Pointers.{pointer_to, into_member}
use Rattle.lk_values.specs.declared.cell.Pointer.{Pointer as PointerTo}

module _ (program : Program) (labels : LabelTable) (es : List Edge) (ok : IsAnalysed program labels es) (homes : List Home) where
  abbrev table : Table
  table = program.types

  -- a pointer is right for the point to whose target an edge leads from where the place of its part flows
  pub pointer_right : (at : PointerTo) (p : ℕ) (c : List ℕ) (home : Home) → slice_get homes at.part.object ≡ Some home → (origin x y : LabelName) → IsPlaceAt program home.root at.part.path origin →
      Flows program labels es origin home.context x c → target program p y → IsEdge program x y Plain → IsPointerRight program labels es homes at (value program p) c
  pointer_right at p c home there origin x y place flows is edge =
      let points = target_step table ok.table (node_of table is.0.node) (node_of table y.node) is.2.steps.leads in
      let on = flow_on program labels es ok flows edge stays in
      let alike = alike_along program labels es ok on.walk origin y on.from_at on.to_at in
      record { home = home; lives_in = there; origin = origin; place = place; held_by = is.0; is = is.1; aim = y; aims = typed points.to points.pointer (joined table.types alike points.alike) is.2; flows = on }

  -- A pointer goes into a part of what it points to: an edge leads from the part of its aim.
  module _ (p a : ℕ) (c : List ℕ) (at : PointerTo) (right : IsPointerRight program labels es homes at (value program a) c) (leads : IsPart program right.held_by Target right.aim) (st : CellStep) (inner : stays_inside (sel_of st) ≡ true) where
    other : (s : NodeId) → Steps table right.aim.node (sel_of st) s → IsAlike table.types (type_of program right.aim) (type_of program right.origin) → (n : NodeId) × Steps table right.origin.node (sel_of st) n
    other s steps alike = by st steps
      where
        by : (st : CellStep) → Steps table right.aim.node (sel_of st) s → (n : NodeId) × Steps table right.origin.node (sel_of st) n
        by (to.Field k) steps = field_too_there table ok.table right.aim.node right.origin.node k s (within_node program right.place.within) alike steps
        by (to.Index i) steps = element_too table ok.table right.aim.node right.origin.node s (within_node program right.place.within) alike steps

    inside_too : leads_inside (form_of table right.aim.node) (sel_of st) ≡ true → IsAlike table.types (type_of program right.aim) (type_of program right.origin) → leads_inside (form_of table right.origin.node) (sel_of st) ≡ true
    inside_too h alike = by st h
      where
        by : (st : CellStep) → leads_inside (form_of table right.aim.node) (sel_of st) ≡ true → leads_inside (form_of table right.origin.node) (sel_of st) ≡ true
        by (to.Field k) h = subst (λ b. not b ≡ true) (function_too table ok.table (type_of program right.aim) (type_of program right.origin) alike) h
        by (to.Index i) h = refl

    pub part_right : (x y : LabelName) → In program (target program a) (sel_of st) x → target program p y → IsEdge program x y Plain → IsPointerRight program labels es homes (pointer_to at.part.object (at.part.path ++ st ∷ [])) (value program p) c
    part_right x y is ends edge =
        let flows = right.flows in
        let same = one_target program a is.0 right.aim is.1 (right.held_by, right.is, leads) in
        let in_aim : IsInside program right.aim (sel_of st) x = subst (λ z. IsInside program z (sel_of st) x) same is.2 in
        let alike = back table.types (alike_along program labels es ok flows.walk right.origin right.aim flows.from_at flows.to_at) in
        let node = other x.node in_aim.part.steps alike in
        let origin = name_with right.origin.holder node.0 in
        let form = inside_too in_aim.inside alike in
        let in_origin : IsInside program right.origin (sel_of st) origin = record { inside = form; part = record { holder = refl; steps = node.1 } } in
        let origin_label = label_part program (label_there program right.origin (labelled program labels es ok flows.from right.origin flows.from_at)) (inside_to_place (form_of table right.origin.node) (sel_of st) form) in_origin.part in
        let from = numbered program labels es ok origin origin_label in
        let to_x = numbered program labels es ok x (join_labels program x y Plain edge).0 in
        let walk = walks_go_inside program ok.table ok.lowered labels ok.labelled ok.few_labels es ok.joined flows.from flows.to right.home.context c flows.walk (sel_of st) from.0 to_x.0
        (record { whole = right.origin; field = origin; whole_at = flows.from_at; field_at = from.1; stays = inner; leads = in_origin })
        (record { whole = right.aim; field = x; whole_at = flows.to_at; field_at = to_x.1; stays = inner; leads = in_aim }) in
        let place : IsPlaceAt program right.home.root (at.part.path ++ st ∷ []) origin = record {
          ty = right.place.ty;
          of = right.place.of;
          holder = right.place.holder;
          within = within_part right.origin.node node.0 (sel_of st) right.place.within form node.1;
          leads = along_step table (first (Start right.place.ty)) (node_of table right.origin.node) (node_of table node.0) at.part.path st right.place.leads node.1.leads;
        } in
        pointer_right (pointer_to at.part.object (at.part.path ++ st ∷ [])) p c right.home right.lives_in origin x y place (record { from = from.0; to = to_x.0; from_at = from.1; to_at = to_x.1; walk = walk }) ends edge

  -- the pointer to a member
  pub field_right : (p f a k : ℕ) (c : List ℕ) → function_at program p ≡ Some f → action_at program p ≡ Some (action.Field a k) → (at : PointerTo) (right : IsPointerRight program labels es homes at (value program a) c) →
      IsPart program right.held_by Target right.aim → IsPointerRight program labels es homes (into_member at k) (value program p) c
  field_right p f a k c stands fields at right leads =
      let joins = (rows_give program ok.table ok.in_range ok.lowered).rows p f (action.Field a k) fields stands in
      part_right p a c at right leads (to.Field k) refl joins.0.0 joins.1.0 joins.0.1 joins.1.1 (row p f (action.Field a k) fields stands (refl, joins.0.1, joins.1.1))
