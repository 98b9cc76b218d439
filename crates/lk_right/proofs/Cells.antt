-- Cells that are read and written, and the objects of roots.
use Rattle.std.proofs.Common.{◌≡◌, ℕ, Bool, List, Some, refl, sym, ap, subst, ◌∙◌}
use Rattle.lk_base.specs.declared.cell.CellStep.{CellStep}
use Rattle.lk_cells.specs.Cells.{value_at}
use Rattle.lk_cells.specs.declared.object.Object.{Object}
use Rattle.lk_facts.specs.EdgeRules.{value, target}
use Rattle.lk_facts.specs.EdgeRules.IsEdge.{row}
use Rattle.lk_facts.specs.LabelRules.{IsPart, IsWithin}
use Rattle.lk_facts.specs.LabelRules.IsWithin.{start as within_start, part as within_part}
use Rattle.lk_facts.specs.Labels.{LabelTable, name_with}
use Rattle.lk_facts.specs.Program.{action_at, function_at}
use Rattle.lk_facts.specs.Typed.{IsHolderType, IsRootType}
use Rattle.lk_facts.specs.declared.action.Action.TheVariants as action
use Rattle.lk_facts.specs.declared.edge.Edge.{Edge}
use Rattle.lk_facts.specs.declared.edge.Mark.TheVariants.{Plain}
use Rattle.lk_facts.specs.declared.label_entry.LabelName.{LabelName}
use Rattle.lk_facts.specs.declared.program.Program.{Program}
use Rattle.lk_facts.specs.declared.root.Root.{Root as RootOf}
use Rattle.lk_facts.specs.declared.root.Holder.TheVariants.{Point}
use Rattle.lk_laws.proofs.RowEnds.{rows_give}
use Rattle.lk_right.proofs.Carrying.{carried}
use Rattle.lk_right.proofs.Carrying.Crosses.{stays}
use Rattle.lk_right.proofs.Meeting.{held_on, held_back}
use Rattle.lk_right.specs.Contexts.{Home}
use Rattle.lk_right.specs.Laws.{IsAnalysed}
use Rattle.lk_right.specs.Right.{IsPlaceAt, IsPointerRight, IsRight}
use Rattle.lk_right.specs.Sound.{IsObjectSound}
use Rattle.lk_types.proofs.PathLemmas.{equal_nodes_have_equal_ids}
use Rattle.lk_cells.specs.Parts.{node_along}
use Rattle.lk_types.specs.declared.node.Base.TheVariants.{Start}
use Rattle.lk_types.specs.Nodes.{Node, IsNode, node_of, first}
use Rattle.lk_types.specs.declared.node.NodeId.{NodeId}
use Rattle.lk_types.specs.declared.node.Sel.TheVariants.{Target}
use Rattle.lk_values.specs.declared.cell.Pointer.{Pointer as PointerTo}
use Rattle.lk_values.specs.declared.value.Value.{Value}

one_node : (x y : Node) → Some x ≡ Some y → x ≡ y
one_node x y h = cc

same_name : (x y : LabelName) → x.holder ≡ y.holder → x.node ≡ y.node → x ≡ y
same_name x y h k = ap (λ h. name_with h x.node) h ∙ ap (λ n. name_with y.holder n) k

module _ (program : Program) where
  pub within_node : {t : ℕ} {n : NodeId} → IsWithin program.types t n → IsNode program.types n
  within_node (within_start n at) = at.node
  within_node (within_part m n s within leads steps) = steps.node

  pub root_type_is : (r s t : ℕ) → IsRootType program r s → IsRootType program r t → s ≡ t
  root_type_is r s t h k = sym h.2 ∙ (ap (λ root. root.ty) (same_root h.0 k.0 (sym h.1 ∙ k.1)) ∙ k.2)
    where
      same_root : (x y : RootOf) → Some x ≡ Some y → x ≡ y
      same_root x y h = cc

  -- a part has one place
  pub one_place : (r : ℕ) (path : List CellStep) (x y : LabelName) → IsPlaceAt program r path x → IsPlaceAt program r path y → x ≡ y
  one_place r path x y h k =
      let types = root_type_is r k.ty h.ty k.of h.of in
      let leads = subst (λ t. node_along program.types (first (Start t)) path ≡ Some (node_of program.types y.node)) types k.leads in
      same_name x y (h.holder ∙ sym k.holder) (equal_nodes_have_equal_ids program.types x.node y.node (within_node h.within) (within_node k.within) (one_node _ _ (sym h.leads ∙ leads)))

  value_type_is : (p s t : ℕ) → IsHolderType program (Point p) s → IsHolderType program (Point p) t → s ≡ t
  value_type_is p s t h k = cc

  -- a point has one value, which points to one thing
  one_value : (p : ℕ) (x y : LabelName) → value program p x → value program p y → x ≡ y
  one_value p x y h k =
      let types = value_type_is p k.ty h.ty k.has h.has in
      let starts = subst (λ t. node_of program.types y.node ≡ first (Start t)) types k.start.first in
      same_name x y (h.holder ∙ sym k.holder) (equal_nodes_have_equal_ids program.types x.node y.node h.start.node k.start.node (h.start.first ∙ sym starts))

  pub one_target : (p : ℕ) (x y : LabelName) → target program p x → target program p y → x ≡ y
  one_target p x y h k =
      let part = subst (λ z. IsPart program z Target y) (one_value p k.0 h.0 k.1 h.1) k.2 in
      same_name x y (h.2.holder ∙ sym part.holder) (equal_nodes_have_equal_ids program.types x.node y.node h.2.steps.node part.steps.node (one_node _ _ (sym h.2.steps.leads ∙ part.steps.leads)))

module _ (program : Program) (labels : LabelTable) (es : List Edge) (ok : IsAnalysed program labels es) (homes : List Home) (p f a : ℕ) (c : List ℕ) (stands : function_at program p ≡ Some f) (at : PointerTo)
    (right : IsPointerRight program labels es homes at (value program a) c) (typed : IsPart program right.held_by Target right.aim) where
  there : target program a right.aim
  there = (right.held_by, right.is, typed)

  only_there : (z : LabelName) → target program a z → z ≡ right.aim
  only_there z h = one_target program a z right.aim h there

  only_place : (z : LabelName) → IsPlaceAt program right.home.root at.part.path z → z ≡ right.origin
  only_place z h = one_place program right.home.root at.part.path z right.origin h right.place

  -- what is read from a cell is right for the point that reads it
  pub read_right : (raw : Bool) → action_at program p ≡ Some (action.Read a raw) → (object : Object) → IsObjectSound program labels es homes right.home object → (v : Value) → value_at program.types object at.part.path ≡ Some v →
      IsRight program labels es homes v (value program p) c
  read_right raw reads object sound v is =
      let joins = (rows_give program ok.table ok.in_range ok.lowered).rows p f (action.Read a raw) reads stands in
      let in_cell = sound.cells at.part.path v is in
      let at_target = held_on program labels es ok right.origin right.aim right.home.context c right.flows (IsPlaceAt program right.home.root at.part.path) (target program a) homes only_place right.place only_there there v in_cell in
      carried program labels es ok Plain (target program a) (value program p) (λ u w x y. row p f (action.Read a raw) reads stands (refl, x, y)) joins homes stays v at_target

  -- what is written into a cell is right for the cell
  pub write_right : (b : ℕ) (raw : Bool) → action_at program p ≡ Some (action.Write a b raw) → (v : Value) → IsRight program labels es homes v (value program b) c →
      IsRight program labels es homes v (IsPlaceAt program right.home.root at.part.path) right.home.context
  write_right b raw writes v given =
      let joins = (rows_give program ok.table ok.in_range ok.lowered).rows p f (action.Write a b raw) writes stands in
      let at_target = carried program labels es ok Plain (value program b) (target program a) (λ u w x y. row p f (action.Write a b raw) writes stands (refl, x, y)) joins homes stays v given in
      held_back program labels es ok right.origin right.aim right.home.context c right.flows (IsPlaceAt program right.home.root at.part.path) (target program a) homes only_there there only_place right.place v at_target
