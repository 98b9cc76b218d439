-- To what an operand leads: its aim is its Target, where that is of no type void.
use Rattle.std.proofs.Common.{◌≡◌, ℕ, false, List, Some, inl, inr, refl, sym, ap, subst, ◌∙◌}
use Rattle.std.proofs.lemmas.Bool.{false≢true}
use Rattle.std.specs.Prelude.{unwrap_or}
use Rattle.lk_facts.specs.EdgeRules.{value}
use Rattle.lk_facts.specs.LabelRules.{IsPart}
use Rattle.lk_facts.specs.Labels.{LabelTable, name_with}
use Rattle.lk_facts.specs.Program.{value_type_at}
use Rattle.lk_facts.specs.Typed.{IsForm, GivesForm, Gives, GivesScalar, PointsTo, PointsToForm}
use Rattle.lk_facts.specs.declared.edge.Edge.{Edge}
use Rattle.lk_facts.specs.declared.label_entry.LabelName.{LabelName}
use Rattle.lk_facts.specs.declared.program.Program.{Program}
use Rattle.lk_facts.specs.declared.root.Holder.TheVariants.{Point}
use Rattle.lk_laws.proofs.AlikeEdges.{one_type}
use Rattle.lk_laws.proofs.AlikeTypes.{known_form}
use Rattle.lk_laws.proofs.VoidNodes.{void_too}
use Rattle.lk_laws.specs.FlowLaws.{type_of}
use Rattle.lk_laws.specs.RowLaws.{HasPointer}
use Rattle.lk_right.specs.Contexts.{Home}
use Rattle.lk_right.specs.Laws.{IsAnalysed}
use Rattle.lk_right.specs.Right.{IsAim, IsPointerRight}
use Rattle.lk_right.specs.Right.IsAim.{typed, untyped}
use Rattle.lk_types.proofs.NodeLemmas.{first_id, first_node, first_is_node}
use Rattle.lk_types.specs.Nodes.{Node}
use Rattle.lk_types.specs.Table.{type_at}
use Rattle.lk_types.specs.Walks.{is_void}
use Rattle.lk_types.specs.declared.c_type.CType.{CType}
use Rattle.lk_types.specs.declared.c_type.CType.TheVariants.{Void, ThreadId, Pointer as PointerType}
use Rattle.lk_types.specs.declared.node.Base.TheVariants.{Start}
use Rattle.lk_types.specs.declared.node.Sel.TheVariants.{Target}
use Rattle.lk_values.specs.declared.cell.Pointer.{Pointer as PointerTo}

module _ (program : Program) where
  form_void : (t : ℕ) (form : CType) → IsForm program.types t form → is_void (type_at program.types t) ≡ is_void form
  form_void t form at = ap (λ o. is_void (unwrap_or o Void)) at

  -- an aim is a Target, where the pointer leads to no void
  pub aim_seen : (x y : LabelName) (v u : ℕ) → IsForm program.types (type_of program x) (PointerType u) → is_void (type_at program.types u) ≡ false → IsAim program x v y → IsPart program x Target y
  aim_seen x y v u form no_void (typed t pointer alike part) = part
  aim_seen x y v u form no_void (untyped t z pointer void part inside) =
      absurd (false≢true (sym no_void ∙ (ap (λ k. is_void (type_at program.types k)) (one_pointer u t (sym form ∙ pointer)) ∙ void)))
    where
      one_pointer : (a b : ℕ) → Some (PointerType a) ≡ Some (PointerType b) → a ≡ b
      one_pointer a b h = cc

module _ (program : Program) (labels : LabelTable) (es : List Edge) (ok : IsAnalysed program labels es) where
  -- what holds the value of a point has the type of that value
  pub value_type_is : (a t : ℕ) → value_type_at program a ≡ Some t → (x : LabelName) → value program a x → type_of program x ≡ t
  value_type_is a t gives x w = ap (λ (n : Node). n.type) w.start.first ∙ one_type program ok.table ok.lowered (Point a) w.ty t w.has gives

  pub value_form : (a : ℕ) (form : CType) → GivesForm program a form → (x : LabelName) → value program a x → IsForm program.types (type_of program x) form
  value_form a form gives x w = subst (λ t. IsForm program.types t form) (sym (value_type_is a gives.0 gives.1 x w)) gives.2

  -- a point that gives a pointer has a value that is one
  pub has_pointer : (p u : ℕ) → GivesForm program p (PointerType u) → HasPointer program (value program p)
  has_pointer p u gives =
      let known = known_form program.types ok.table gives.0 (PointerType u) gives.2 in
      let x : LabelName = name_with (Point p) (first_id (Start gives.0)) in
      let is : value program p x = record {
        holder = refl;
        ty = gives.0;
        has = gives.1;
        start = record { node = first_is_node program.types (Start gives.0) known; first = first_node program.types (Start gives.0) };
      } in
      (x, is, (u, value_form p (PointerType u) gives x is))

  module _ (homes : List Home) (a : ℕ) (c : List ℕ) (at : PointerTo) (right : IsPointerRight program labels es homes at (value program a) c) where
    -- a pointer of a point leads to the Target of the point's value, where it is one to no void
    pub sees : (u : ℕ) → GivesForm program a (PointerType u) → is_void (type_at program.types u) ≡ false → IsPart program right.held_by Target right.aim
    sees u gives no_void = aim_seen program right.held_by right.aim (type_of program right.origin) u (value_form a (PointerType u) gives right.held_by right.is) no_void right.aims

    pub sees_type : (t : ℕ) → PointsTo program a t → is_void (type_at program.types t) ≡ false → IsPart program right.held_by Target right.aim
    sees_type t points no_void = sees points.0 points.1 (void_too program.types ok.table points.0 t points.2 ∙ no_void)

    pub sees_form : (form : CType) → PointsToForm program a form → is_void form ≡ false → IsPart program right.held_by Target right.aim
    sees_form form points no_void = sees points.0 points.1 (form_void program points.0 form points.2 ∙ no_void)

  -- the type of a scalar isn't void
  pub scalar_no_void : (p t : ℕ) → Gives program p t → GivesScalar program p → is_void (type_at program.types t) ≡ false
  scalar_no_void p t gives scalar = sym (void_too program.types ok.table gives.0 t gives.2) ∙ of scalar
    where
      by_form : (form : CType) → GivesForm program p form → is_void form ≡ false → is_void (type_at program.types gives.0) ≡ false
      by_form form has no_void = ap (λ k. is_void (type_at program.types k)) (one_type program ok.table ok.lowered (Point p) gives.0 has.0 gives.1 has.1) ∙ (form_void program has.0 form has.2 ∙ no_void)

      of : GivesScalar program p → is_void (type_at program.types gives.0) ≡ false
      of (inl number) = by_form _ number.1 refl
      of (inr (inl pointer)) = by_form (PointerType pointer.0) pointer.1 refl
      of (inr (inr thread)) = by_form ThreadId thread refl
