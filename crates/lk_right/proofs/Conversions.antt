-- Conversions of pointers: one that is right for the operand is right for the point, whether it is converted to its own type, to `void *`, or from
-- there to a pointer to the type of its part (C99 6.3.2.3, 1).
use Rattle.std.proofs.Common.{◌≡◌, ℕ, true, false, List, None, Some, refl, sym, ap, subst, ◌∙◌}
use Rattle.std.proofs.lemmas.Bool.{true≢false}
use Rattle.std.specs.List.{list_any}
use Rattle.std.specs.Prelude.{unwrap_or, if◌then◌else◌, ◌&&◌, ◌==◌}
use Rattle.lk_facts.specs.EdgeRules.{value, IsInside, IsEdge}
use Rattle.lk_facts.specs.EdgeRules.Converts.{same as converts_same, to_void as converts_to_void, from_void as converts_from_void}
use Rattle.lk_facts.specs.EdgeRules.IsEdge.{row}
use Rattle.lk_facts.specs.LabelRules.{is_function}
use Rattle.lk_facts.specs.Labels.{LabelTable}
use Rattle.lk_facts.specs.Program.{action_at, function_at}
use Rattle.lk_facts.specs.Typed.{IsForm, GivesForm, PointsTo, PointsToForm, IsObjectForm, IsObjectType}
use Rattle.lk_facts.specs.declared.action.Action.TheVariants as action
use Rattle.lk_facts.specs.declared.edge.Edge.{Edge}
use Rattle.lk_facts.specs.declared.edge.Mark.TheVariants.{Plain}
use Rattle.lk_facts.specs.declared.label_entry.LabelName.{LabelName}
use Rattle.lk_facts.specs.declared.program.Program.{Program}
use Rattle.lk_laws.proofs.AlikeEdges.{code_type, function_known}
use Rattle.lk_laws.proofs.AlikeTypes.{back, joined, known_form, target_known, target_step}
use Rattle.lk_laws.proofs.NodesThere.{function_too}
use Rattle.lk_laws.proofs.RowEnds.{rows_give}
use Rattle.lk_laws.proofs.VoidNodes.{void_too}
use Rattle.lk_laws.specs.FlowLaws.{type_of}
use Rattle.lk_right.proofs.Carrying.{flow_on, carried}
use Rattle.lk_right.proofs.Carrying.Crosses.{stays}
use Rattle.lk_right.proofs.Meeting.{alike_along}
use Rattle.lk_right.proofs.Pointers.{pointer_right}
use Rattle.lk_right.proofs.Sees.{sees, value_form}
use Rattle.lk_right.specs.Contexts.{Home}
use Rattle.lk_right.specs.Laws.{IsAnalysed}
use Rattle.lk_right.specs.Right.{IsAim, Flows, IsPointerRight, IsFunctionRight, IsRight}
use Rattle.lk_right.specs.Right.IsAim.{typed, untyped}
use Rattle.lk_types.specs.Equal.{IsAlike}
use Rattle.lk_types.specs.Equal.IsEqualBut.{same as equal, pointers, arrays, functions}
use Rattle.lk_types.specs.Nodes.{node_of, first, is_void_tag}
use Rattle.lk_types.specs.Table.{Table, IsKnown, type_at, least_of}
use Rattle.lk_types.specs.Walks.{is_void}
use Rattle.lk_types.specs.declared.c_type.CType.{CType}
use Rattle.lk_types.specs.declared.c_type.CType.TheVariants.{Void, Int, ThreadId, Mutex, Cond, Pointer, Array, Struct, Function, Opaque}
use Rattle.lk_types.specs.declared.node.Base.TheVariants.{Tag}
use Rattle.lk_types.specs.declared.node.Sel.TheVariants.{Part}
use Rattle.lk_values.specs.declared.cell.Pointer.{Pointer as PointerTo}
use Rattle.lk_values.specs.declared.value.Value.{Value}

one_pointed : (a b : ℕ) → Some (Pointer a) ≡ Some (Pointer b) → a ≡ b
one_pointed a b h = cc

-- an object is neither void nor a function
object_form : (form : CType) → IsObjectForm form → (is_void form ≡ false) × (is_function form ≡ false)
object_form Void h = absurd h
object_form (Int k) h = (refl, refl)
object_form ThreadId h = (refl, refl)
object_form Mutex h = (refl, refl)
object_form Cond h = (refl, refl)
object_form (Pointer t) h = (refl, refl)
object_form (Array t n) h = (refl, refl)
object_form (Struct n) h = (refl, refl)
object_form (Function result params dots) h = absurd h
object_form (Opaque n) h = (refl, refl)

pub object_type : (table : Table) (t : ℕ) → IsObjectType table t → (is_void (type_at table t) ≡ false) × (is_function (type_at table t) ≡ false)
object_type table t object =
    let forms = object_form object.0 object.2 in
    (ap (λ o. is_void (unwrap_or o Void)) object.1 ∙ forms.0, ap (λ o. is_function (unwrap_or o Void)) object.1 ∙ forms.1)

module _ (program : Program) (labels : LabelTable) (es : List Edge) (ok : IsAnalysed program labels es) where
  abbrev table : Table
  table = program.types

  abbrev Alike : ℕ → ℕ → Type 0
  Alike a b = IsAlike program.types.types a b

  abbrev ty : LabelName → ℕ
  ty x = type_of program x

  pub form_void : (t : ℕ) (form : CType) → IsForm table t form → is_void (type_at table t) ≡ is_void form
  form_void t form h = ap (λ o. is_void (unwrap_or o Void)) h

  pub form_function : (t : ℕ) (form : CType) → IsForm table t form → is_function (type_at table t) ≡ is_function form
  form_function t form h = ap (λ o. is_function (unwrap_or o Void)) h

  alike_known : {a b : ℕ} → Alike a b → IsKnown table a → IsKnown table b
  alike_known (equal e) known = subst (IsKnown table) e known
  alike_known (pointers {t = t} at bt h) known = known_form table ok.table _ (Pointer t) bt
  alike_known (arrays {t = t} {m = m} at bt h sizes) known = known_form table ok.table _ (Array t m) bt
  alike_known (functions {s = s} {qs = qs} {dots = dots} at bt h hs) known = known_form table ok.table _ (Function s qs dots) bt

  -- types that are equal but for the sizes of arrays have one Part
  part_for : (x y : LabelName) (t u : ℕ) → least_of table t ≡ least_of table u → IsInside program x (Part t) y → IsInside program x (Part u) y
  part_for x y t u least inside = record {
    inside = refl;
    part = record {
      holder = inside.part.holder;
      steps = record {
        node = inside.part.steps.node;
        leads = ap (λ l. if (is_void_tag table (node_of table x.node).base && list_any (λ v. v == l) table.parts) then Some (first (Tag l)) else None) (sym least) ∙ inside.part.steps.leads;
      };
    };
  }

  least_one : (t u : ℕ) → Alike t u → IsKnown table u → least_of table t ≡ least_of table u
  least_one t u alike known = (ok.table.alike t u (alike_known (back table.types alike) known) known).0 alike

  module _ (homes : List Home) where
    -- a pointer to what isn't a function leads to none
    pub no_function : (a g u : ℕ) (c : List ℕ) → GivesForm program a (Pointer u) → is_function (type_at table u) ≡ false → IsFunctionRight program labels es homes g (value program a) c → ⊥
    no_function a g u c gives plain right =
        let own = ok.lowered.functions g (function_known program ok.table ok.lowered g right.place.0 right.place.1) in
        let form = code_type program ok.table ok.lowered g (Function own.result own.params own.dots) own.of right.origin right.place in
        let one = one_pointed right.aims.t u (sym right.aims.pointer ∙ value_form program labels es ok a (Pointer u) gives right.held_by right.is) in
        let is : is_function (type_at table (ty right.origin)) ≡ true = function_too table ok.table (ty right.origin) form.0 form.1 ∙ form_function form.0 (Function own.result own.params own.dots) form.2 in
        let not_so : is_function (type_at table (ty right.origin)) ≡ false = function_too table ok.table (ty right.origin) right.aims.t right.aims.alike ∙ (ap (λ k. is_function (type_at table k)) one ∙ plain) in
        true≢false (sym is ∙ not_so)

    -- the place of what a pointer points to has the type to which it leads
    pub origin_type : (a : ℕ) (c : List ℕ) (at : PointerTo) (right : IsPointerRight program labels es homes at (value program a) c) (u : ℕ) → GivesForm program a (Pointer u) → is_void (type_at table u) ≡ false → Alike (ty right.origin) u
    origin_type a c at right u gives plain =
        let leads = sees program labels es ok homes a c at right u gives plain in
        let points = target_step table ok.table (node_of table right.held_by.node) (node_of table right.aim.node) leads.steps.leads in
        let along = alike_along program labels es ok right.flows.walk right.origin right.aim right.flows.from_at right.flows.to_at in
        let one = one_pointed points.to u (sym points.pointer ∙ value_form program labels es ok a (Pointer u) gives right.held_by right.is) in
        subst (Alike (ty right.origin)) one (joined table.types along points.alike)

    -- ---- conversions of pointers

    module _ (p f a to : ℕ) (c : List ℕ) (stands : function_at program p ≡ Some f) (converts : action_at program p ≡ Some (action.Convert a to)) where
      -- to a type that is equal but for the sizes of arrays
      pub same_right : (t : ℕ) → PointsTo program a t → PointsTo program p t → (v : Value) → IsRight program labels es homes v (value program a) c → IsRight program labels es homes v (value program p) c
      same_right t from into v right =
          let alike : Alike from.1.0 into.1.0 = pointers from.1.2 into.1.2 (joined table.types from.2 (back table.types into.2)) in
          let joins = ((rows_give program ok.table ok.in_range ok.lowered).rows p f (action.Convert a to) converts stands).same from.1.0 into.1.0 from.1.1 into.1.1 alike in
          carried program labels es ok Plain (value program a) (value program p)
          (λ u w x y. row p f (action.Convert a to) converts stands (converts_same from.1.0 into.1.0 from.1.1 into.1.1 alike (refl, x, y))) joins homes stays v right

      -- to `void *`
      pub to_void_right : (at : PointerTo) → IsPointerRight program labels es homes at (value program a) c → (u : ℕ) → GivesForm program a (Pointer u) → is_void (type_at table u) ≡ false → PointsToForm program p Void →
          IsPointerRight program labels es homes at (value program p) c
      to_void_right at right u gives plain points =
          let leads = sees program labels es ok homes a c at right u gives plain in
          let joins = ((rows_give program ok.table ok.in_range ok.lowered).rows p f (action.Convert a to) converts stands).to_void u gives points plain in
          let y = joins.1.0 in
          let part = joins.1.1 in
          let v = part.0 in
          let held = part.1 in
          let edge : IsEdge program right.aim y Plain = row p f (action.Convert a to) converts stands (converts_to_void u gives points (refl, (right.held_by, right.is, leads), part)) in
          let least = least_one (ty right.origin) u (origin_type a c at right u gives plain) (target_known table ok.table gives.0 u gives.2) in
          let form = value_form program labels es ok p (Pointer points.0) points.1 held.0 held.1 in
          record {
            home = right.home;
            lives_in = right.lives_in;
            origin = right.origin;
            place = right.place;
            held_by = held.0;
            is = held.1;
            aim = y;
            aims = untyped points.0 v form (form_void points.0 Void points.2) held.2 (part_for v y u (ty right.origin) (sym least) part.2);
            flows = flow_on program labels es ok right.flows edge stays;
          }

      -- from `void *`, where the pointer is one to a part of the type
      pub from_void_right : (at : PointerTo) (right : IsPointerRight program labels es homes at (value program a) c) → PointsToForm program a Void → (t : ℕ) → GivesForm program p (Pointer t) → is_void (type_at table t) ≡ false → Alike (ty right.origin) t →
          IsPointerRight program labels es homes at (value program p) c
      from_void_right at right points t gives plain alike = by right.aim right.aims right.flows
        where
          held_form : IsForm table (ty right.held_by) (Pointer points.0)
          held_form = value_form program labels es ok a (Pointer points.0) points.1 right.held_by right.is

          by : (aim : LabelName) → IsAim program right.held_by (ty right.origin) aim → Flows program labels es right.origin right.home.context aim c → IsPointerRight program labels es homes at (value program p) c
          by aim (typed s form alike_s part) flows =
              let void : is_void (type_at table s) ≡ true = ap (λ k. is_void (type_at table k)) (one_pointed s points.0 (sym form ∙ held_form)) ∙ form_void points.0 Void points.2 in
              absurd (true≢false (sym void ∙ (sym (void_too table ok.table (ty right.origin) s alike_s) ∙ (void_too table ok.table (ty right.origin) t alike ∙ plain))))
          by aim (untyped s v form void part inner) flows =
              let known = target_known table ok.table gives.0 t gives.2 in
              let own = part_for v aim (ty right.origin) t (least_one (ty right.origin) t alike known) inner in
              let joins = ((rows_give program ok.table ok.in_range ok.lowered).rows p f (action.Convert a to) converts stands).from_void t points gives plain in
              let edge : IsEdge program aim joins.1.0 Plain = row p f (action.Convert a to) converts stands (converts_from_void t points gives (refl, (v, (right.held_by, right.is, part), own), joins.1.1)) in
              pointer_right program labels es ok homes at p c right.home right.lives_in right.origin aim joins.1.0 right.place flows joins.1.1 edge
