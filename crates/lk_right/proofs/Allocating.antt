-- Objects that are allocated: the pointer to one is right.
use Rattle.std.proofs.Common.{◌≡◌, ℕ, Bool, true, false, List, [], ◌∷◌, ◌++◌, length, Option, None, Some, refl, sym, ap, subst, ◌∙◌}
use Rattle.std.specs.List.{slice_get}
use Rattle.std.specs.Option.{option_and_then}
use Rattle.std.specs.Prelude.{unwrap_or, if◌then◌else◌, nat_eq, ◌||◌}
use Rattle.lk_base.specs.declared.cell.CellStep.{CellStep}
use Rattle.lk_base.specs.declared.cell.CellStep.TheVariants.{Index}
use Rattle.lk_cells.specs.Operands.{operand, number_in}
use Rattle.lk_cells.specs.declared.state.State.{State}
use Rattle.lk_cells.specs.declared.state.Thread.{Thread}
use Rattle.lk_change.specs.Births.{allocates, bears, count_of, first_of}
use Rattle.lk_change.specs.Going.{gives}
use Rattle.lk_change.specs.declared.change.Change.{Change}
use Rattle.lk_change.specs.declared.change.Effect.TheVariants as effect
use Rattle.lk_facts.specs.EdgeRules.{IsInside, value, allocated, IsEdge}
use Rattle.lk_facts.specs.EdgeRules.IsEdge.{row}
use Rattle.lk_facts.specs.LabelRules.IsWithin.{start as within_start, part as within_part}
use Rattle.lk_facts.specs.Labels.{LabelTable}
use Rattle.lk_facts.specs.Program.{action_at, function_at}
use Rattle.lk_facts.specs.Typed.{IsForm, IsAllocated, IsRootType}
use Rattle.lk_facts.specs.Walks.Walk.{start}
use Rattle.lk_facts.specs.declared.action.Action.TheVariants as does
use Rattle.lk_facts.specs.declared.edge.Edge.{Edge}
use Rattle.lk_facts.specs.declared.edge.Mark.TheVariants.{Plain}
use Rattle.lk_facts.specs.declared.label_entry.LabelName.{LabelName}
use Rattle.lk_facts.specs.declared.program.Program.{Program}
use Rattle.lk_facts.specs.declared.root.Holder.TheVariants.{Point as PointHolder}
use Rattle.lk_laws.proofs.AlikeEdges.{one_type}
use Rattle.lk_laws.proofs.AlikeTypes.{element_step}
use Rattle.lk_laws.proofs.EdgeEnds.{join_labels}
use Rattle.lk_laws.proofs.RowEnds.{rows_give}
use Rattle.lk_laws.specs.FlowLaws.{type_of}
use Rattle.lk_right.proofs.Carrying.{numbered, flow_on}
use Rattle.lk_right.proofs.Carrying.Crosses.{stays}
use Rattle.lk_right.proofs.Cells.{root_type_is}
use Rattle.lk_right.proofs.Doing.{Acts, typed, get_last, goes_right}
use Rattle.lk_right.proofs.Paths.{along_step}
use Rattle.lk_right.specs.Changes.{IsChangeRight}
use Rattle.lk_right.specs.Contexts.{Home, Contexts, home_of}
use Rattle.lk_right.specs.Laws.{IsAnalysed}
use Rattle.lk_right.specs.Right.{IsPlaceAt, IsPointerRight}
use Rattle.lk_right.specs.Right.IsAim.{untyped}
use Rattle.lk_types.specs.Nodes.{Node, node_of, first}
use Rattle.lk_types.specs.Table.{Table}
use Rattle.lk_types.specs.Walks.{is_void}
use Rattle.lk_types.specs.declared.c_type.CType.TheVariants.{Void, Array, Pointer as PointerType}
use Rattle.lk_types.specs.declared.node.Base.TheVariants.{Start}
use Rattle.lk_types.specs.declared.node.Sel.TheVariants.{Element, Part}
use Rattle.lk_values.proofs.Reasons.{chained}
use Rattle.lk_values.specs.Pointers.{pointer_to}
use Rattle.lk_values.specs.declared.value.Value.TheVariants.{Null, Pointer}

-- where the pointer that an allocation gives leads to in its object: to the object itself, or to the first of several
abbrev pub start_path : Option ℕ → List CellStep
start_path None = []
start_path (Some n) = Index 0 ∷ []

element_type : (table : Table) (k e u n m : ℕ) → IsForm table k (Array e n) → IsForm table k (Array u m) → e ≡ u
element_type table k e u n m h h' = cc

module _ (program : Program) (labels : LabelTable) (es : List Edge) (ok : IsAnalysed program labels es) where
  abbrev table : Table
  table = program.types

  -- the place of what is allocated, and its type
  record IsOrigin (r ty : ℕ) (path : List CellStep) (x : LabelName) : Type 0 where
    place : IsPlaceAt program r path x
    type : type_of program x ≡ ty

  origin_is : (p r ty : ℕ) (count : Option ℕ) (x : LabelName) → IsAllocated program p r ty count → allocated program r count x → IsOrigin r ty (start_path count) x
  origin_is p r ty None x typed whole = record {
    place = record { ty = whole.ty; of = whole.has; holder = whole.holder; within = within_start x.node whole.start; leads = ap (λ (n : Node). Some n) (sym whole.start.first) };
    type = ap (λ (n : Node). n.type) whole.start.first ∙ root_type_is program r whole.ty ty whole.has (typed.0, typed.1, typed.4);
  }
  origin_is p r ty (Some n) x typed of =
      let array = of.0 in
      let whole = of.1 in
      let part = of.2.part in
      let element = element_step table ok.table (node_of table array.node) (node_of table x.node) part.steps.leads in
      let own : (node_of table array.node).type ≡ typed.0.ty = ap (λ (n : Node). n.type) whole.start.first ∙ root_type_is program r whole.ty typed.0.ty whole.has (typed.0, typed.1, refl) in
      record {
        place = record {
          ty = whole.ty;
          of = whole.has;
          holder = part.holder ∙ whole.holder;
          within = within_part array.node x.node Element (within_start array.node whole.start) of.2.inside part.steps;
          leads = along_step table (first (Start whole.ty)) (node_of table array.node) (node_of table x.node) [] (Index 0) (ap (λ (n : Node). Some n) (sym whole.start.first)) part.steps.leads;
        };
        type = element_type table typed.0.ty (type_of program x) ty element.size 0 (subst (λ k. IsForm table k (Array (type_of program x) element.size)) own element.array) typed.4;
      }

  -- the pointer to what is allocated, in the context of the frame that made it
  pub allocated_right : (homes : List Home) (p f ty r o : ℕ) (count : Option ℕ) (clear : Bool) (c : List ℕ) → function_at program p ≡ Some f → action_at program p ≡ Some (does.Allocate ty count clear r) → slice_get homes o ≡ Some (home_of r c) →
      IsPointerRight program labels es homes (pointer_to o (start_path count)) (value program p) c
  allocated_right homes p f ty r o count clear c stands allocation there =
      let typed = ok.lowered.typed p f (does.Allocate ty count clear r) allocation stands in
      let joins = (rows_give program ok.table ok.in_range ok.lowered).rows p f (does.Allocate ty count clear r) allocation stands in
      let x = joins.0.0 in
      let y = joins.1.0 in
      let held = joins.1.1 in
      let edge : IsEdge program x y Plain = row p f (does.Allocate ty count clear r) allocation stands (refl, joins.0.1, held) in
      let number = numbered program labels es ok x (join_labels program x y Plain edge).0 in
      let origin = origin_is p r ty count x typed.1 joins.0.1 in
      let void = typed.2 in
      let own : type_of program held.1.0 ≡ void.1.0 = ap (λ (n : Node). n.type) held.1.1.start.first ∙ one_type program ok.table ok.lowered (PointHolder p) held.1.1.ty void.1.0 held.1.1.has void.1.1 in
      record {
        home = home_of r c;
        lives_in = there;
        origin = x;
        place = origin.place;
        held_by = held.1.0;
        is = held.1.1;
        aim = y;
        aims = untyped void.0 held.0 (subst (λ k. IsForm table k (PointerType void.0)) (sym own) void.1.2) (ap (λ o. is_void (unwrap_or o Void)) void.2) held.1.2 (subst (λ k. IsInside program held.0 (Part k) y) (sym origin.type) held.2);
        flows = flow_on program labels es ok (record { from = number.0; to = number.0; from_at = number.1; to_at = number.1; walk = start }) edge stays;
      }

  root_typed : (p r ty : ℕ) (count : Option ℕ) → IsAllocated program p r ty count → (t : ℕ) × IsRootType program r t
  root_typed p r ty None typed = (typed.0.ty, (typed.0, typed.1, refl))
  root_typed p r ty (Some n) typed = (typed.0.ty, (typed.0, typed.1, refl))

-- an allocation gives null, or bears an object and gives the pointer to it
module _ (program : Program) (labels : LabelTable) (es : List Edge) (contexts : Contexts) (s : State) (t w f : ℕ) (thread : Thread) (cs : List (List ℕ)) (c : List ℕ) (ch : Change) where
  abbrev p : ℕ
  p = thread.frame.point

  abbrev Allocates : ℕ → Option ℕ → Bool → ℕ → Type 0
  Allocates ty count clear r = Acts program labels es contexts s t w f thread cs c (does.Allocate ty count clear r) ch

  abbrev Change-right : Type 0
  Change-right = IsChangeRight program labels es contexts t thread f cs c ch

  abbrev homes : (r : ℕ) → List Home
  homes r = contexts.homes ++ home_of r c ∷ []

  born_right : (ty : ℕ) (count : Option ℕ) (clear : Bool) (r n : ℕ) → Allocates ty count clear r → allocates program s p w r clear n (start_path count) ≡ Some ch → Change-right
  born_right ty count clear r n acts h = by (nat_eq w 0 || nat_eq n 0) h
    where
      there : slice_get (homes r) (length s.objects) ≡ Some (home_of r c)
      there = subst (λ o. slice_get (homes r) o ≡ Some (home_of r c)) acts.sound.objects_many (get_last contexts.homes (home_of r c))

      by : (b : Bool) → (if b then gives program p (Some Null) else bears program s p r clear n (start_path count)) ≡ Some ch → Change-right
      by true h = goes_right program labels es contexts s t w f thread cs c (does.Allocate ty count clear r) ch acts 0 (Some Null) effect.Nothing h tt tt
      by false h =
          goes_right program labels es contexts s t w f thread cs c (does.Allocate ty count clear r) ch acts 0 (Some (Pointer (pointer_to (length s.objects) (start_path count)))) (effect.Bear (record { root = r; length = n; initial = first_of clear })) h
          (λ has. allocated_right program labels es acts.ok (homes r) p f ty r (length s.objects) count clear c acts.performs.stands acts.performs.at there)
          (root_typed program labels es acts.ok p r ty count (typed program labels es contexts s t w f thread cs c (does.Allocate ty count clear r) ch acts).1)

  pub allocate_acts : (ty : ℕ) (count : Option ℕ) (clear : Bool) (r : ℕ) → Allocates ty count clear r → Change-right
  allocate_acts ty None clear r acts = born_right ty None clear r 1 acts acts.does
  allocate_acts ty (Some a) clear r acts =
      let many = chained (λ n. allocates program s p w r clear n (Index 0 ∷ [])) (option_and_then count_of (number_in (operand thread a))) ch acts.does in
      born_right ty (Some a) clear r many.0 acts many.2
