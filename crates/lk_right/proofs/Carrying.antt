-- What an edge between what two values or places point to carries: a value that is right for the one is right for the other.
use Rattle.std.proofs.Common.{◌≡◌, ℕ, Bool, List, ◌∷◌, Some, inl, inr, refl, sym, ap, subst, ◌∙◌}
use Rattle.std.proofs.lemmas.Option.{slice_get-get_or}
use Rattle.std.specs.List.{slice_get}
use Rattle.lk_facts.specs.EdgeRules.{Of, IsInside, IsEdge}
use Rattle.lk_facts.specs.EdgeRules.IsEdge.{inside}
use Rattle.lk_facts.specs.LabelRules.{IsLabel, IsPart, Steps}
use Rattle.lk_facts.specs.Labels.{LabelTable, name_with}
use Rattle.lk_facts.specs.Typed.{IsForm}
use Rattle.lk_facts.specs.Walks.{Walk}
use Rattle.lk_facts.specs.Walks.Walk.{along, entering, leaving}
use Rattle.lk_facts.specs.declared.edge.Edge.{Edge}
use Rattle.lk_facts.specs.declared.edge.Mark.{Mark}
use Rattle.lk_facts.specs.declared.edge.Mark.TheVariants.{Plain, Enter, Leave}
use Rattle.lk_facts.specs.declared.label_entry.LabelName.{LabelName}
use Rattle.lk_facts.specs.declared.program.Program.{Program}
use Rattle.lk_laws.proofs.AlikeEdges.{join_alike}
use Rattle.lk_laws.proofs.AlikeTypes.{back, joined, target_step}
use Rattle.lk_laws.proofs.EdgeEnds.{join_labels}
use Rattle.lk_laws.proofs.VoidNodes.{points_to_tag, void_too, part_too}
use Rattle.lk_laws.specs.FlowLaws.{type_of}
use Rattle.lk_laws.specs.RowLaws.{HasPointer, JoinsTargets}
use Rattle.lk_right.specs.Contexts.{Home}
use Rattle.lk_right.specs.Laws.{IsAnalysed}
use Rattle.lk_right.specs.Right.{IsAim, Flows, IsPointerRight, IsFunctionRight, IsRight}
use Rattle.lk_right.specs.Right.IsAim.{typed, untyped}
use Rattle.lk_types.specs.Equal.{IsAlike}
use Rattle.lk_types.specs.Nodes.{node_of}
use Rattle.lk_types.specs.Table.{Table}
use Rattle.lk_types.specs.Walks.{is_void}
use Rattle.lk_types.specs.declared.c_type.CType.TheVariants.{Pointer as PointerType}
use Rattle.lk_types.specs.declared.node.Sel.TheVariants.{Target, Part}
use Rattle.lk_values.specs.declared.cell.Pointer.{Pointer as PointerTo}
use Rattle.lk_values.specs.declared.value.Value.{Value}
use Rattle.lk_values.specs.declared.value.Value.TheVariants.{Number, Pointer, Function, Null, Thread, Indeterminate}

pointer_is : (t s : ℕ) → Some (PointerType t) ≡ Some (PointerType s) → t ≡ s
pointer_is t s h = cc

-- how an edge with the mark leads from one context to another
pub data Crosses : Mark → List ℕ → List ℕ → Type 0 where
  stays : {c : List ℕ} → Crosses Plain c c
  enters : {i : ℕ} {c : List ℕ} → Crosses (Enter i) c (i ∷ c)
  leaves : {i : ℕ} {c : List ℕ} → Crosses (Leave i) (i ∷ c) c

cross : {edge : ℕ → ℕ → Mark → Type 0} {global : ℕ → Bool} {a b e : ℕ} {c d f : List ℕ} {m : Mark} → Crosses m d f → Walk edge global a c b d → edge b e m → Walk edge global a c e f
cross stays w h = along w h
cross enters w h = entering w h
cross leaves w h = leaving w h

module _ (program : Program) (labels : LabelTable) (es : List Edge) (ok : IsAnalysed program labels es) where
  abbrev table : Table
  table = program.types

  abbrev Alike : ℕ → ℕ → Type 0
  Alike a b = IsAlike program.types.types a b

  abbrev ty : LabelName → ℕ
  ty x = type_of program x

  abbrev Named : ℕ → LabelName → Type 0
  Named a x = slice_get labels.names a ≡ Some x

  pub numbered : (x : LabelName) → IsLabel program x → (a : ℕ) × Named a x
  numbered x label =
      let found = (ok.labelled.each x).1 label in
      (found.0, slice_get-get_or labels.names found.0 x found.1 ∙ ap Some found.2)

  -- a walk goes on along an edge
  pub flow_on : {x y z : LabelName} {c d e : List ℕ} {m : Mark} → Flows program labels es x c y d → IsEdge program y z m → Crosses m d e → Flows program labels es x c z e
  flow_on {y = y} {z = z} {m = m} f edge crosses =
      let at = numbered z (join_labels program y z m edge).1 in
      let has = (ok.joined.each f.to at.0 m).1 (y, z, f.to_at, at.1, edge) in
      record { from = f.from; to = at.0; from_at = f.from_at; to_at = at.1; walk = cross crosses f.walk has }

  -- what an aim is carried to
  record Carried (u : ℕ) (Y : LabelName → Type 0) (aim : LabelName) (m : Mark) : Type 0 where
    held_by : LabelName
    is : Y held_by
    to : LabelName
    aims : IsAim program held_by u to
    edge : IsEdge program aim to m

  module _ (m : Mark) (X Y : LabelName → Type 0) (edges : (u v : LabelName) → Of program X Target u → Of program Y Target v → IsEdge program u v m) (joins : JoinsTargets program X Y) where
    record Joined (x v : LabelName) (u : ℕ) : Type 0 where
      y : LabelName
      is : Y y
      w : LabelName
      part : IsPart program y Target w
      to : ℕ
      pointer : IsForm table (ty y) (PointerType to)
      alike : Alike (ty w) to
      edge : IsEdge program v w m
      same : Alike (ty v) (ty w)

    -- the other end
    other_end : (x v : LabelName) (t : ℕ) → X x → IsForm table (ty x) (PointerType t) → IsPart program x Target v → Joined x v t
    other_end x v t of form part =
        let has : HasPointer program X = (x, of, (t, form)) in
        let there = (joins (inl has)).1 in
        let w = there.0 in
        let y = there.1.0 in
        let points = target_step table ok.table (node_of table y.node) (node_of table w.node) there.1.2.steps.leads in
        let edge = edges v w (x, of, part) there.1 in
        record { y = y; is = there.1.1; w = w; part = there.1.2; to = points.to; pointer = points.pointer; alike = points.alike; edge = edge; same = join_alike program ok.table ok.lowered v w m edge }

    -- the target of x is of the type that x points to
    own : (x v : LabelName) (t : ℕ) → IsForm table (ty x) (PointerType t) → IsPart program x Target v → Alike (ty v) t
    own x v t form part =
        let points = target_step table ok.table (node_of table x.node) (node_of table v.node) part.steps.leads in
        subst (λ s. Alike (ty v) s) (pointer_is points.to t (sym points.pointer ∙ form)) points.alike

    aim_carried : (x aim : LabelName) (u : ℕ) → X x → IsAim program x u aim → Carried u Y aim m
    aim_carried x aim u of (typed t form alike part) =
        let j = other_end x aim t of form part in
        let t_to : Alike t j.to = joined table.types (joined table.types (back table.types (own x aim t form part)) j.same) j.alike in
        record {
          held_by = j.y;
          is = j.is;
          to = j.w;
          aims = typed j.to j.pointer (joined table.types alike t_to) j.part;
          edge = j.edge;
        }
    aim_carried x aim u of (untyped t v form is_void part inner) =
        let j = other_end x v t of form part in
        let own_t = own x v t form part in
        let t_to : Alike t j.to = joined table.types (joined table.types (back table.types own_t) j.same) j.alike in
        let w_void = sym (void_too table ok.table (ty v) (ty j.w) j.same) ∙ (void_too table ok.table (ty v) t own_t ∙ is_void) in
        let tag = points_to_tag table ok.table (node_of table j.y.node) (node_of table j.w.node) j.part.steps.leads w_void in
        let steps : Steps table j.w.node (Part u) aim.node = record {
          node = inner.part.steps.node;
          leads = part_too table ok.table (node_of table v.node) (node_of table j.w.node) (node_of table aim.node) u inner.part.steps.leads tag;
        } in
        let there : IsInside program j.w (Part u) (name_with j.w.holder aim.node) = record { inside = refl; part = record { holder = refl; steps = steps } } in
        record {
          held_by = j.y;
          is = j.is;
          to = name_with j.w.holder aim.node;
          aims = untyped j.to j.w j.pointer (sym (void_too table ok.table t j.to t_to) ∙ is_void) j.part there;
          edge = inside (Part u) j.edge inner there;
        }

    -- where Y is a pointer, X is one
    pointer_there : HasPointer program Y → HasPointer program X
    pointer_there has =
        let from = (joins (inr has)).0 in
        let points = target_step table ok.table (node_of table from.1.0.node) (node_of table from.0.node) from.1.2.steps.leads in
        (from.1.0, from.1.1, (points.to, points.pointer))

    module _ (homes : List Home) {c d : List ℕ} (crosses : Crosses m c d) where
      pointer_carried : (p : PointerTo) → IsPointerRight program labels es homes p X c → IsPointerRight program labels es homes p Y d
      pointer_carried p right =
          let by = aim_carried right.held_by right.aim (ty right.origin) right.is right.aims in
          record { home = right.home; lives_in = right.lives_in; origin = right.origin; place = right.place; held_by = by.held_by; is = by.is; aim = by.to; aims = by.aims; flows = flow_on right.flows by.edge crosses }

      function_carried : (f : ℕ) → IsFunctionRight program labels es homes f X c → IsFunctionRight program labels es homes f Y d
      function_carried f right =
          let j = other_end right.held_by right.aim right.aims.t right.is right.aims.pointer right.aims.leads in
          let t_to : Alike right.aims.t j.to = joined table.types (joined table.types (back table.types (own right.held_by right.aim right.aims.t right.aims.pointer right.aims.leads)) j.same) j.alike in
          record {
            site = right.site;
            used = right.used;
            origin = right.origin;
            place = right.place;
            held_by = j.y;
            is = j.is;
            aim = j.w;
            aims = record { t = j.to; pointer = j.pointer; alike = joined table.types right.aims.alike t_to; leads = j.part };
            flows = flow_on right.flows j.edge crosses;
          }

      -- a value that is right for what X names is right for what Y names, in the context to which the edge leads
      pub carried : (v : Value) → IsRight program labels es homes v X c → IsRight program labels es homes v Y d
      carried (Number k n) right = tt
      carried (Pointer p) right = λ has. pointer_carried p (right (pointer_there has))
      carried (Function f) right = function_carried f right
      carried Null right = tt
      carried (Thread t) right = tt
      carried Indeterminate right = tt
