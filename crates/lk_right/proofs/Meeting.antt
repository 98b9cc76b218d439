-- What two labels hold between which a walk leads: a value that is right for the one is right for the other.
use Rattle.std.proofs.Common.{◌≡◌, ℕ, List, [], Some, refl, sym, ap, subst, ◌∙◌}
use Rattle.std.proofs.lemmas.Option.{get_or_from_slice_get, slice_get_within}
use Rattle.std.specs.List.{slice_get}
use Rattle.lk_facts.proofs.ContentLaw.{walk_on}
use Rattle.lk_facts.specs.EdgeRules.{IsInside}
use Rattle.lk_facts.specs.LabelRules.{IsLabel, IsPart, IsNodeOf, Steps}
use Rattle.lk_facts.specs.LabelRules.IsNodeOf.{start as node_start, part as node_part}
use Rattle.lk_facts.specs.Labels.{LabelTable, is_global_at, name_with}
use Rattle.lk_facts.specs.Paths.{HasEdge}
use Rattle.lk_facts.specs.Typed.{IsForm}
use Rattle.lk_facts.specs.Walks.{Walk}
use Rattle.lk_facts.specs.Walks.Walk.{start, along, entering, leaving, elsewhere}
use Rattle.lk_facts.specs.declared.edge.Edge.{Edge}
use Rattle.lk_facts.specs.declared.edge.Mark.{Mark}
use Rattle.lk_facts.specs.declared.label_entry.LabelName.{LabelName}
use Rattle.lk_facts.specs.declared.program.Program.{Program}
use Rattle.lk_laws.proofs.AlikeEdges.{join_alike}
use Rattle.lk_laws.proofs.AlikeTypes.{back, joined, pointer_parts, target_step}
use Rattle.lk_laws.proofs.EdgeEnds.{IsThere, label_there, label_part}
use Rattle.lk_laws.proofs.NodesThere.{pointer_too, target_too}
use Rattle.lk_laws.proofs.OneContent.{one_content}
use Rattle.lk_laws.proofs.VoidNodes.{points_to_tag, void_too, part_too}
use Rattle.lk_laws.specs.FlowLaws.{type_of, PointsAt, PointsAtPart, HaveOneContent}
use Rattle.lk_laws.specs.FlowLaws.LeadsTo.{here}
use Rattle.lk_laws.specs.RowLaws.{HasPointer}
use Rattle.lk_right.specs.Contexts.{Home}
use Rattle.lk_right.specs.Laws.{IsAnalysed}
use Rattle.lk_right.specs.Right.{IsAim, Flows, IsPointerRight, IsRight}
use Rattle.lk_right.specs.Right.IsAim.{typed, untyped}
use Rattle.lk_right.proofs.Carrying.{numbered}
use Rattle.lk_types.specs.Equal.{IsAlike}
use Rattle.lk_types.specs.Equal.IsEqualBut.{same as equal}
use Rattle.lk_types.specs.Nodes.{IsNode, node_of}
use Rattle.lk_types.specs.Table.{Table}
use Rattle.lk_types.specs.declared.c_type.CType.TheVariants.{Pointer as PointerType}
use Rattle.lk_types.specs.declared.node.NodeId.{NodeId}
use Rattle.lk_types.specs.declared.node.Sel.TheVariants.{Target, Part}
use Rattle.lk_values.specs.declared.cell.Pointer.{Pointer as PointerTo}
use Rattle.lk_values.specs.declared.value.Value.{Value}
use Rattle.lk_values.specs.declared.value.Value.TheVariants.{Number, Pointer, Function, Null, Thread, Indeterminate}

name_is : (x y : LabelName) → Some x ≡ Some y → x ≡ y
name_is x y h = cc

pointer_is : (t s : ℕ) → Some (PointerType t) ≡ Some (PointerType s) → t ≡ s
pointer_is t s h = cc

module _ (program : Program) (labels : LabelTable) (es : List Edge) (ok : IsAnalysed program labels es) where
  abbrev table : Table
  table = program.types

  abbrev Alike : ℕ → ℕ → Type 0
  Alike a b = IsAlike program.types.types a b

  abbrev ty : LabelName → ℕ
  ty x = type_of program x

  abbrev Named : ℕ → LabelName → Type 0
  Named a x = slice_get labels.names a ≡ Some x

  abbrev Walks : ℕ → List ℕ → ℕ → List ℕ → Type 0
  Walks a c b d = Walk (HasEdge es) (is_global_at labels) a c b d

  one_named : (a : ℕ) (x y : LabelName) → Named a x → Named a y → x ≡ y
  one_named a x y h k = name_is x y (sym h ∙ k)

  edge_alike : (a b : ℕ) (x y : LabelName) (m : Mark) → Named a x → Named b y → HasEdge es a b m → Alike (ty x) (ty y)
  edge_alike a b x y m h k e =
      let named = (ok.joined.each a b m).0 e in
      let alike = join_alike program ok.table ok.lowered named.0 named.1 m named.4 in
      subst (λ x. Alike (ty x) (ty y)) (one_named a named.0 x named.2 h) (subst (λ y. Alike (ty named.0) (ty y)) (one_named b named.1 y named.3 k) alike)

  -- labels between which a walk leads have types that are equal but for the sizes of arrays
  pub alike_along : {a : ℕ} {c : List ℕ} {b : ℕ} {d : List ℕ} → Walks a c b d → (x y : LabelName) → Named a x → Named b y → Alike (ty x) (ty y)
  alike_along {a = a} start x y h k = equal (ap ty (one_named a x y h k))
  alike_along (along {b = b} {e = e} w edge) x y h k =
      let named = (ok.joined.each b e _).0 edge in
      joined table.types (alike_along w x named.0 h named.2) (edge_alike b e named.0 y _ named.2 k edge)
  alike_along (entering {b = b} {e = e} w edge) x y h k =
      let named = (ok.joined.each b e _).0 edge in
      joined table.types (alike_along w x named.0 h named.2) (edge_alike b e named.0 y _ named.2 k edge)
  alike_along (leaving {b = b} {e = e} w edge) x y h k =
      let named = (ok.joined.each b e _).0 edge in
      joined table.types (alike_along w x named.0 h named.2) (edge_alike b e named.0 y _ named.2 k edge)
  alike_along (elsewhere w at) x y h k = alike_along w x y h k

  pub labelled : (a : ℕ) (x : LabelName) → Named a x → IsLabel program x
  labelled a x at = (ok.labelled.each x).0 (a, slice_get_within labels.names a x at, get_or_from_slice_get labels.names a x x at)

  node_of_type : {t : ℕ} {n : NodeId} → IsNodeOf program.types t n → IsNode program.types n
  node_of_type (node_start n at) = at.node
  node_of_type (node_part m n s of steps) = steps.node

  -- Beside x, which holds values in the context c, stands one of Y in the context d, of a type alike to x's: walks lead from what the one points
  -- to, and where that is void from its Parts, to what the other does.
  pub record IsBeside (Y : LabelName → Type 0) (c d : List ℕ) (x : LabelName) : Type 0 where
    pub y : LabelName
    pub is : Y y
    pub there : IsThere program y
    pub same : Alike (ty x) (ty y)
    pub targets : (v w : LabelName) (s t : ℕ) → IsPart program x Target v → IsPart program y Target w → Named s v → Named t w → Walks s c t d
    pub parts : (n : ℕ) (v w p q : LabelName) (s t : ℕ) → IsPart program x Target v → IsPart program y Target w → IsInside program v (Part n) p → IsInside program w (Part n) q →
        Named s p → Named t q → Walks s c t d

  module _ (X Y : LabelName → Type 0) (c d : List ℕ) (beside : (x : LabelName) → X x → IsBeside Y c d x) (pointer_there : HasPointer program Y → HasPointer program X) (homes : List Home) where
    -- what y points to, where x points to something
    record Other (y v : LabelName) (t : ℕ) : Type 0 where
      w : LabelName
      label : IsLabel program w
      part : IsPart program y Target w
      to : ℕ
      pointer : IsForm table (ty y) (PointerType to)
      to_alike : Alike t to

    other : (x v : LabelName) (t : ℕ) (b : IsBeside Y c d x) → IsForm table (ty x) (PointerType t) → IsPart program x Target v → Other b.y v t
    other x v t b form part =
        let there = target_too table ok.table x.node b.y.node v.node (node_of_type b.there.of) b.same part.steps in
        let w = name_with b.y.holder there.0 in
        let found : IsPart program b.y Target w = record { holder = refl; steps = there.1 } in
        let points = target_step table ok.table (node_of table b.y.node) (node_of table w.node) there.1.leads in
        record {
          w = w;
          label = label_part program b.there refl found;
          part = found;
          to = points.to;
          pointer = points.pointer;
          to_alike = pointer_parts table.types (ty x) (ty b.y) t points.to form points.pointer b.same;
        }

    -- what flows to an aim of x flows on to what y points to
    typed_on : (x origin aim : LabelName) (e : List ℕ) (t : ℕ) (b : IsBeside Y c d x) → IsPart program x Target aim → Flows program labels es origin e aim c → (o : Other b.y aim t) →
        Flows program labels es origin e o.w d
    typed_on x origin aim e t b part flows o =
        let number = numbered program labels es ok o.w o.label in
        record { from = flows.from; to = number.0; from_at = flows.from_at; to_at = number.1; walk = walk_on (b.targets aim o.w flows.to number.0 part o.part flows.to_at number.1) flows.walk }

    -- an aim of x, to which an origin flows, has one of y, to which it flows too
    record Moved (y : LabelName) (u : ℕ) (origin : LabelName) (e : List ℕ) : Type 0 where
      to : LabelName
      aims : IsAim program y u to
      flows : Flows program labels es origin e to d

    move : (x origin aim : LabelName) (e : List ℕ) (u : ℕ) (b : IsBeside Y c d x) → IsAim program x u aim → Flows program labels es origin e aim c → Moved b.y u origin e
    move x origin aim e u b (typed t form alike part) flows =
        let o = other x aim t b form part in
        record { to = o.w; aims = typed o.to o.pointer (joined table.types alike o.to_alike) o.part; flows = typed_on x origin aim e t b part flows o }
    move x origin aim e u b (untyped t v form void part inner) flows =
        let o = other x v t b form part in
        let to_void = sym (void_too table ok.table t o.to o.to_alike) ∙ void in
        let points = target_step table ok.table (node_of table b.y.node) (node_of table o.w.node) o.part.steps.leads in
        let to_is = pointer_is points.to o.to (sym points.pointer ∙ o.pointer) in
        let w_void = void_too table ok.table (ty o.w) o.to (subst (λ s. Alike (ty o.w) s) to_is points.alike) ∙ to_void in
        let tag = points_to_tag table ok.table (node_of table b.y.node) (node_of table o.w.node) o.part.steps.leads w_void in
        let steps : Steps table o.w.node (Part u) aim.node = record {
          node = inner.part.steps.node;
          leads = part_too table ok.table (node_of table v.node) (node_of table o.w.node) (node_of table aim.node) u inner.part.steps.leads tag;
        } in
        let to = name_with o.w.holder aim.node in
        let there : IsInside program o.w (Part u) to = record { inside = refl; part = record { holder = refl; steps = steps } } in
        let number = numbered program labels es ok to (label_part program (label_there program o.w o.label) refl there.part) in
        let on = b.parts u v o.w aim to flows.to number.0 part o.part inner there flows.to_at number.1 in
        record {
          to = to;
          aims = untyped o.to o.w o.pointer to_void o.part there;
          flows = record { from = flows.from; to = number.0; from_at = flows.from_at; to_at = number.1; walk = walk_on on flows.walk };
        }

    pointer_moved : (p : PointerTo) → IsPointerRight program labels es homes p X c → IsPointerRight program labels es homes p Y d
    pointer_moved p right =
        let b = beside right.held_by right.is in
        let m = move right.held_by right.origin right.aim right.home.context (ty right.origin) b right.aims right.flows in
        record { home = right.home; lives_in = right.lives_in; origin = right.origin; place = right.place; held_by = b.y; is = b.is; aim = m.to; aims = m.aims; flows = m.flows }

    -- a value that is right for X is right for what stands beside it
    pub moved : (v : Value) → IsRight program labels es homes v X c → IsRight program labels es homes v Y d
    moved (Number k n) right = tt
    moved (Pointer p) right = λ has. pointer_moved p (right (pointer_there has))
    moved (Function f) right =
        let b = beside right.held_by right.is in
        let o = other right.held_by right.aim right.aims.t b right.aims.pointer right.aims.leads in
        record {
          site = right.site;
          used = right.used;
          origin = right.origin;
          place = right.place;
          held_by = b.y;
          is = b.is;
          aim = o.w;
          aims = record { t = o.to; pointer = o.pointer; alike = joined table.types right.aims.alike o.to_alike; leads = o.part };
          flows = typed_on right.held_by right.origin right.aim [] right.aims.t b right.aims.leads right.flows o;
        }
    moved Null right = tt
    moved (Thread t) right = tt
    moved Indeterminate right = tt

  -- forth and back between the ends of a walk
  module _ (x y : LabelName) (c d : List ℕ) (f : Flows program labels es x c y d) (X Y : LabelName → Type 0) (homes : List Home) where
    content : HaveOneContent program labels es f.from c f.to d
    content = one_content program ok.table ok.lowered labels ok.labelled ok.few_labels es ok.joined f.from f.to c d f.walk

    alike : Alike (ty x) (ty y)
    alike = alike_along f.walk x y f.from_at f.to_at

    points_at : (x v : LabelName) (a s : ℕ) → Named a x → Named s v → IsPart program x Target v → PointsAt program labels a s
    points_at x v a s x_at v_at part = record { pointer = x; target = v; pointer_at = x_at; target_at = v_at; leads = part }

    points_part : (n : ℕ) (x v p : LabelName) (a s : ℕ) → Named a x → Named s p → IsPart program x Target v → IsInside program v (Part n) p → PointsAtPart program labels n a s
    points_part n x v p a s x_at p_at part inner = record { pointer = x; void = v; part = p; pointer_at = x_at; part_at = p_at; leads = part; part_of = inner }

    end_beside : Y y → IsBeside Y c d x
    end_beside is = record {
      y = y;
      is = is;
      there = label_there program y (labelled f.to y f.to_at);
      same = alike;
      targets = λ v w s t part part' v_at w_at. (content.targets [] f.from f.to s t here here (points_at x v f.from s f.from_at v_at part) (points_at y w f.to t f.to_at w_at part')).0;
      parts = λ n v w p q s t part part' inner inner' p_at q_at.
          (content.parts [] n f.from f.to s t here here (points_part n x v p f.from s f.from_at p_at part inner) (points_part n y w q f.to t f.to_at q_at part' inner')).0;
    }

    start_beside : X x → IsBeside X d c y
    start_beside is = record {
      y = x;
      is = is;
      there = label_there program x (labelled f.from x f.from_at);
      same = back table.types alike;
      targets = λ v w s t part part' v_at w_at. (content.targets [] f.from f.to t s here here (points_at x w f.from t f.from_at w_at part') (points_at y v f.to s f.to_at v_at part)).1;
      parts = λ n v w p q s t part part' inner inner' p_at q_at.
          (content.parts [] n f.from f.to t s here here (points_part n x w q f.from t f.from_at q_at part' inner') (points_part n y v p f.to s f.to_at p_at part inner)).1;
    }

    -- where the one end is a pointer, the other is
    pointer_start : ((z : LabelName) → Y z → z ≡ y) → X x → HasPointer program Y → HasPointer program X
    pointer_start only is has =
        let form = subst (λ z. IsForm table (ty z) (PointerType has.2.0)) (only has.0 has.1) has.2.1 in
        let other = pointer_too table ok.table (ty y) (ty x) has.2.0 (back table.types alike) form in
        (x, is, other)

    pointer_end : ((z : LabelName) → X z → z ≡ x) → Y y → HasPointer program X → HasPointer program Y
    pointer_end only is has =
        let form = subst (λ z. IsForm table (ty z) (PointerType has.2.0)) (only has.0 has.1) has.2.1 in
        let other = pointer_too table ok.table (ty x) (ty y) has.2.0 alike form in
        (y, is, other)

    pub held_on : ((z : LabelName) → X z → z ≡ x) → X x → ((z : LabelName) → Y z → z ≡ y) → Y y → (v : Value) → IsRight program labels es homes v X c → IsRight program labels es homes v Y d
    held_on only is_x only_y is = moved X Y c d (λ z h. subst (IsBeside Y c d) (sym (only z h)) (end_beside is)) (pointer_start only_y is_x) homes

    pub held_back : ((z : LabelName) → Y z → z ≡ y) → Y y → ((z : LabelName) → X z → z ≡ x) → X x → (v : Value) → IsRight program labels es homes v Y d → IsRight program labels es homes v X c
    held_back only is_y only_x is = moved Y X d c (λ z h. subst (IsBeside X d c) (sym (only z h)) (start_beside is)) (pointer_end only_x is_y) homes
