-- What flows through functions between which a walk leads: results flow with it, and parameters against it.
use Rattle.std.proofs.Common.{◌≡◌, ℕ, suc, Bool, List, Some, refl, sym, subst, ◌∙◌}
use Rattle.std.specs.List.{slice_get}
use Rattle.lk_facts.proofs.ContentLaw.{walk_on}
use Rattle.lk_facts.specs.EdgeRules.{IsBehind, IsEdge, AreEdges}
use Rattle.lk_facts.specs.EdgeRules.IsEdge.{inside, results, parameters}
use Rattle.lk_facts.specs.LabelRules.{IsLabel, IsPart, AreLabels, Steps}
use Rattle.lk_facts.specs.LabelRules.IsNodeOf.{part as node_part}
use Rattle.lk_facts.specs.Labels.{LabelTable, AreLabelsInRange, is_global_at, name_with}
use Rattle.lk_facts.specs.Lowered.{IsLowered}
use Rattle.lk_facts.specs.Paths.{HasEdge, opposite}
use Rattle.lk_facts.specs.Walks.{Walk}
use Rattle.lk_facts.specs.Walks.Walk.{start, along, entering, leaving, elsewhere}
use Rattle.lk_facts.specs.declared.edge.Edge.{Edge}
use Rattle.lk_facts.specs.declared.edge.Mark.{Mark}
use Rattle.lk_facts.specs.declared.label_entry.LabelName.{LabelName}
use Rattle.lk_facts.specs.declared.program.Program.{Program}
use Rattle.lk_laws.proofs.AlikeTypes.{back, parts_alike}
use Rattle.lk_laws.proofs.EdgeEnds.{IsThere, label_there, label_part, join_labels}
use Rattle.lk_laws.proofs.NodesThere.{target_too, field_too_there, function_too}
use Rattle.lk_laws.proofs.OneContent.{one_named, one_part, numbered, one_number, edge_names, named_edge, alike, has_node, one_global}
use Rattle.lk_laws.proofs.VoidNodes.{tag_type, part_of_tag, part_too, points_to_tag, void_too}
use Rattle.lk_laws.specs.CodeLaws.{IsBehindAt, IsPartBehindAt, HaveOneCode, FunctionsHaveOneCode}
use Rattle.lk_laws.specs.FlowLaws.{type_of}
use Rattle.lk_types.specs.Building.{IsTable}
use Rattle.lk_types.specs.Equal.{IsAlike}
use Rattle.lk_types.specs.Nodes.{node_of}
use Rattle.lk_types.specs.Table.{Table}
use Rattle.lk_types.specs.declared.node.Sel.{Sel}
use Rattle.lk_types.specs.declared.node.Sel.TheVariants.{Target, Field, Part}

module _ {edge : ℕ → ℕ → Mark → Type 0} {global : ℕ → Bool} (B : ℕ → ℕ → Type 0) (one : (a s t : ℕ) → B a s → B a t → s ≡ t) (back_on : (a b t : ℕ) (m : Mark) → edge a b m → B b t → (s : ℕ) × B a s)
    (glob : (a s : ℕ) → B a s → global s ≡ global a) where
  with_walk : ((a b s t : ℕ) (m : Mark) → edge a b m → B a s → B b t → edge s t m) → {o : ℕ} {c : List ℕ} {b : ℕ} {d : List ℕ} → Walk edge global o c b d → (x y : ℕ) → B o x → B b y → Walk edge global x c y d
  with_walk joins {o = o} {c = c} start x y h k = subst (λ z. Walk edge global x c z c) (one o x y h k) start
  with_walk joins (along {b = b} {e = e} w step) x y h k =
      let from = back_on b e y _ step k in
      along (with_walk joins w x from.0 h from.1) (joins b e from.0 y _ step from.1 k)
  with_walk joins (entering {b = b} {e = e} w step) x y h k =
      let from = back_on b e y _ step k in
      entering (with_walk joins w x from.0 h from.1) (joins b e from.0 y _ step from.1 k)
  with_walk joins (leaving {b = b} {e = e} w step) x y h k =
      let from = back_on b e y _ step k in
      leaving (with_walk joins w x from.0 h from.1) (joins b e from.0 y _ step from.1 k)
  with_walk joins (elsewhere {b = b} w at) x y h k = elsewhere (with_walk joins w x y h k) (glob b y k ∙ at)

  against_walk : ((a b s t : ℕ) (m : Mark) → edge a b m → B a s → B b t → edge t s (opposite m)) → {o : ℕ} {c : List ℕ} {b : ℕ} {d : List ℕ} → Walk edge global o c b d → (x y : ℕ) → B o x → B b y → Walk edge global y d x c
  against_walk joins {o = o} {c = c} start x y h k = subst (λ z. Walk edge global z c x c) (one o x y h k) start
  against_walk joins (along {b = b} {e = e} w step) x y h k =
      let from = back_on b e y _ step k in
      walk_on (against_walk joins w x from.0 h from.1) (along start (joins b e from.0 y _ step from.1 k))
  against_walk joins (entering {b = b} {e = e} w step) x y h k =
      let from = back_on b e y _ step k in
      walk_on (against_walk joins w x from.0 h from.1) (leaving start (joins b e from.0 y _ step from.1 k))
  against_walk joins (leaving {b = b} {e = e} w step) x y h k =
      let from = back_on b e y _ step k in
      walk_on (against_walk joins w x from.0 h from.1) (entering start (joins b e from.0 y _ step from.1 k))
  against_walk joins (elsewhere {b = b} w at) x y h k = walk_on (against_walk joins w x y h k) (elsewhere start (glob b y k ∙ at))

module _ (program : Program) (is : IsTable program.types) (lowered : IsLowered program) (labels : LabelTable) (are : AreLabels program labels) (in_range : AreLabelsInRange labels) (es : List Edge) (edges : AreEdges program labels.names es) where
  abbrev table : Table
  table = program.types

  abbrev Joins : ℕ → ℕ → Mark → Type 0
  Joins = HasEdge es

  abbrev Behind : ℕ → ℕ → ℕ → Type 0
  Behind k = IsBehindAt program labels k

  abbrev PartBehind : ℕ → ℕ → ℕ → ℕ → Type 0
  PartBehind n k = IsPartBehindAt program labels n k

  name_one : (a : ℕ) (x y : LabelName) → slice_get labels.names a ≡ Some x → slice_get labels.names a ≡ Some y → x ≡ y
  name_one = one_named program is lowered labels are in_range es edges

  part_one : {x y z : LabelName} {s : Sel} → IsPart program x s y → IsPart program x s z → y ≡ z
  part_one = one_part program is lowered labels are in_range es edges

  behind_one : (u x y : LabelName) (k : ℕ) → IsBehind program u k x → IsBehind program u k y → x ≡ y
  behind_one u x y k h g = part_one h.points.2 (subst (λ z. IsPart program z Target y) (part_one g.points.1 h.points.1) g.points.2)

  -- what stands behind another function of the type, and its value
  record Other (v : LabelName) (k : ℕ) (y : LabelName) : Type 0 where
    x : LabelName
    label : IsLabel program x
    is_behind : IsBehind program v k x
    same : IsAlike table.types (type_of program y) (type_of program x)

  other : (v u y : LabelName) (k : ℕ) → IsAlike table.types (type_of program v) (type_of program u) → IsLabel program u → IsBehind program v k y → Other u k y
  other v u y k types label h =
      let z = h.points.0 in
      let there = label_there program u label in
      let node = field_too_there table is v.node u.node k z.node (has_node program is lowered labels are in_range es edges u label) types h.points.1.steps in
      let value = name_with u.holder node.0 in
      let values = parts_alike table is (node_of table v.node) (node_of table u.node) (node_of table z.node) (node_of table node.0) (Field k) types h.points.1.steps.leads node.1.leads in
      let end = target_too table is z.node node.0 y.node node.1.node values h.points.2.steps in
      let value_there : IsThere program value = record { ty = there.ty; has = there.has; of = node_part u.node node.0 (Field k) there.of node.1 } in
      let part : IsPart program value Target (name_with u.holder end.0) = record { holder = refl; steps = end.1 } in
      record {
        x = name_with u.holder end.0;
        label = label_part program value_there refl part;
        is_behind = record { function = sym (function_too table is (type_of program v) (type_of program u) types) ∙ h.function; points = (value, record { holder = refl; steps = node.1 }, part) };
        same = parts_alike table is (node_of table z.node) (node_of table node.0) (node_of table y.node) (node_of table end.0) Target values h.points.2.steps.leads end.1.leads;
      }

  behind_holder : (u x : LabelName) (k : ℕ) → IsBehind program u k x → x.holder ≡ u.holder
  behind_holder u x k h = h.points.2.holder ∙ h.points.1.holder

  -- the beginning of an edge to a function of which something is known
  record Before (a : ℕ) (v : LabelName) : Type 0 where
    u : LabelName
    u_at : slice_get labels.names a ≡ Some u
    label : IsLabel program u
    types : IsAlike table.types (type_of program v) (type_of program u)

  before : (a b : ℕ) (m : Mark) (v : LabelName) → slice_get labels.names b ≡ Some v → Joins a b m → Before a v
  before a b m v at e =
      let named = (edges.each a b m).0 e in
      let joined = subst (λ y. IsEdge program named.0 y m) (name_one b named.1 v named.3 at) named.4 in
      record { u = named.0; u_at = named.2; label = (join_labels program named.0 v m joined).0; types = back table.types (alike program is lowered labels are in_range es edges named.0 v m joined) }

  behind_back : (k a b t : ℕ) (m : Mark) → Joins a b m → Behind k b t → (s : ℕ) × Behind k a s
  behind_back k a b t m e h =
      let from = before a b m h.function h.function_at e in
      let o = other h.function from.u h.behind k from.types from.label h.is in
      let number = numbered program is lowered labels are in_range es edges o.x o.label in
      (number.0, record { function = from.u; behind = o.x; function_at = from.u_at; behind_at = number.1; is = o.is_behind })

  behind_is : (k a s t : ℕ) → Behind k a s → Behind k a t → s ≡ t
  behind_is k a s t h g =
      let functions = name_one a g.function h.function g.function_at h.function_at in
      one_number program is lowered labels are in_range es edges s t h.behind g.behind h.behind_at g.behind_at (behind_one h.function h.behind g.behind k h.is (subst (λ u. IsBehind program u k g.behind) functions g.is))

  behind_global : (k a s : ℕ) → Behind k a s → is_global_at labels s ≡ is_global_at labels a
  behind_global k a s h = one_global program is lowered labels are in_range es edges a s h.function h.behind h.function_at h.behind_at (behind_holder h.function h.behind k h.is)

  edge_of : (a b : ℕ) (u v : LabelName) (m : Mark) → slice_get labels.names a ≡ Some u → slice_get labels.names b ≡ Some v → Joins a b m → IsEdge program u v m
  edge_of a b u v m = edge_names program is lowered labels are in_range es edges a b u v m

  numbers : (a b : ℕ) (u v : LabelName) (m : Mark) → slice_get labels.names a ≡ Some u → slice_get labels.names b ≡ Some v → IsEdge program u v m → Joins a b m
  numbers a b u v m = named_edge program is lowered labels are in_range es edges a b u v m

  part_back : (n k a b t : ℕ) (m : Mark) → Joins a b m → PartBehind n k b t → (s : ℕ) × PartBehind n k a s
  part_back n k a b t m e h =
      let from = before a b m h.function h.function_at e in
      let o = other h.function from.u h.void k from.types from.label h.is in
      let void_type = tag_type table is h.void.node h.is.points.2.steps.node (part_of_tag table is (node_of table h.void.node) (node_of table h.part.node) n h.part_of.part.steps.leads) in
      let void_here = sym (void_too table is (type_of program h.void) (type_of program o.x) o.same) ∙ void_type in
      let value = o.is_behind.points.0 in
      let tag = points_to_tag table is (node_of table value.node) (node_of table o.x.node) o.is_behind.points.2.steps.leads void_here in
      let steps : Steps table o.x.node (Part n) h.part.node = record {
        node = h.part_of.part.steps.node;
        leads = part_too table is (node_of table h.void.node) (node_of table o.x.node) (node_of table h.part.node) n h.part_of.part.steps.leads tag;
      } in
      let to = name_with o.x.holder h.part.node in
      let found : IsPart program o.x (Part n) to = record { holder = refl; steps = steps } in
      let number = numbered program is lowered labels are in_range es edges to (label_part program (label_there program o.x o.label) refl found) in
      (number.0, record { function = from.u; void = o.x; part = to; function_at = from.u_at; part_at = number.1; is = o.is_behind; part_of = record { inside = refl; part = found } })

  part_is : (n k a s t : ℕ) → PartBehind n k a s → PartBehind n k a t → s ≡ t
  part_is n k a s t h g =
      let functions = name_one a g.function h.function g.function_at h.function_at in
      let voids = behind_one h.function g.void h.void k (subst (λ u. IsBehind program u k g.void) functions g.is) h.is in
      one_number program is lowered labels are in_range es edges s t h.part g.part h.part_at g.part_at (part_one h.part_of.part (subst (λ u. IsPart program u (Part n) g.part) voids g.part_of.part))

  part_global : (n k a s : ℕ) → PartBehind n k a s → is_global_at labels s ≡ is_global_at labels a
  part_global n k a s h = one_global program is lowered labels are in_range es edges a s h.function h.part h.function_at h.part_at (h.part_of.part.holder ∙ behind_holder h.function h.void k h.is)

  pub one_code : (o b : ℕ) (c d : List ℕ) → Walk Joins (is_global_at labels) o c b d → HaveOneCode program labels es o c b d
  one_code o b c d walk = record {
    results = λ x y h k.
        with_walk (Behind 0) (behind_is 0) (behind_back 0) (behind_global 0) (λ a b s t m e p q. numbers s t p.behind q.behind m p.behind_at q.behind_at (results (edge_of a b p.function q.function m p.function_at q.function_at e) p.is q.is)) walk x y h k;
    result_parts = λ n x y h k.
        with_walk (PartBehind n 0) (part_is n 0) (part_back n 0) (part_global n 0)
        (λ a b s t m e p q. numbers s t p.part q.part m p.part_at q.part_at (inside (Part n) (results (edge_of a b p.function q.function m p.function_at q.function_at e) p.is q.is) p.part_of q.part_of)) walk x y h k;
    parameters = λ j x y h k.
        against_walk (Behind (suc j)) (behind_is (suc j)) (behind_back (suc j)) (behind_global (suc j))
        (λ a b s t m e p q. numbers t s q.behind p.behind (opposite m) q.behind_at p.behind_at (parameters j (edge_of a b p.function q.function m p.function_at q.function_at e) p.is q.is)) walk x y h k;
    parameter_parts = λ n j x y h k.
        against_walk (PartBehind n (suc j)) (part_is n (suc j)) (part_back n (suc j)) (part_global n (suc j))
        (λ a b s t m e p q. numbers t s q.part p.part (opposite m) q.part_at p.part_at (inside (Part n) (parameters j (edge_of a b p.function q.function m p.function_at q.function_at e) p.is q.is) q.part_of p.part_of)) walk x y h k;
  }

pub functions_have_one_code : FunctionsHaveOneCode
functions_have_one_code program is lowered labels are in_range es edges o b c d walk = one_code program is lowered labels are in_range es edges o b c d walk
