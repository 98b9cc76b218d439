-- What is at both ends of an edge has one content: the premises of the law of contents, for the edges and labels of a program.
use Rattle.std.proofs.Common.{◌≡◌, ◌<◌, ℕ, true, false, List, [], Option, Some, None, refl, sym, ap, subst, ◌∙◌, length, arith}
use Rattle.std.specs.Prelude.{not}
use Rattle.std.proofs.lemmas.Bool.{false≢true}
use Rattle.std.proofs.lemmas.Option.{get_or_from_slice_get, slice_get-get_or, slice_get_within}
use Rattle.std.specs.List.{slice_get}
use Rattle.std.specs.Option.{option_map_or}
use Rattle.lk_facts.proofs.ContentLaw.{AreContents, Holds, Leads, contents}
use Rattle.lk_facts.proofs.ContentLaw.Leads.{here as leads_here, into as leads_into}
use Rattle.lk_facts.specs.EdgeRules.{IsInside, IsEdge, AreEdges}
use Rattle.lk_facts.specs.EdgeRules.IsEdge.{forth, back as backwards, inside}
use Rattle.lk_facts.specs.LabelRules.{IsLabel, IsPart, IsNodeOf, AreLabels, Steps, form_of, leads_inside, is_global_holder}
use Rattle.lk_facts.specs.LabelRules.IsNodeOf.{start as node_start, part as node_part}
use Rattle.lk_facts.specs.Labels.{LabelTable, AreLabelsInRange, is_global_at, name_with}
use Rattle.lk_facts.specs.Lowered.{IsLowered}
use Rattle.lk_facts.specs.Paths.{HasEdge, opposite}
use Rattle.lk_facts.specs.Walks.{Walk}
use Rattle.lk_facts.specs.declared.edge.Edge.{Edge}
use Rattle.lk_facts.specs.declared.edge.Mark.{Mark}
use Rattle.lk_facts.specs.declared.label_entry.LabelEntry.{LabelEntry}
use Rattle.lk_facts.specs.declared.label_entry.LabelName.{LabelName}
use Rattle.lk_facts.specs.declared.program.Program.{Program}
use Rattle.lk_laws.proofs.AlikeEdges.{join_alike}
use Rattle.lk_laws.proofs.AlikeTypes.{back, parts_alike}
use Rattle.lk_laws.proofs.EdgeEnds.{label_there, label_part, join_labels, inside_to_place}
use Rattle.lk_laws.proofs.NodesThere.{target_too, element_too, field_too_there, function_too}
use Rattle.lk_laws.proofs.VoidNodes.{tag_type, part_of_tag, part_too, points_to_tag, void_too}
use Rattle.lk_laws.specs.FlowLaws.{type_of, IsFieldAt, LeadsTo, PointsAt, PointsAtPart, HaveOneContent}
use Rattle.lk_laws.specs.FlowLaws.LeadsTo.{here, into}
use Rattle.lk_types.proofs.NodeLemmas.{none_past}
use Rattle.lk_types.proofs.PathLemmas.{equal_nodes_have_equal_ids}
use Rattle.lk_types.specs.Building.{IsTable}
use Rattle.lk_types.specs.Equal.{IsAlike}
use Rattle.lk_types.specs.Nodes.{Node, IsNode, node_of}
use Rattle.lk_types.specs.Objects.{stays_inside}
use Rattle.lk_types.specs.declared.node.NodeId.{NodeId}
use Rattle.lk_types.specs.declared.node.Sel.{Sel}
use Rattle.lk_types.specs.declared.node.Sel.TheVariants.{Target, Element, Field, Part}

name_is : (x y : LabelName) → Some x ≡ Some y → x ≡ y
name_is x y h = cc

node_is : (x y : Node) → Some x ≡ Some y → x ≡ y
node_is x y h = cc

same_name : (x y : LabelName) → x.holder ≡ y.holder → x.node ≡ y.node → x ≡ y
same_name x y h k = ap (λ h. name_with h x.node) h ∙ ap (λ n. name_with y.holder n) k

none_within : (entries : List LabelEntry) (a : ℕ) → slice_get entries a ≡ None → a < length entries → ⊥
none_within entries a e h = let past = none_past entries a e in omega (arith, past, h)

module _ (program : Program) (is : IsTable program.types) (lowered : IsLowered program) (labels : LabelTable) (are : AreLabels program labels) (in_range : AreLabelsInRange labels) (es : List Edge) (edges : AreEdges program labels.names es) where
  abbrev pub Edged : ℕ → ℕ → Mark → Type 0
  Edged = HasEdge es

  abbrev pub Named : ℕ → LabelName → Type 0
  Named a x = slice_get labels.names a ≡ Some x

  abbrev pub ty : LabelName → ℕ
  ty x = type_of program x

  pub one_named : (a : ℕ) (x y : LabelName) → Named a x → Named a y → x ≡ y
  one_named a x y h k = name_is x y (sym h ∙ k)

  pub one_number : (a b : ℕ) (x y : LabelName) → Named a x → Named b y → x ≡ y → a ≡ b
  one_number a b x y h k same = in_range.different a b y (h ∙ ap Some same) k

  -- a step leads to one label
  pub one_part : {x y z : LabelName} {s : Sel} → IsPart program x s y → IsPart program x s z → y ≡ z
  one_part {x} {y} {z} {s} h k =
      same_name y z (h.holder ∙ sym k.holder) (equal_nodes_have_equal_ids program.types y.node z.node h.steps.node k.steps.node (node_is _ _ (sym h.steps.leads ∙ k.steps.leads)))

  pub numbered : (x : LabelName) → IsLabel program x → (a : ℕ) × Named a x
  numbered x label =
      let found = (are.each x).1 label in
      (found.0, slice_get-get_or labels.names found.0 x found.1 ∙ ap Some found.2)

  pub labelled : (a : ℕ) (x : LabelName) → Named a x → IsLabel program x
  labelled a x at = (are.each x).0 (a, slice_get_within labels.names a x at, get_or_from_slice_get labels.names a x x at)

  pub edge_names : (a b : ℕ) (x y : LabelName) (m : Mark) → Named a x → Named b y → Edged a b m → IsEdge program x y m
  edge_names a b x y m h k e =
      let named = (edges.each a b m).0 e in
      subst (λ x. IsEdge program x y m) (one_named a named.0 x named.2 h) (subst (λ y. IsEdge program named.0 y m) (one_named b named.1 y named.3 k) named.4)

  pub named_edge : (a b : ℕ) (x y : LabelName) (m : Mark) → Named a x → Named b y → IsEdge program x y m → Edged a b m
  named_edge a b x y m h k e = (edges.each a b m).1 (x, y, h, k, e)

  pub alike : (x y : LabelName) (m : Mark) → IsEdge program x y m → IsAlike program.types.types (ty x) (ty y)
  alike x y m e = join_alike program is lowered x y m e

  node_of_type : {t : ℕ} {n : NodeId} → IsNodeOf program.types t n → IsNode program.types n
  node_of_type (node_start n at) = at.node
  node_of_type (node_part m n s of steps) = steps.node

  pub has_node : (x : LabelName) → IsLabel program x → IsNode program.types x.node
  has_node x label = node_of_type (label_there program x label).of

  -- the part of another label in its own holder
  pub in_holder : (y : LabelName) (n : NodeId) (s : Sel) → Steps program.types y.node s n → IsPart program y s (name_with y.holder n)
  in_holder y n s steps = record { holder = refl; steps = steps }

  -- where a pointer points, another of its type points too
  other_target : (x y x' : LabelName) → IsAlike program.types.types (ty x) (ty y) → IsLabel program y → IsPart program x Target x' → (y' : LabelName) × IsPart program y Target y' × IsLabel program y'
  other_target x y x' same label part =
      let there = target_too program.types is x.node y.node x'.node (has_node y label) same part.steps in
      let found = in_holder y there.0 Target there.1 in
      (name_with y.holder there.0, found, label_part program (label_there program y label) refl found)

  stays_too : (x y : LabelName) (s : Sel) → stays_inside s ≡ true → IsAlike program.types.types (ty x) (ty y) → leads_inside (form_of program.types x.node) s ≡ true → leads_inside (form_of program.types y.node) s ≡ true
  stays_too x y Target stays same h = absurd (false≢true stays)
  stays_too x y Element stays same h = refl
  stays_too x y (Field k) stays same h = subst (λ b. not b ≡ true) (function_too program.types is (ty x) (ty y) same) h
  stays_too x y (Part t) stays same h = refl

  other_node : (x y x' : LabelName) (s : Sel) → stays_inside s ≡ true → IsAlike program.types.types (ty x) (ty y) → IsNode program.types y.node → Steps program.types x.node s x'.node → (n : NodeId) × Steps program.types y.node s n
  other_node x y x' Target stays same ok steps = absurd (false≢true stays)
  other_node x y x' Element stays same ok steps = element_too program.types is x.node y.node x'.node ok same steps
  other_node x y x' (Field k) stays same ok steps = field_too_there program.types is x.node y.node k x'.node ok same steps
  other_node x y x' (Part t) stays same ok steps = absurd (false≢true stays)

  -- and where there is a field or an element, another has it too
  other_field : (x y x' : LabelName) (s : Sel) → stays_inside s ≡ true → IsAlike program.types.types (ty x) (ty y) → IsLabel program y → IsInside program x s x' → (y' : LabelName) × IsInside program y s y' × IsLabel program y'
  other_field x y x' s stays same label inner =
      let there = other_node x y x' s stays same (has_node y label) inner.part.steps in
      let leads = stays_too x y s stays same inner.inside in
      let found = in_holder y there.0 s there.1 in
      (name_with y.holder there.0, record { inside = leads; part = found }, label_part program (label_there program y label) (inside_to_place (form_of program.types y.node) s leads) found)

  global_is : (a : ℕ) (x : LabelName) → Named a x → is_global_at labels a ≡ is_global_holder program x.holder
  global_is a x at =
      let within : a < length labels.entries = subst (λ n. a < n) in_range.named (slice_get_within labels.names a x at) in
      let entry = entry_there a within in
      ap (λ o. option_map_or (λ entry. entry.is_global) o false) entry.1 ∙ (are.entries a x entry.0 at entry.1).global
    where
      entry_there : (a : ℕ) → a < length labels.entries → (entry : LabelEntry) × (slice_get labels.entries a ≡ Some entry)
      entry_there a within = of (slice_get labels.entries a) refl
        where
          of : (o : Option LabelEntry) → slice_get labels.entries a ≡ o → (entry : LabelEntry) × (slice_get labels.entries a ≡ Some entry)
          of None e = absurd (none_within labels.entries a e within)
          of (Some entry) e = (entry, e)

  pub one_global : (a b : ℕ) (x y : LabelName) → Named a x → Named b y → y.holder ≡ x.holder → is_global_at labels b ≡ is_global_at labels a
  one_global a b x y h k holder = global_is b y k ∙ ap (is_global_holder program) holder ∙ sym (global_is a x h)

  abbrev IsField : Sel → ℕ → ℕ → Type 0
  IsField = IsFieldAt program labels

  one_field : (s : Sel) (a b c : ℕ) → IsField s a b → IsField s a c → b ≡ c
  one_field s a b c p q =
      let whole = one_named a p.whole q.whole p.whole_at q.whole_at in
      one_number b c p.field q.field p.field_at q.field_at (one_part (subst (λ x. IsPart program x s p.field) whole p.leads.part) q.leads.part)

  field_on : (s : Sel) (a b c : ℕ) (m : Mark) → Edged a b m → IsField s a c → (d : ℕ) × IsField s b d
  field_on s a b c m e p =
      let named = (edges.each a b m).0 e in
      let edge = subst (λ x. IsEdge program x named.1 m) (one_named a named.0 p.whole named.2 p.whole_at) named.4 in
      let other = other_field p.whole named.1 p.field s p.stays (alike p.whole named.1 m edge) (join_labels program p.whole named.1 m edge).1 p.leads in
      let number = numbered other.0 other.2 in
      (number.0, record { whole = named.1; field = other.0; whole_at = named.3; field_at = number.1; stays = p.stays; leads = other.1 })

  field_back : (s : Sel) (a b d : ℕ) (m : Mark) → Edged a b m → IsField s b d → (c : ℕ) × IsField s a c
  field_back s a b d m e q =
      let named = (edges.each a b m).0 e in
      let edge = subst (λ y. IsEdge program named.0 y m) (one_named b named.1 q.whole named.3 q.whole_at) named.4 in
      let other = other_field q.whole named.0 q.field s q.stays (back program.types.types (alike named.0 q.whole m edge)) (join_labels program named.0 q.whole m edge).0 q.leads in
      let number = numbered other.0 other.2 in
      (number.0, record { whole = named.0; field = other.0; whole_at = named.2; field_at = number.1; stays = q.stays; leads = other.1 })

  fields_joined : (s : Sel) (a b c d : ℕ) (m : Mark) → Edged a b m → IsField s a c → IsField s b d → Edged c d m
  fields_joined s a b c d m e p q =
      named_edge c d p.field q.field m p.field_at q.field_at (inside s (edge_names a b p.whole q.whole m p.whole_at q.whole_at e) p.leads q.leads)

  abbrev IsTarget : ℕ → ℕ → Type 0
  IsTarget = PointsAt program labels

  target_back : (a b d : ℕ) (m : Mark) → Edged a b m → IsTarget b d → (c : ℕ) × IsTarget a c
  target_back a b d m e q =
      let named = (edges.each a b m).0 e in
      let edge = subst (λ y. IsEdge program named.0 y m) (one_named b named.1 q.pointer named.3 q.pointer_at) named.4 in
      let other = other_target q.pointer named.0 q.target (back program.types.types (alike named.0 q.pointer m edge)) (join_labels program named.0 q.pointer m edge).0 q.leads in
      let number = numbered other.0 other.2 in
      (number.0, record { pointer = named.0; target = other.0; pointer_at = named.2; target_at = number.1; leads = other.1 })

  pub target_contents : AreContents Edged (is_global_at labels) IsField IsTarget
  target_contents = record {
    one_part = one_field;
    one_target = λ a b c p q. (let pointer = one_named a p.pointer q.pointer p.pointer_at q.pointer_at in one_number b c p.target q.target p.target_at q.target_at (one_part (subst (λ x. IsPart program x Target p.target) pointer p.leads) q.leads));
    part_there = field_on;
    part_back = field_back;
    target_back = target_back;
    parts = fields_joined;
    targets = λ a b c d m e p q. named_edge c d p.target q.target m p.target_at q.target_at (forth (edge_names a b p.pointer q.pointer m p.pointer_at q.pointer_at e) p.leads q.leads);
    backwards = λ a b c d m e p q. named_edge d c q.target p.target (opposite m) q.target_at p.target_at (backwards (edge_names a b p.pointer q.pointer m p.pointer_at q.pointer_at e) p.leads q.leads);
    part_global = λ s a b p. one_global a b p.whole p.field p.whole_at p.field_at p.leads.part.holder;
    target_global = λ a b p. one_global a b p.pointer p.target p.pointer_at p.target_at p.leads.holder;
  }

  abbrev IsPartOf : ℕ → ℕ → ℕ → Type 0
  IsPartOf n = PointsAtPart program labels n

  one_part_of : (n a b c : ℕ) → IsPartOf n a b → IsPartOf n a c → b ≡ c
  one_part_of n a b c p q =
      let pointer = one_named a p.pointer q.pointer p.pointer_at q.pointer_at in
      let void = one_part (subst (λ x. IsPart program x Target p.void) pointer p.leads) q.leads in
      one_number b c p.part q.part p.part_at q.part_at (one_part (subst (λ x. IsPart program x (Part n) p.part) void p.part_of.part) q.part_of.part)

  -- where a pointer points to void, another of its type does so, and that void has the same Parts
  part_back : (n a b d : ℕ) (m : Mark) → Edged a b m → IsPartOf n b d → (c : ℕ) × IsPartOf n a c
  part_back n a b d m e q =
      let table = program.types in
      let named = (edges.each a b m).0 e in
      let edge = subst (λ y. IsEdge program named.0 y m) (one_named b named.1 q.pointer named.3 q.pointer_at) named.4 in
      let same_type = back table.types (alike named.0 q.pointer m edge) in
      let other = other_target q.pointer named.0 q.void same_type (join_labels program named.0 q.pointer m edge).0 q.leads in
      let void_type = tag_type table is q.void.node q.leads.steps.node (part_of_tag table is (node_of table q.void.node) (node_of table q.part.node) n q.part_of.part.steps.leads) in
      let targets_alike = parts_alike table is (node_of table q.pointer.node) (node_of table named.0.node) (node_of table q.void.node) (node_of table other.0.node) Target same_type q.leads.steps.leads other.1.steps.leads in
      let void_here = sym (void_too table is (ty q.void) (ty other.0) targets_alike) ∙ void_type in
      let tag = points_to_tag table is (node_of table named.0.node) (node_of table other.0.node) other.1.steps.leads void_here in
      let steps : Steps table other.0.node (Part n) q.part.node = record {
        node = q.part_of.part.steps.node;
        leads = part_too table is (node_of table q.void.node) (node_of table other.0.node) (node_of table q.part.node) n q.part_of.part.steps.leads tag;
      } in
      let found = in_holder other.0 q.part.node (Part n) steps in
      let number = numbered (name_with other.0.holder q.part.node) (label_part program (label_there program other.0 other.2) refl found) in
      (number.0, record { pointer = named.0; void = other.0; part = name_with other.0.holder q.part.node; pointer_at = named.2; part_at = number.1; leads = other.1; part_of = record { inside = refl; part = found } })

  pub part_contents : (n : ℕ) → AreContents Edged (is_global_at labels) IsField (IsPartOf n)
  part_contents n = record {
    one_part = one_field;
    one_target = one_part_of n;
    part_there = field_on;
    part_back = field_back;
    target_back = part_back n;
    parts = fields_joined;
    targets = λ a b c d m e p q. named_edge c d p.part q.part m p.part_at q.part_at (inside (Part n) (forth (edge_names a b p.pointer q.pointer m p.pointer_at q.pointer_at e) p.leads q.leads) p.part_of q.part_of);
    backwards = λ a b c d m e p q. named_edge d c q.part p.part (opposite m) q.part_at p.part_at (inside (Part n) (backwards (edge_names a b p.pointer q.pointer m p.pointer_at q.pointer_at e) p.leads q.leads) q.part_of p.part_of);
    part_global = λ s a b p. one_global a b p.whole p.field p.whole_at p.field_at p.leads.part.holder;
    target_global = λ a b p. one_global a b p.pointer p.part p.pointer_at p.part_at (p.part_of.part.holder ∙ p.leads.holder);
  }

  leads_of : {path : List Sel} {a b : ℕ} → LeadsTo program labels path a b → Leads IsField path a b
  leads_of here = leads_here
  leads_of (into field rest) = leads_into field (leads_of rest)

  held : {target : ℕ → ℕ → Type 0} {path : List Sel} {a x s : ℕ} → LeadsTo program labels path a x → target x s → Holds IsField target path [] a s
  held {x = x} {s = s} leads points = record { at = x; points_to = s; path = leads_of leads; pointer = points; behind = leads_here }

  pub one_content : (o b : ℕ) (c d : List ℕ) → Walk Edged (is_global_at labels) o c b d → HaveOneContent program labels es o c b d
  one_content o b c d walk = record {
    targets = λ path x y s t at_x at_y points points'. contents target_contents s (held at_x points) walk t (held at_y points');
    parts = λ path n x y s t at_x at_y points points'. contents (part_contents n) s (held at_x points) walk t (held at_y points');
  }
