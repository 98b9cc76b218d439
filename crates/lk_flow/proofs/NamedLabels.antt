-- Labels by their names: what a holder points to, the place of a root, and the parts of a label.
use Rattle.std.proofs.Common.{◌≡◌, ◌↔◌, ℕ, Bool, true, false, Option, Some, None, refl, sym, ap, ◌∙◌, subst}
use Rattle.std.specs.Prelude.{slice_get}
use Rattle.std.specs.Option.{option_map}
use Rattle.std.proofs.lemmas.Bool.{false≢true}
use Rattle.std.proofs.lemmas.Option.{none-some, same_Some}
use Rattle.lk_facts.specs.EdgeRules.{IsInside, Of}
use Rattle.lk_facts.specs.LabelRules.{AreLabels, IsLabel, IsNodeOf, IsPart, IsStart, IsWhole, NamesPlace, Steps, form_of, leads_inside, leads_to_place}
use Rattle.lk_facts.specs.LabelRules.IsNodeOf.{start as start_node, part as part_node}
use Rattle.lk_facts.specs.LabelRules.NamesPlace.{start as start_named, part as part_named}
use Rattle.lk_facts.specs.Labels.{LabelTable, name_with}
use Rattle.lk_facts.specs.Places.{IsNumberOf}
use Rattle.lk_facts.specs.Typed.{IsHolderType}
use Rattle.lk_facts.specs.declared.label_entry.LabelName.{LabelName}
use Rattle.lk_facts.specs.declared.program.Program.{Program}
use Rattle.lk_facts.specs.declared.root.Holder.{Holder}
use Rattle.lk_facts.specs.declared.root.Root.{Root as RootOf}
use Rattle.lk_facts.specs.declared.root.Holder.TheVariants.{Root}
use Rattle.lk_types.specs.Nodes.{IsNode, first, node_of, step}
use Rattle.lk_types.specs.declared.node.Base.TheVariants.{Start}
use Rattle.lk_types.specs.declared.node.NodeId.{NodeId}
use Rattle.lk_types.specs.declared.node.Sel.{Sel}
use Rattle.lk_types.specs.declared.node.Sel.TheVariants.{Target}
use Rattle.lk_types.proofs.PathLemmas.{equal_nodes_have_equal_ids}
use Rattle.lk_flow.specs.Finding.{Finds, FindsPart, FindsTarget}
use Rattle.lk_flow.specs.Finding.FindsTarget.{nowhere as leads_nowhere, somewhere}
use Rattle.lk_label.proofs.WalkSteps.{contains_got, got_contains}
use Rattle.lk_laws.proofs.EdgeEnds.{inside_to_place}

pub name_equal : (h : Holder) (n : NodeId) (x : LabelName) → x.holder ≡ h → x.node ≡ n → x ≡ name_with h n
name_equal h n x holder node = λ i. record { holder = holder i; node = node i }

module _ (program : Program) (labels : LabelTable) (are : AreLabels program labels) where
  -- the label of a value or place that is one, where nothing else is so named
  pub label_found : (X : LabelName → Type 0) (y : LabelName) (found : Option ℕ) → IsNumberOf labels.names y found → X y → IsLabel program y → ((x : LabelName) → X x → x ≡ y) → Finds labels.names X found
  label_found X y None out is label only = let there = (are.each y).1 label in absurd (out there.0 (got_contains labels.names y there))
  label_found X y (Some l) at is label only = record { name = y; at = at; is = is; only = only }

  -- a step leads from one node to one node
  one_step : (m n k : NodeId) (s : Sel) → IsNode program.types n → Some (node_of program.types n) ≡ step program.types (node_of program.types m) s → Steps program.types m s k → k ≡ n
  one_step m n k s is leads steps = equal_nodes_have_equal_ids program.types k n steps.node is (same_Some (node_of program.types k) (node_of program.types n) (sym steps.leads ∙ sym leads))

  one_start : (h : Holder) (t : ℕ) (start : NodeId) → ((u : ℕ) → IsHolderType program h u ↔ (Some t ≡ Some u)) → IsNode program.types start → node_of program.types start ≡ first (Start t) → (x : LabelName) → IsWhole program h x → x.node ≡ start
  one_start h t start types is begins x whole =
      let same : t ≡ whole.ty = same_Some t whole.ty ((types whole.ty).0 whole.has) in
      equal_nodes_have_equal_ids program.types x.node start whole.start.node is (whole.start.first ∙ (ap (λ u. first (Start u)) (sym same) ∙ sym begins))

  -- what a holder points to
  pub pointee_found : (h : Holder) (t : ℕ) (start node : NodeId) (found : Option ℕ) → ((u : ℕ) → IsHolderType program h u ↔ (Some t ≡ Some u)) → IsNode program.types start → node_of program.types start ≡ first (Start t) → IsNode program.types node →
      Some (node_of program.types node) ≡ step program.types (node_of program.types start) Target → IsNumberOf labels.names (name_with h node) found → Finds labels.names (Of program (IsWhole program h) Target) found
  pointee_found h t start node found types is begins node_is leads number =
      label_found (Of program (IsWhole program h) Target) (name_with h node) found number
      (name_with h start, record { holder = refl; ty = t; has = has; start = start_is }, record { holder = refl; steps = steps })
      (t, has, part_named start node Target (start_node start start_is) refl steps)
      (λ u of. name_equal h node u (of.2.holder ∙ of.1.holder) (one_step start node u.node Target node_is leads (record { node = of.2.steps.node; leads = subst (λ n. step program.types (node_of program.types n) Target ≡ Some (node_of program.types u.node)) (one_start h t start types is begins of.0 of.1) of.2.steps.leads })))
    where
      has : IsHolderType program h t
      has = (types t).1 refl

      start_is : IsStart program.types t start
      start_is = record { node = is; first = begins }

      steps : Steps program.types start Target node
      steps = record { node = node_is; leads = sym leads }

  -- the place of a root
  pub place_found : (r t : ℕ) (start : NodeId) (found : Option ℕ) → IsHolderType program (Root r) t → ((u : ℕ) → IsHolderType program (Root r) u → t ≡ u) → IsNode program.types start → node_of program.types start ≡ first (Start t) →
      IsNumberOf labels.names (name_with (Root r) start) found → Finds labels.names (IsWhole program (Root r)) found
  place_found r t start found has one is begins number =
      label_found (IsWhole program (Root r)) (name_with (Root r) start) found number
      (record { holder = refl; ty = t; has = has; start = record { node = is; first = begins } })
      (t, has, start_named start refl (record { node = is; first = begins }))
      (λ x whole. name_equal (Root r) start x whole.holder (equal_nodes_have_equal_ids program.types x.node start whole.start.node is (whole.start.first ∙ (ap (λ u. first (Start u)) (sym (one whole.ty whole.has)) ∙ sym begins))))

  node_named : {t : ℕ} {whole : Bool} {n : NodeId} → NamesPlace program.types t whole n → IsNodeOf program.types t n
  node_named (start_named n is first) = start_node n first
  node_named (part_named m n s of leads steps) = part_node m n s of steps

  -- a part of a label
  pub no_part : (x : LabelName) (s : Sel) → None ≡ step program.types (node_of program.types x.node) s → (u : LabelName) → IsPart program x s u → ⊥
  no_part x s nowhere u part = none-some (node_of program.types u.node) (nowhere ∙ part.steps.leads)

  pub part_found : (x : LabelName) (s : Sel) (node : NodeId) (found : Option ℕ) → IsNode program.types node → Some (node_of program.types node) ≡ step program.types (node_of program.types x.node) s →
      IsNumberOf labels.names (name_with x.holder node) found → FindsPart program labels.names x s found
  part_found x s node found is leads number = λ label to.
      label_found (IsPart program x s) (name_with x.holder node) found number
      (record { holder = refl; steps = record { node = is; leads = sym leads } })
      (label.0, label.1, part_named x.node node s (node_named label.2) to (record { node = is; leads = sym leads }))
      (λ u part. name_equal x.holder node u part.holder (one_step x.node node u.node s is leads part.steps))

  -- what a label's field points to
  pub behind_found : (x : LabelName) (s : Sel) (field node : NodeId) (found : Option ℕ) → IsLabel program x → IsNode program.types field → Some (node_of program.types field) ≡ step program.types (node_of program.types x.node) s →
      IsNode program.types node → Some (node_of program.types node) ≡ step program.types (node_of program.types field) Target → IsNumberOf labels.names (name_with x.holder node) found → Finds labels.names (Of program (IsPart program x s) Target) found
  behind_found x s field node found label field_is to_field is leads number =
      label_found (Of program (IsPart program x s) Target) (name_with x.holder node) found number
      (name_with x.holder field, record { holder = refl; steps = first_step }, record { holder = refl; steps = second_step })
      (label.0, label.1, part_named field node Target (part_node x.node field s (node_named label.2) first_step) refl second_step)
      (λ u of. name_equal x.holder node u (of.2.holder ∙ of.1.holder) (one_step field node u.node Target is leads (record { node = of.2.steps.node; leads = subst (λ n. step program.types (node_of program.types n) Target ≡ Some (node_of program.types u.node)) (one_step x.node field of.0.node s field_is to_field of.1.steps) of.2.steps.leads })))
    where
      first_step : Steps program.types x.node s field
      first_step = record { node = field_is; leads = sym to_field }

      second_step : Steps program.types field Target node
      second_step = record { node = is; leads = sym leads }

  pub no_field : (x : LabelName) (s : Sel) → None ≡ step program.types (node_of program.types x.node) s → Finds labels.names (Of program (IsPart program x s) Target) None
  no_field x s nowhere = λ u of. no_part x s nowhere of.0 of.1

  pub no_field_target : (x : LabelName) (s : Sel) (field : NodeId) → IsNode program.types field → Some (node_of program.types field) ≡ step program.types (node_of program.types x.node) s → None ≡ step program.types (node_of program.types field) Target →
      Finds labels.names (Of program (IsPart program x s) Target) None
  no_field_target x s field is to_field nowhere = λ u of.
      none-some (node_of program.types u.node) (nowhere ∙ subst (λ n. step program.types (node_of program.types n) Target ≡ Some (node_of program.types u.node)) (one_step x.node field of.0.node s is to_field of.1.steps) of.2.steps.leads)

  pub field_target : (x : LabelName) (s : Sel) (field : NodeId) (found : Option ℕ) → IsLabel program x → Steps program.types x.node s field → FindsTarget program.types labels.names x.holder field found → Finds labels.names (Of program (IsPart program x s) Target) found
  field_target x s field None label steps (leads_nowhere none) = no_field_target x s field steps.node (sym steps.leads) none
  field_target x s field found label steps (somewhere m _ leads number) = behind_found x s field m found label steps.node (sym steps.leads) leads.node (sym leads.leads) number

  -- a label's part is inside it where the step leads there
  pub inside_found : (x : LabelName) (s : Sel) (found : Option ℕ) → leads_inside (form_of program.types x.node) s ≡ true → Finds labels.names (IsPart program x s) found → Finds labels.names (IsInside program x s) found
  inside_found x s None leads none = λ u is. none u is.part
  inside_found x s (Some l) leads one = record { name = one.name; at = one.at; is = record { inside = leads; part = one.is }; only = λ u is. one.only u is.part }

  pub none_inside : (x : LabelName) (s : Sel) → leads_inside (form_of program.types x.node) s ≡ false → Finds labels.names (IsInside program x s) None
  none_inside x s isnt = λ u is. false≢true (sym isnt ∙ is.inside)

  -- the label with a number
  pub named_at : (l : ℕ) (x : LabelName) → slice_get labels.names l ≡ Some x → IsLabel program x
  named_at l x at = (are.each x).0 (contains_got labels.names l x at)

  label_node : (x : LabelName) → IsLabel program x → IsNode program.types x.node
  label_node x label = of (node_named label.2)
    where
      of : {t : ℕ} {n : NodeId} → IsNodeOf program.types t n → IsNode program.types n
      of (start_node n is) = is.node
      of (part_node m n s from steps) = steps.node

  pub node_there : (l : ℕ) (n : NodeId) → option_map (λ (x : LabelName). x.node) (slice_get labels.names l) ≡ Some n → IsNode program.types n
  node_there l n is = go (slice_get labels.names l) refl is
    where
      go : (o : Option LabelName) → slice_get labels.names l ≡ o → option_map (λ (x : LabelName). x.node) o ≡ Some n → IsNode program.types n
      go None at none = absurd (none-some n none)
      go (Some x) at same = subst (IsNode program.types) (same_Some x.node n same) (label_node x (named_at l x at))

  pub root_type : (r : ℕ) (root : RootOf) → slice_get program.roots r ≡ Some root → (u : ℕ) → IsHolderType program (Root r) u → root.ty ≡ u
  root_type r root at u its = ap (λ (a : RootOf). a.ty) (same_Some root its.0 (sym at ∙ its.1)) ∙ its.2

  -- the part of a label that is found, from what names it
  pub part_from : (l : ℕ) (x : LabelName) (s : Sel) (found : Option ℕ) → slice_get labels.names l ≡ Some x → leads_to_place (form_of program.types x.node) s ≡ true → FindsPart program labels.names x s found → (y : LabelName) → slice_get labels.names l ≡ Some y → Finds labels.names (IsPart program y s) found
  part_from l x s found at leads part y y_at = subst (λ z. Finds labels.names (IsPart program z s) found) (same_Some x y (sym at ∙ y_at)) (part (named_at l x at) leads)

  pub inside_from : (l : ℕ) (x : LabelName) (s : Sel) (found : Option ℕ) → slice_get labels.names l ≡ Some x → leads_inside (form_of program.types x.node) s ≡ true → FindsPart program labels.names x s found → (y : LabelName) → slice_get labels.names l ≡ Some y → Finds labels.names (IsInside program y s) found
  inside_from l x s found at leads part y y_at = subst (λ z. Finds labels.names (IsInside program z s) found) (same_Some x y (sym at ∙ y_at)) (inside_found x s found leads (part (named_at l x at) (inside_to_place (form_of program.types x.node) s leads)))

  pub not_inside_from : (l : ℕ) (x : LabelName) (s : Sel) → slice_get labels.names l ≡ Some x → leads_inside (form_of program.types x.node) s ≡ false → (y : LabelName) → slice_get labels.names l ≡ Some y → Finds labels.names (IsInside program y s) None
  not_inside_from l x s at isnt y y_at = subst (λ z. Finds labels.names (IsInside program z s) None) (same_Some x y (sym at ∙ y_at)) (none_inside x s isnt)

  pub behind_from : (l : ℕ) (x : LabelName) (s : Sel) (field : NodeId) (found : Option ℕ) → slice_get labels.names l ≡ Some x → Steps program.types x.node s field → FindsTarget program.types labels.names x.holder field found → (y : LabelName) → slice_get labels.names l ≡ Some y →
      Finds labels.names (Of program (IsPart program y s) Target) found
  behind_from l x s field found at steps target y y_at = subst (λ z. Finds labels.names (Of program (IsPart program z s) Target) found) (same_Some x y (sym at ∙ y_at)) (field_target x s field found (named_at l x at) steps target)
