-- Entries and targets, one after the other.
use Rattle.std.proofs.Common.{◌≡◌, ℕ, ◌+◌, ◌<◌, ◌⊎◌, List, [], ◌∷◌, ◌++◌, length, get_or, Option, Some, None, All, inl, inr, refl, sym, ap, ◌∙◌, subst, arith}
use Rattle.std.specs.Prelude.{slice_get, IfSome}
use Rattle.std.proofs.lemmas.Bool.{cases_lt}
use Rattle.std.proofs.lemmas.List.{length_push}
use Rattle.std.proofs.lemmas.Option.{none-some, slice_get-get_or, slice_get_within, same_Some}
use Rattle.lk_facts.specs.LabelRules.{AreLabels, IsEntryOf, IsLabel, IsPart, IsWhole, NamesPlace, is_root}
use Rattle.lk_facts.specs.LabelRules.NamesPlace.{start as start_named, part as part_named}
use Rattle.lk_facts.specs.Labels.{AreLabelsInRange, labels_of, name_with}
use Rattle.lk_facts.specs.Places.{AreDifferent, IsMissing}
use Rattle.lk_facts.specs.Program.{value_type_at}
use Rattle.lk_facts.specs.declared.label_entry.LabelEntry.{LabelEntry}
use Rattle.lk_facts.specs.declared.label_entry.LabelName.{LabelName}
use Rattle.lk_facts.specs.declared.program.Program.{Program}
use Rattle.lk_facts.specs.declared.root.Holder.TheVariants.{Point}
use Rattle.lk_types.specs.Nodes.{IsNode, first, node_of, step}
use Rattle.lk_types.specs.Table.{Table}
use Rattle.lk_types.specs.declared.node.Base.TheVariants.{Start}
use Rattle.lk_types.specs.declared.node.NodeId.{NodeId}
use Rattle.lk_types.specs.declared.node.Sel.TheVariants.{Target}
use Rattle.lk_label.specs.Gathering.{AreOrdered}
use Rattle.lk_label.specs.Listing.{AreEntriesOf, AreTargets, IsTarget}
use Rattle.lk_label.proofs.NameLists.{name_equal}
use Rattle.lk_label.proofs.NodeLists.{got_early}
use Rattle.lk_label.proofs.WalkSteps.{last_got, one_id}

-- what a list with one more has at a place
pub last_or_early : {X : Type 0} (xs : List X) (y : X) (l : ℕ) (x : X) → slice_get (xs ++ y ∷ []) l ≡ Some x → (slice_get xs l ≡ Some x) ⊎ ((l ≡ length xs) × (x ≡ y))
last_or_early xs y l x at = elim (cases_lt l (length xs)) [
  | inl early ↦
      let here = slice_get-get_or xs l x early in
      inl (here ∙ (sym (got_early xs (y ∷ []) l (get_or xs l x) here) ∙ at))
  | inr late ↦
      let within = slice_get_within (xs ++ y ∷ []) l x at in
      let long = length_push xs y in
      let level : l ≡ length xs = omega (arith, late, within, long) in
      inr (level, same_Some x y (sym at ∙ (ap (slice_get (xs ++ y ∷ [])) level ∙ last_got xs y)))
]

-- the Start of a type, and the node that it points to
pub record AimsAt (table : Table) (t : ℕ) (start node : NodeId) : Type 0 where
  pub is : IsNode table start
  pub begins : node_of table start ≡ first (Start t)
  pub node_is : IsNode table node
  pub leads : Some (node_of table node) ≡ step table (node_of table start) Target

module _ (program : Program) where
  -- a label's node is one
  pub label_node : (x : LabelName) → IsLabel program x → IsNode program.types x.node
  label_node x (t, has, names) = of names
    where
      of : {n : NodeId} → NamesPlace program.types t (is_root x.holder) n → IsNode program.types n
      of (start_named n whole is) = is.node
      of (part_named m n s from leads steps) = steps.node

  pub entries_none : AreEntriesOf program [] []
  entries_none = record { count = refl; each = λ l x entry at there. absurd (none-some x at) }

  pub entries_more : (names : List LabelName) (entries : List LabelEntry) (x : LabelName) (entry : LabelEntry) → AreEntriesOf program names entries → IsEntryOf program x entry → AreEntriesOf program (names ++ x ∷ []) (entries ++ entry ∷ [])
  entries_more names entries x entry before is = record {
    count = (let a = length_push names x in let b = length_push entries entry in let on = before.count in omega (arith, a, b, on));
    each = each;
  }
    where
      each : (l : ℕ) (y : LabelName) (e : LabelEntry) → slice_get (names ++ x ∷ []) l ≡ Some y → slice_get (entries ++ entry ∷ []) l ≡ Some e → IsEntryOf program y e
      each l y e y_at e_at = elim (last_or_early names x l y y_at) [
        | inl early ↦ elim (last_or_early entries entry l e e_at) [
          | inl also ↦ before.each l y e early also
          | inr late ↦ (let within = slice_get_within names l y early in let level = late.0 in let on = before.count in absurd (omega (arith, within, level, on)))
        ]
        | inr late ↦ elim (last_or_early entries entry l e e_at) [
          | inl early ↦ (let within = slice_get_within entries l e early in let level = late.0 in let on = before.count in absurd (omega (arith, within, level, on)))
          | inr also ↦ subst (λ z. IsEntryOf program z e) (sym late.1) (subst (IsEntryOf program x) (sym also.1) is)
        ]
      ]

  pub targets_none : (names : List LabelName) → AreTargets program names 0 []
  targets_none names = record { count = refl; each = λ p target at. absurd (none-some target at) }

  pub targets_more : (names : List LabelName) (n : ℕ) (targets : List (Option ℕ)) (target : Option ℕ) → AreTargets program names n targets → IsTarget program names n target → AreTargets program names (n + 1) (targets ++ target ∷ [])
  targets_more names n targets target before is = record {
    count = length_push targets target ∙ ap (λ k. k + 1) before.count;
    each = λ p other at. elim (last_or_early targets target p other at) [
      | inl early ↦ before.each p other early
      | inr late ↦ subst (λ q. IsTarget program names q other) (sym (late.0 ∙ before.count)) (subst (IsTarget program names n) (sym late.1) is)
    ];
  }

  -- the label of the target of a point, where it has one
  at_start : (p t : ℕ) (start : NodeId) → value_type_at program p ≡ Some t → IsNode program.types start → node_of program.types start ≡ first (Start t) → (x : LabelName) → IsWhole program (Point p) x → x.node ≡ start
  at_start p t start has is first_is x whole =
      let value : value_type_at program p ≡ Some whole.ty = whole.has in
      let one : whole.ty ≡ t = same_Some whole.ty t (sym value ∙ has) in
      one_id program.types x.node start whole.start.node is (whole.start.first ∙ (ap (λ u. first (Start u)) one ∙ sym first_is))

  at_target : (p t : ℕ) (start node : NodeId) → value_type_at program p ≡ Some t → IsNode program.types start → node_of program.types start ≡ first (Start t) → IsNode program.types node →
      Some (node_of program.types node) ≡ step program.types (node_of program.types start) Target → (x y : LabelName) → IsWhole program (Point p) x → IsPart program x Target y → name_with (Point p) node ≡ y
  at_target p t start node has is first_is node_is leads x y whole part =
      let here = at_start p t start has is first_is x whole in
      let to : Some (node_of program.types node) ≡ Some (node_of program.types y.node) = leads ∙ subst (λ n. step program.types (node_of program.types n) Target ≡ Some (node_of program.types y.node)) here part.steps.leads in
      name_equal (Point p) node y (part.holder ∙ whole.holder) (one_id program.types node y.node node_is part.steps.node (same_Some (node_of program.types node) (node_of program.types y.node) to))

  pub no_label : (names : List LabelName) (p t : ℕ) (start node : NodeId) → value_type_at program p ≡ Some t → AimsAt program.types t start node → IsMissing names (name_with (Point p) node) → IsTarget program names p None
  no_label names p t start node has aims out = record {
    exact = λ l target. out l (target.4 ∙ ap Some (sym (at_target p t start node has aims.is aims.begins aims.node_is aims.leads target.0 target.1 target.2 target.3)));
    in_range = tt;
  }

  pub a_label : (names : List LabelName) (p t number : ℕ) (start node : NodeId) → value_type_at program p ≡ Some t → AimsAt program.types t start node → slice_get names number ≡ Some (name_with (Point p) node) → IsTarget program names p (Some number)
  a_label names p t number start node has aims at = record {
    exact = (name_with (Point p) start, name_with (Point p) node, record { holder = refl; ty = t; has = has; start = record { node = aims.is; first = aims.begins } }, record { holder = refl; steps = record { node = aims.node_is; leads = sym aims.leads } }, at);
    in_range = slice_get_within names number (name_with (Point p) node) at;
  }

  targets_below : (names : List LabelName) (n : ℕ) (targets : List (Option ℕ)) (count : ℕ) → length names ≡ count → AreTargets program names n targets → All (λ target. IfSome target (λ l. l < count)) targets
  targets_below names n targets count same are k d below =
      subst (λ c. IfSome (get_or targets k d) (λ l. l < c)) same (are.each k (get_or targets k d) (slice_get-get_or targets k d below)).in_range

  -- all is found: these are the labels
  pub labels_in_range : (names : List LabelName) (entries : List LabelEntry) (targets : List (Option ℕ)) → AreOrdered program names → AreDifferent names → AreEntriesOf program names entries → AreTargets program names (length program.points) targets →
      AreLabelsInRange (labels_of names entries targets)
  labels_in_range names entries targets ordered different listed aimed = record {
    few = (let few = ordered.few in let count = listed.count in omega (arith, few, count));
    named = sym listed.count;
    different = different;
    targets = targets_below names (length program.points) targets (length entries) (sym listed.count) aimed;
  }

  pub are_labels : (names : List LabelName) (entries : List LabelEntry) (targets : List (Option ℕ)) → AreOrdered program names → AreDifferent names → AreEntriesOf program names entries → AreTargets program names (length program.points) targets → AreLabels program (labels_of names entries targets)
  are_labels names entries targets ordered different listed aimed = record {
    each = ordered.each;
    different = different;
    ordered = ordered.ordered;
    entries = listed.each;
    points = aimed.count;
    targets = λ p target at. (aimed.each p target at).exact;
  }
