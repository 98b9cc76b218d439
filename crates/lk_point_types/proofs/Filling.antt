-- The points that give pointers to the places of cells that are filled.
use Rattle.std.proofs.Common.{◌≡◌, ◌∙◌, ◌≤◌, ◌<◌, ◌+◌, ℕ, zero, suc, false, true, List, inl, inr, ◌∷◌, Option, Some, None, All, refl, sym, ap, subst, arith}
use Rattle.std.proofs.lemmas.Bool.Decides.{nat_tests}
use Rattle.std.specs.Option.{option_map}
use Rattle.std.specs.Prelude.{slice_get, IfSome}
use Rattle.std.proofs.lemmas.Option.{none-some, same_Some}
use Rattle.lk_facts.proofs.Sets.{All-got}
use Rattle.lk_facts.specs.LabelRules.{IsStart, Steps}
use Rattle.lk_facts.specs.declared.program.Program.{Program}
use Rattle.lk_types.proofs.KeptLemmas.{small_at, lower_form}
use Rattle.lk_types.proofs.NodeLemmas.{field_known}
use Rattle.lk_types.proofs.SubwalkLemmas.{lower_parts}
use Rattle.lk_types.specs.Building.{IsMadeOf, IsTable}
use Rattle.lk_types.specs.Nodes.{IsBase, IsNode, Node, IsSel, along, element_of, first as first_of, node_of, step}
use Rattle.lk_types.specs.Sizes.{HasLowerParts, is_over, size_at, steps_of}
use Rattle.lk_types.specs.Table.{Table, fields_of, type_at, IsKnown}
use Rattle.lk_types.specs.Walks.{Branch, element, field}
use Rattle.lk_types.specs.declared.c_type.CType.{CType}
use Rattle.lk_types.specs.declared.c_type.CType.TheVariants as forms
use Rattle.lk_types.specs.declared.node.NodeId.{NodeId}
use Rattle.lk_types.specs.declared.node.Sel.TheVariants.{Element, Field}
use Rattle.lk_types.specs.declared.size.TypeSize.{TypeSize}
use Rattle.lk_base.specs.declared.cell.CellStep.{CellStep}
use Rattle.lk_facts.specs.InRange.{AllOperands}
use Rattle.lk_facts.specs.Program.{action_at}
use Rattle.lk_facts.specs.declared.action.Action.{Action}
use Rattle.lk_facts.specs.declared.action.Action.TheVariants.{Fill, Root as RootAction, Field as FieldAction, Index as IndexAction}
use Rattle.lk_facts.specs.declared.place.Place.{Place}
use Rattle.lk_facts.specs.declared.root.Root.{Root}
use Rattle.lk_types.proofs.PathLemmas.{equal_nodes_have_equal_ids}
use Rattle.lk_types.specs.declared.node.Base.TheVariants.{Start}
use Rattle.lk_types.specs.declared.node.Sel.{Sel}
use Rattle.lk_point_types.specs.Each.{FillsItsPlace}
use Rattle.lk_point_types.specs.Filled.{IsRootStart, IsStepFrom, LeadsBy, LeadsToNode}
use Rattle.lk_point_types.specs.Filled.LeadsBy.{object, further}

-- what a point leads to is a part of the table
pub led_node : (program : Program) (k p : ℕ) (n : NodeId) → LeadsBy program k p n → IsNode program.types n
led_node program k p n (object _ r _ does start) = start.2.node
led_node program k p n (further steps _ a does sel m _ at from leads to) = to.node

steps_within : (size : TypeSize) → is_over size ≡ false → size.steps ≤ 1002
steps_within size small = grind (arith, nat_tests)

-- the type that a step inside an object leads to
field_type : (table : Table) (m n : Node) (form : CType) (k : ℕ) (u : Option ℕ) → slice_get (fields_of table form) k ≡ u → option_map (along m) (option_map (field k) u) ≡ Some n →
    slice_get (fields_of table form) k ≡ Some n.type
field_type table m n form k None at is = absurd (none-some n is)
field_type table m n form k (Some u) at is = at ∙ ap Some (ap (λ node. node.type) (same_Some _ n is))

element_type : (m n : Node) (form : CType) → option_map (along m) (element_of form) ≡ Some n → (e count : ℕ) × (form ≡ forms.Array e count) × (n.type ≡ e)
element_type m n forms.Void is = absurd (none-some n is)
element_type m n (forms.Int k) is = absurd (none-some n is)
element_type m n forms.ThreadId is = absurd (none-some n is)
element_type m n forms.Mutex is = absurd (none-some n is)
element_type m n forms.Cond is = absurd (none-some n is)
element_type m n (forms.Pointer t) is = absurd (none-some n is)
element_type m n (forms.Array t c) is = (t, c, refl, ap (λ node. node.type) (sym (same_Some _ n is)))
element_type m n (forms.Struct s) is = absurd (none-some n is)
element_type m n (forms.Function result params dots) is = absurd (none-some n is)
element_type m n (forms.Opaque c) is = absurd (none-some n is)

-- a field has fewer steps
lower_field : (table : Table) (t : ℕ) (form : CType) (k u : ℕ) → HasLowerParts table t form → slice_get (fields_of table form) k ≡ Some u → steps_of table u < steps_of table t
lower_field table t forms.Void k u low at = absurd (none-some u at)
lower_field table t (forms.Int i) k u low at = absurd (none-some u at)
lower_field table t forms.ThreadId k u low at = absurd (none-some u at)
lower_field table t forms.Mutex k u low at = absurd (none-some u at)
lower_field table t forms.Cond k u low at = absurd (none-some u at)
lower_field table t (forms.Pointer v) k u low at = absurd (none-some u at)
lower_field table t (forms.Array v c) k u low at = absurd (none-some u at)
lower_field table t (forms.Struct s) k u low at = All-got (λ v. steps_of table v < steps_of table t) (fields_of table (forms.Struct s)) k u low at
lower_field table t (forms.Function result params dots) k u low at = All-got (λ v. steps_of table v < steps_of table t) (result ∷ params) k u low at
lower_field table t (forms.Opaque c) k u low at = absurd (none-some u at)

-- no more steps lead to a node than a type has
record IsShallow (table : Table) (k : ℕ) (n : NodeId) : Type 0 where
  pub known : IsKnown table (node_of table n).type
  pub few : k + steps_of table (node_of table n).type ≤ 1002

module _ (program : Program) (good : IsTable program.types) where
  lower_at : (t : ℕ) → IsKnown program.types t → HasLowerParts program.types t (type_at program.types t)
  lower_at t known = lower_form program.types t (type_at program.types t) (lower_parts program.types good t known)

  shallow_field : (steps : ℕ) (m n : NodeId) (f : ℕ) → IsShallow program.types steps m → Steps program.types m (Field f) n → IsShallow program.types (suc steps) n
  shallow_field steps m n f before to =
      let table = program.types in
      let t = (node_of table m).type in
      let at = field_type table (node_of table m) (node_of table n) (type_at table t) f _ refl to.leads in
      let low = lower_field table t (type_at table t) f (node_of table n).type (lower_at t before.known) at in
      record {
        known = field_known table t (type_at table t) before.known (good.types t before.known).made_of f (node_of table n).type at;
        few = omega (arith, low, before.few);
      }

  shallow_element : (steps : ℕ) (m n : NodeId) → IsShallow program.types steps m → Steps program.types m Element n → IsShallow program.types (suc steps) n
  shallow_element steps m n before to =
      let table = program.types in
      let t = (node_of table m).type in
      let is = element_type (node_of table m) (node_of table n) (type_at table t) to.leads in
      let made : is.0 < t = subst (IsMadeOf table t) is.2 (good.types t before.known).made_of in
      let low : steps_of table is.0 < steps_of table t = subst (HasLowerParts table t) is.2 (lower_at t before.known) in
      record {
        known = subst (IsKnown table) (sym is.3) (omega (arith, made, before.known));
        few = subst (λ u. suc steps + steps_of table u ≤ 1002) (sym is.3) (omega (arith, low, before.few));
      }

  shallow : (k p : ℕ) (n : NodeId) → LeadsBy program k p n → IsShallow program.types k n
  shallow k p n (object _ r _ does begins) =
      let table = program.types in
      let t = begins.0 in
      let start = begins.2 in
      let base = ap (λ node. node.base) start.first in
      let type = ap (λ node. node.type) start.first in
      let known : IsKnown table t = subst (IsBase table) base start.node.base in
      let few = steps_within (size_at table t) (small_at table good t known) in
      let from_none : 0 + steps_of table t ≤ 1002 = omega (arith, few) in
      record {
        known = subst (IsKnown table) (sym type) known;
        few = subst (λ u. 0 + steps_of table u ≤ 1002) (sym type) from_none;
      }
  shallow k p n (further steps _ a does sel m _ at from leads to) =
      let before = shallow steps a m leads in
      elim from [
        | inl field ↦ shallow_field steps m n field.0 before (subst (λ s. Steps program.types m s n) field.2 to)
        | inr element ↦ shallow_element steps m n before (subst (λ s. Steps program.types m s n) element.2 to)
      ]

  pub few_steps : (k p : ℕ) (n : NodeId) → LeadsBy program k p n → k < 1003
  few_steps k p n leads = let h = (shallow k p n leads).few in omega (arith, h)

-- ---- the part to which a point leads is one

one_start : (program : Program) (r : ℕ) (n m : NodeId) → IsRootStart program r n → IsRootStart program r m → n ≡ m
one_start program r n m first other =
    let root : first.1.0 ≡ other.1.0 = same_Some _ _ (sym first.1.1 ∙ other.1.1) in
    let type : first.0 ≡ other.0 = sym first.1.2 ∙ ap (λ (x : Root). x.ty) root ∙ other.1.2 in
    equal_nodes_have_equal_ids program.types n m first.2.node other.2.node (first.2.first ∙ ap (λ t. first_of (Start t)) type ∙ sym other.2.first)

pub led_root : (program : Program) (p r : ℕ) (s : NodeId) (does : Action) → action_at program p ≡ Some does → does ≡ RootAction r → IsRootStart program r s → (k : ℕ) (n : NodeId) → LeadsBy program k p n → Some s ≡ Some n
led_root program p r s does at root start k n (object _ r' _ is other) =
    let same : r' ≡ r = cc in
    ap Some (one_start program r s n start (subst (λ x. IsRootStart program x n) same other))
led_root program p r s does at root start k n (further steps _ a acts sel m _ is from leads to) =
    elim from [
      | inl field ↦ absurd (no_field field.0 field.1)
      | inr element ↦ absurd (no_element element.0 element.1)
    ]
  where
    no_field : (f : ℕ) → acts ≡ FieldAction a f → ⊥
    no_field f h = cc

    no_element : (b : ℕ) → acts ≡ IndexAction a b true → ⊥
    no_element b h = cc

-- how a point leads to a part by one more step
pub record LeadsFurther (program : Program) (does : Action) (k : ℕ) (n : NodeId) : Type 0 where
  pub a : ℕ
  pub sel : Sel
  pub before : ℕ
  pub from : NodeId
  pub steps : IsStepFrom does a sel
  pub leads : LeadsBy program before a from
  pub to : Steps program.types from sel n
  pub fewer : k ≡ suc before

pub led_further : (program : Program) (p : ℕ) (does : Action) → action_at program p ≡ Some does → ((r : ℕ) → does ≡ RootAction r → ⊥) → (k : ℕ) (n : NodeId) → LeadsBy program k p n → LeadsFurther program does k n
led_further program p does at no_root k n (object _ r _ is start) = absurd (no_root r (same_Some does (RootAction r) (sym at ∙ is)))
led_further program p does at no_root k n (further before _ a acts sel m _ is from leads to) =
    record { a = a; sel = sel; before = before; from = m; steps = subst (λ x. IsStepFrom x a sel) (same_Some acts does (sym is ∙ at)) from; leads = leads; to = to; fewer = refl }

-- the operand from which an action goes on is there
pub step_operand : (P : ℕ → Type 0) (does : Action) (a : ℕ) (sel : Sel) → IsStepFrom does a sel → AllOperands P does → P a
step_operand P does a sel (inl field) all = subst (AllOperands P) field.1 all
step_operand P does a sel (inr element) all = (subst (AllOperands P) element.1 all).0

pub step_known : (table : Table) (does : Action) (a : ℕ) (sel : Sel) → IsStepFrom does a sel → IsSel table sel
step_known table does a sel (inl field) = subst (IsSel table) (sym field.2) tt
step_known table does a sel (inr element) = subst (IsSel table) (sym element.2) tt

-- what a step gives
pub stepped : (table : Table) (m : NodeId) (sel : Sel) (o : Option NodeId) → option_map (node_of table) o ≡ step table (node_of table m) sel → IfSome o (IsNode table) → IfSome o (Steps table m sel)
stepped table m sel None exact node = tt
stepped table m sel (Some n) exact node = record { node = node; leads = sym exact }

pub one_step : (table : Table) (m : NodeId) (sel : Sel) (o : Option NodeId) → option_map (node_of table) o ≡ step table (node_of table m) sel → IfSome o (IsNode table) → (n : NodeId) → Steps table m sel n → o ≡ Some n
one_step table m sel None exact node n to = absurd (none-some (node_of table n) (exact ∙ to.leads))
one_step table m sel (Some x) exact node n to = ap Some (equal_nodes_have_equal_ids table x n node to.node (same_Some _ _ (exact ∙ to.leads)))

-- an action fills its place where its operand leads there
pub fills_there : (program : Program) (does : Action) (a : ℕ) (place : Place) (named : List (List CellStep)) → does ≡ Fill a place named → LeadsToNode program a place.node → FillsItsPlace program does
fills_there program does a place named is leads b other names also =
    let operand : a ≡ b = cc in
    let same : place ≡ other = cc in
    subst (λ x. LeadsToNode program b x.node) same (subst (λ x. LeadsToNode program x place.node) operand leads)
