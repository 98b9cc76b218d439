-- Where a form has a part, there is a node for it; so where one of two types that are alike has a part, the other has it too.
use Rattle.std.proofs.Common.{◌≡◌, ◌+◌, ℕ, suc, zero, Bool, true, false, List, [], ◌∷◌, ◌++◌, Option, Some, None, refl, sym, ap, subst, ◌∙◌}
use Rattle.std.proofs.lemmas.Option.{none-some}
use Rattle.std.specs.List.{slice_get}
use Rattle.std.specs.Option.{option_map}
use Rattle.std.specs.Prelude.{if◌then◌else◌, unwrap_or}
use Rattle.lk_facts.specs.LabelRules.{Steps, is_function}
use Rattle.lk_laws.proofs.AlikeTypes.{target_step, element_step, field_step, fields_alike, target_known, known_form}
use Rattle.lk_types.proofs.NodeLemmas.{first_id, first_node, first_is_node, tag_base, way_to_target, way_to_element, way_to_field, inside_got, inside_node, entry_is}
use Rattle.lk_types.specs.Building.{IsTable}
use Rattle.lk_types.specs.Equal.{AreEqualBut, AnySizes, IsAlike}
use Rattle.lk_types.specs.Equal.IsEqualBut.{same, pointers, arrays, functions}
use Rattle.lk_types.specs.Equal.AreEqualBut.{none, more}
use Rattle.lk_types.specs.Nodes.{Node, IsNode, step, along, node_of, entry_of, target_of, element_of}
use Rattle.lk_types.specs.Places.{entry_at, nodes_before}
use Rattle.lk_types.specs.Table.{Table, type_at, least_of, fields_of, IsKnown}
use Rattle.lk_types.specs.Walks.{Entry, has_tag, field as field_branch}
use Rattle.lk_types.specs.declared.c_type.CType.{CType}
use Rattle.lk_types.specs.declared.c_type.CType.TheVariants.{Void, Pointer, Array, Function}
use Rattle.lk_types.specs.declared.node.Base.{Base}
use Rattle.lk_types.specs.declared.node.Base.TheVariants.{Tag}
use Rattle.lk_types.specs.declared.node.NodeId.{NodeId}
use Rattle.lk_types.specs.declared.node.Sel.{Sel}
use Rattle.lk_types.specs.declared.node.Sel.TheVariants.{Target, Element, Field}

module _ (table : Table) (is : IsTable table) where
  abbrev Alike : ℕ → ℕ → Type 0
  Alike a b = IsAlike table.types a b

  abbrev IsOf : ℕ → CType → Type 0
  IsOf t form = slice_get table.types t ≡ Some form

  abbrev Leads : NodeId → Sel → Type 0
  Leads m s = (n : NodeId) × Steps table m s n

  abbrev node : Base → Entry → Node
  node base e = record { base = base; path = e.path; type = e.type }

  type_of_node : (t : ℕ) (form : CType) → IsOf t form → type_at table t ≡ form
  type_of_node t form at = ap (λ o. unwrap_or o Void) at

  -- the node into which a way leads
  inside : (m : NodeId) → IsNode table m → (s : Sel) (place u : ℕ) → entry_at table (node_of table m).type (suc place) ≡ Some (record { path = s ∷ []; type = u; tag = false }) →
      step table (node_of table m) s ≡ Some (along (node_of table m) (record { sel = s; type = u; tag = false })) → Leads m s
  inside m ok s place u there steps =
      let n : NodeId = record { base = m.base; number = m.number + place + 1 } in
      let e : Entry = record { path = (entry_of table m).path ++ s ∷ []; type = u; tag = false } in
      let got = inside_got table is m ok place u s there in (
        n,
        record {
          node = inside_node table is m n ok refl e got refl;
          leads = steps ∙ ap (λ (x : Entry). Some (node m.base x)) (sym (entry_is table is n e got));
        },
      )

  pub element_there : (m : NodeId) → IsNode table m → (e n : ℕ) → IsOf (node_of table m).type (Array e n) → Leads m Element
  element_there m ok e n form =
      inside m ok Element 0 e (way_to_element table is (node_of table m).type e n form) (ap (λ f. option_map (along (node_of table m)) (element_of f)) (type_of_node _ _ form))

  pub field_there : (m : NodeId) → IsNode table m → (k t : ℕ) → IsKnown table (node_of table m).type → slice_get (fields_of table (type_at table (node_of table m).type)) k ≡ Some t → Leads m (Field k)
  field_there m ok k t known has =
      inside m ok (Field k) (nodes_before table (node_of table m).type k) t (way_to_field table is (node_of table m).type known k t _ has refl)
      (ap (λ o. option_map (along (node_of table m)) (option_map (field_branch k) o)) has)

  pub target_there : (m : NodeId) → IsNode table m → (t : ℕ) → IsOf (node_of table m).type (Pointer t) → Leads m Target
  target_there m ok t form = of (has_tag table t) refl
    where
      steps_by : (tag : Bool) → has_tag table t ≡ tag → step table (node_of table m) Target ≡ Some (along (node_of table m) (if tag then record { sel = Target; type = least_of table t; tag = true } else record { sel = Target; type = t; tag = false }))
      steps_by tag tagged = ap (λ f. option_map (along (node_of table m)) (target_of table f)) (type_of_node _ _ form) ∙ ap (λ b. Some (along (node_of table m) (if b then record { sel = Target; type = least_of table t; tag = true } else record { sel = Target; type = t; tag = false }))) tagged

      of : (tag : Bool) → has_tag table t ≡ tag → Leads m Target
      of true tagged =
          let base = tag_base table is t (target_known table is (node_of table m).type t form) in (
            first_id (Tag (least_of table t)),
            record {
              node = first_is_node table (Tag (least_of table t)) base;
              leads = steps_by true tagged ∙ ap (λ (x : Node). Some x) (sym (first_node table (Tag (least_of table t))));
            },
          )
      of false plain = inside m ok Target 0 t (way_to_target table is (node_of table m).type t form plain) (steps_by false plain)

  pub pointer_too : (a b s : ℕ) → Alike a b → IsOf a (Pointer s) → (t : ℕ) × IsOf b (Pointer t)
  pointer_too a b s (same e) at = (s, subst (λ x. IsOf x (Pointer s)) e at)
  pointer_too a b s (pointers {t = t} at' bt h) at = (t, bt)
  pointer_too a b s (arrays at' bt h sizes) at = absurd cc
  pointer_too a b s (functions at' bt h hs) at = absurd cc

  pub array_too : (a b s n : ℕ) → Alike a b → IsOf a (Array s n) → (t m : ℕ) × IsOf b (Array t m)
  array_too a b s n (same e) at = (s, n, subst (λ x. IsOf x (Array s n)) e at)
  array_too a b s n (arrays {t = t} {m = m} at' bt h sizes) at = (t, m, bt)
  array_too a b s n (pointers at' bt h) at = absurd cc
  array_too a b s n (functions at' bt h hs) at = absurd cc

  pub field_too : {ps qs : List ℕ} → AreEqualBut AnySizes table.types ps qs → (k p : ℕ) → slice_get ps k ≡ Some p → (q : ℕ) × (slice_get qs k ≡ Some q)
  field_too none k p h = absurd (none-some p h)
  field_too (more {b = b} h hs) zero p at = (b, refl)
  field_too (more h hs) (suc k) p at = field_too hs k p at

  form_of_type : (a : ℕ) (form : CType) → IsOf a form → is_function (type_at table a) ≡ is_function form
  form_of_type a form at = ap is_function (type_of_node a form at)

  pub function_too : (a b : ℕ) → Alike a b → is_function (type_at table a) ≡ is_function (type_at table b)
  function_too a b (same e) = ap (λ t. is_function (type_at table t)) e
  function_too a b (pointers {s = s} {t = t} at bt h) = form_of_type a (Pointer s) at ∙ sym (form_of_type b (Pointer t) bt)
  function_too a b (arrays {s = s} {t = t} {n = n} {m = m} at bt h sizes) = form_of_type a (Array s n) at ∙ sym (form_of_type b (Array t m) bt)
  function_too a b (functions {r = r} {s = q} {ps = ps} {qs = qs} {dots = dots} at bt h hs) = form_of_type a (Function r ps dots) at ∙ sym (form_of_type b (Function q qs dots) bt)

  -- a type that has fields is in the table
  pub fielded_known : (t k u : ℕ) → slice_get (fields_of table (type_at table t)) k ≡ Some u → IsKnown table t
  fielded_known t k u h = of (slice_get table.types t) refl
    where
      of : (o : Option CType) → slice_get table.types t ≡ o → IsKnown table t
      of None e = absurd (none-some u (ap (λ o. slice_get (fields_of table (unwrap_or o Void)) k) (sym e) ∙ h))
      of (Some form) e = known_form table is t form e

  pub target_too : (m n : NodeId) (k : NodeId) → IsNode table n → Alike (node_of table m).type (node_of table n).type → Steps table m Target k → Leads n Target
  target_too m n k ok alike steps =
      let one = target_step table is (node_of table m) (node_of table k) steps.leads in
      let two = pointer_too (node_of table m).type (node_of table n).type one.to alike one.pointer in
      target_there n ok two.0 two.1

  pub element_too : (m n : NodeId) (k : NodeId) → IsNode table n → Alike (node_of table m).type (node_of table n).type → Steps table m Element k → Leads n Element
  element_too m n k ok alike steps =
      let one = element_step table is (node_of table m) (node_of table k) steps.leads in
      let two = array_too (node_of table m).type (node_of table n).type (node_of table k).type one.size alike one.array in
      element_there n ok two.0 two.1 two.2

  pub field_too_there : (m n : NodeId) (j : ℕ) (k : NodeId) → IsNode table n → Alike (node_of table m).type (node_of table n).type → Steps table m (Field j) k → Leads n (Field j)
  field_too_there m n j k ok alike steps =
      let one = field_step table is (node_of table m) (node_of table k) j steps.leads in
      let two = field_too (fields_alike table is (node_of table m).type (node_of table n).type alike) j (node_of table k).type one in
      field_there n ok j two.0 (fielded_known (node_of table n).type j two.0 two.1) two.1
