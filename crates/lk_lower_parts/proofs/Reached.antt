-- What is within the Start of a type is reached from it by Element and Field, and what stands below a node by its form.
use Rattle.std.proofs.Common.{arith, ap, sym, subst, ◌∙◌, ◌≡◌, ◌<◌, ◌⊎◌, inl, inr, ℕ, Bool, true, false, List, [], length, slice_get, unwrap_or, Option, Some, None, refl}
use Rattle.std.specs.Prelude.{not, ◌&&◌, if◌then◌else◌}
use Rattle.std.specs.Option.{option_map}
use Rattle.std.proofs.lemmas.Bool.{false≢true}
use Rattle.std.proofs.lemmas.Option.{none-some, same_Some}
use Rattle.std.proofs.lemmas.Option.{slice_get_within}
use Rattle.lk_facts.specs.LabelRules.{IsStart, IsWithin, Steps, form_of, is_function, leads_inside}
use Rattle.lk_facts.specs.LabelRules.IsWithin.{start as within_start, part as within_part}
use Rattle.lk_facts.proofs.Sets.{All-got}
use Rattle.lk_lower_parts.proofs.FunctionCounts.{at_index}
use Rattle.lk_lower_parts.specs.Within.{HasLower, HaveLower, Reaches, steps_below}
use Rattle.lk_lower_parts.specs.Within.Reaches.{itself, by_element, by_field}
use Rattle.lk_types.proofs.PathLemmas.{equal_nodes_have_equal_ids}
use Rattle.lk_types.specs.Nodes.{Node, IsNode, node_of, first, step, along, element_of, has_part, is_void_tag}
use Rattle.lk_types.specs.Sizes.{HasLowerParts, steps_of}
use Rattle.lk_types.specs.Table.{Table, fields_of, least_of}
use Rattle.lk_types.specs.Walks.{element, field}
use Rattle.lk_types.specs.declared.c_type.CType.{CType}
use Rattle.lk_types.specs.declared.c_type.CType.TheVariants.{Void, Int, ThreadId, Mutex, Cond, Pointer, Array, Struct, Function, Opaque}
use Rattle.lk_types.specs.declared.node.Base.{Base}
use Rattle.lk_types.specs.declared.node.Base.TheVariants.{Start, Tag}
use Rattle.lk_types.specs.declared.node.NodeId.{NodeId}
use Rattle.lk_types.specs.declared.node.Sel.{Sel}
use Rattle.lk_types.specs.declared.node.Sel.TheVariants.{Target, Element, Field, Part}

-- an element stays below the same Start, and so does a field
element_base : (node k : Node) (form : CType) → option_map (along node) (element_of form) ≡ Some k → k.base ≡ node.base
element_base node k Void to = absurd (none-some k to)
element_base node k (Int kind) to = absurd (none-some k to)
element_base node k ThreadId to = absurd (none-some k to)
element_base node k Mutex to = absurd (none-some k to)
element_base node k Cond to = absurd (none-some k to)
element_base node k (Pointer t) to = absurd (none-some k to)
element_base node k (Array t n) to = sym (ap (λ (x : Node). x.base) (same_Some _ k to))
element_base node k (Struct s) to = absurd (none-some k to)
element_base node k (Function result params dots) to = absurd (none-some k to)
element_base node k (Opaque n) to = absurd (none-some k to)

field_base : (node k : Node) (j : ℕ) (o : Option ℕ) → option_map (along node) (option_map (field j) o) ≡ Some k → k.base ≡ node.base
field_base node k j None to = absurd (none-some k to)
field_base node k j (Some t) to = sym (ap (λ (x : Node). x.base) (same_Some _ k to))

-- no Part leads on below a Start
no_part : (table : Table) (base : Base) (s : ℕ) (has : Bool) (u : ℕ) (k : Node) → base ≡ Start s → (if (is_void_tag table base && has) then Some (first (Tag u)) else None) ≡ Some k → ⊥
no_part table (Start r) s has u k is to = none-some k to
no_part table (Tag r) s has u k is to = absurd (cc (is))

not_from : (b : Bool) → not b ≡ true → b ≡ false
not_from true isnt = absurd (false≢true isnt)
not_from false isnt = refl

leads_field : (form : CType) (k : ℕ) → is_function form ≡ false → leads_inside form (Field k) ≡ true
leads_field form k isnt = ap not isnt

module _ (table : Table) where
  pub one_id : (n m : NodeId) → IsNode table n → IsNode table m → node_of table n ≡ node_of table m → n ≡ m
  one_id n m a b same = equal_nodes_have_equal_ids table n m a b same

  -- a step leads to one node
  pub one_step : (m n k : NodeId) (s : Sel) → Steps table m s n → Steps table m s k → n ≡ k
  one_step m n k s to also = one_id n k to.node also.node (same_Some (node_of table n) (node_of table k) (sym to.leads ∙ also.leads))

  pub within_node : (t : ℕ) {n : NodeId} → IsWithin table t n → IsNode table n
  within_node t (within_start n is) = is.node
  within_node t (within_part m n s w goes steps) = steps.node

  step_base : (m n : NodeId) (s : Sel) (t : ℕ) → m.base ≡ Start t → leads_inside (form_of table m) s ≡ true → step table (node_of table m) s ≡ Some (node_of table n) → n.base ≡ Start t
  step_base m n Target t is goes to = absurd (false≢true goes)
  step_base m n Element t is goes to = element_base (node_of table m) (node_of table n) (form_of table m) to ∙ is
  step_base m n (Field k) t is goes to = field_base (node_of table m) (node_of table n) k _ to ∙ is
  step_base m n (Part u) t is goes to = absurd (no_part table m.base t (has_part table u) (least_of table u) (node_of table n) is to)

  within_base : (t : ℕ) {n : NodeId} → IsWithin table t n → n.base ≡ Start t
  within_base t (within_start n is) = ap (λ (x : Node). x.base) is.first
  within_base t (within_part m n s w goes steps) = step_base m n s t (within_base t w) goes steps.leads

  then_step : (n k m : NodeId) (s : Sel) (t : ℕ) → k.base ≡ Start t → leads_inside (form_of table k) s ≡ true → Steps table k s n → Reaches table k m → Reaches table n m
  then_step n k m s t is goes steps itself = last s is goes steps
    where
      last : (s : Sel) → k.base ≡ Start t → leads_inside (form_of table k) s ≡ true → Steps table k s n → Reaches table n k
      last Target is goes steps = absurd (false≢true goes)
      last Element is goes steps = by_element k n steps itself
      last (Field j) is goes steps = by_field k n j (not_from _ goes) steps itself
      last (Part u) is goes steps = absurd (no_part table k.base t (has_part table u) (least_of table u) (node_of table n) is steps.leads)
  then_step n k m s t is goes steps (by_element _ l to on) = by_element m l to (then_step n k l s t is goes steps on)
  then_step n k m s t is goes steps (by_field _ l j isnt to on) = by_field m l j isnt to (then_step n k l s t is goes steps on)

  -- what is within the Start is reached from it
  pub within_reached : (t : ℕ) (m : NodeId) → IsStart table t m → {n : NodeId} → IsWithin table t n → Reaches table n m
  within_reached t m start (within_start n is) = subst (λ k. Reaches table k m) (one_id m n start.node is.node (start.first ∙ sym is.first)) itself
  within_reached t m start (within_part k n s w goes steps) = then_step n k m s t (within_base t w) goes steps (within_reached t m start w)

  -- and what is reached from a node within it is within it too
  pub reached_within : (t : ℕ) {n m : NodeId} → IsWithin table t m → Reaches table n m → IsWithin table t n
  reached_within t w itself = w
  reached_within t w (by_element m l to on) = reached_within t (within_part m l Element w refl to) on
  reached_within t w (by_field m l k isnt to on) = reached_within t (within_part m l (Field k) w (leads_field _ k isnt) to) on

  -- ---- by the form of a node

  pub form_is : (m : NodeId) (t : ℕ) (form : CType) → slice_get table.types t ≡ Some form → t ≡ (node_of table m).type → form_of table m ≡ form
  form_is m t form at is = ap (λ u. unwrap_or (slice_get table.types u) Void) (sym is) ∙ ap (λ o. unwrap_or o Void) at

  no_element : (m l : NodeId) → element_of (form_of table m) ≡ None → Steps table m Element l → ⊥
  no_element m l none to = none-some _ (sym (ap (option_map (along (node_of table m))) none) ∙ to.leads)

  no_field : (m l : NodeId) (k : ℕ) → fields_of table (form_of table m) ≡ [] → Steps table m (Field k) l → ⊥
  no_field m l k none to = none-some _ (sym (ap (λ ts. option_map (along (node_of table m)) (option_map (field k) (slice_get ts k))) none) ∙ to.leads)

  -- nothing stands below a node without elements and members
  pub reached_alone : {n m : NodeId} → element_of (form_of table m) ≡ None → (is_function (form_of table m) ≡ false → fields_of table (form_of table m) ≡ []) → Reaches table n m → n ≡ m
  reached_alone plain none itself = refl
  reached_alone plain none (by_element m l to on) = absurd (no_element m l plain to)
  reached_alone plain none (by_field m l k isnt to on) = absurd (no_field m l k (none isnt) to)

  -- below one without members stands what is below its element, and below one without elements what is below its members
  pub reached_element : {n m : NodeId} → fields_of table (form_of table m) ≡ [] → Reaches table n m → (n ≡ m) ⊎ ((l : NodeId) × Steps table m Element l × Reaches table n l)
  reached_element none itself = inl refl
  reached_element none (by_element m l to on) = inr (l, to, on)
  reached_element none (by_field m l k isnt to on) = absurd (no_field m l k none to)

  field_below : (m l : NodeId) (k : ℕ) → Steps table m (Field k) l → k < length (fields_of table (form_of table m))
  field_below m l k to = some_below (fields_of table (form_of table m)) k _ to.leads
    where
      some_below : (ts : List ℕ) (k : ℕ) (x : Node) → option_map (along (node_of table m)) (option_map (field k) (slice_get ts k)) ≡ Some x → k < length ts
      some_below ts k x is = by_option (slice_get ts k) refl
        where
          by_option : (o : Option ℕ) → slice_get ts k ≡ o → k < length ts
          by_option None none = absurd (none-some x (sym (ap (λ o. option_map (along (node_of table m)) (option_map (field k) o)) none) ∙ is))
          by_option (Some t) at = slice_get_within ts k t at

  pub reached_member : {n m : NodeId} → element_of (form_of table m) ≡ None → Reaches table n m →
      (n ≡ m) ⊎ ((k : ℕ) × (l : NodeId) × (k < length (fields_of table (form_of table m))) × Steps table m (Field k) l × Reaches table n l)
  reached_member plain itself = inl refl
  reached_member plain (by_element m l to on) = absurd (no_element m l plain to)
  reached_member plain (by_field m l k isnt to on) = inr (k, l, field_below m l k to, to, on)

  -- ---- below a node lie more steps than below its parts

  pub array_lower : (m : NodeId) (form : CType) (t n : ℕ) → form_of table m ≡ form → form ≡ Array t n → HasLowerParts table (node_of table m).type form → HasLower table m Element
  array_lower m form t n was array lower =
      (along (node_of table m) (element t), ap (λ f. option_map (along (node_of table m)) (element_of f)) (was ∙ array), subst (HasLowerParts table (node_of table m).type) array lower)

  pub members_lower : (m : NodeId) (form : CType) (s count : ℕ) → form_of table m ≡ form → form ≡ Struct s → count ≡ length (fields_of table (Struct s)) → HasLowerParts table (node_of table m).type form → HaveLower table m count
  members_lower m form s count was struct counts lower k within =
      let at = at_index (fields_of table (Struct s)) k (omega (arith, within, counts)) in (
        along (node_of table m) (field k at.0),
        ap (λ f. option_map (along (node_of table m)) (option_map (field k) (slice_get (fields_of table f) k))) (was ∙ struct) ∙ ap (λ o. option_map (along (node_of table m)) (option_map (field k) o)) at.1,
        All-got (λ u. steps_of table u < steps_below table m) (fields_of table (Struct s)) k at.0 (subst (HasLowerParts table (node_of table m).type) struct lower) at.1,
      )

  -- the part to which a step leads
  pub lower_there : (m l : NodeId) (sel : Sel) (to : Node) → Some (node_of table l) ≡ step table (node_of table m) sel → step table (node_of table m) sel ≡ Some to → steps_of table to.type < steps_below table m → steps_below table l < steps_below table m
  lower_there m l sel to leads is lower = subst (λ (n : Node). steps_of table n.type < steps_below table m) (sym (same_Some (node_of table l) to (leads ∙ is))) lower
