-- Where a pointer points to void, it points to the Tag of void.
use Rattle.std.proofs.Common.{◌≡◌, ◌<◌, ◌≤◌, ℕ, suc, zero, Bool, true, false, [], ◌∷◌, Some, None, refl, sym, ap, subst, ◌∙◌, length, arith}
use Rattle.std.proofs.lemmas.Bool.{false≢true}
use Rattle.std.proofs.lemmas.Option.{none-some}
use Rattle.std.specs.List.{slice_get}
use Rattle.std.specs.Option.{option_map}
use Rattle.std.specs.Prelude.{if◌then◌else◌, unwrap_or, ◌||◌, ◌&&◌}
use Rattle.lk_types.proofs.NodeLemmas.{known_base}
use Rattle.lk_types.proofs.Fuel.{walks_are_of_parts}
use Rattle.lk_types.specs.Building.{IsTable}
use Rattle.lk_types.specs.Equal.{IsAlike}
use Rattle.lk_types.specs.Equal.IsEqualBut.{same, pointers, arrays, functions}
use Rattle.lk_types.specs.Nodes.{Node, IsNode, first, step, along, node_of, entry_of, target_of, is_void_tag, has_part, base_type}
use Rattle.lk_types.specs.Table.{Table, type_at, least_of, IsKnown}
use Rattle.lk_types.specs.Walks.{Entry, has_tag, holds_struct, is_void, nodes, start, below_start}
use Rattle.lk_types.specs.declared.c_type.CType.{CType}
use Rattle.lk_types.specs.declared.c_type.CType.TheVariants.{Void, Int, ThreadId, Mutex, Cond, Pointer, Array, Struct, Function, Opaque}
use Rattle.lk_types.specs.declared.node.Base.{Base}
use Rattle.lk_types.specs.declared.node.Base.TheVariants.{Start, Tag}
use Rattle.lk_types.specs.declared.node.NodeId.{NodeId}
use Rattle.lk_types.specs.declared.node.Sel.TheVariants.{Target, Part}

same_node : (x y : Node) → Some x ≡ Some y → x ≡ y
same_node x y h = cc

module _ (table : Table) (is : IsTable table) where
  void_form : (form : CType) → is_void form ≡ true → form ≡ Void
  void_form Void h = refl
  void_form (Int kind) h = absurd (false≢true h)
  void_form ThreadId h = absurd (false≢true h)
  void_form Mutex h = absurd (false≢true h)
  void_form Cond h = absurd (false≢true h)
  void_form (Pointer t) h = absurd (false≢true h)
  void_form (Array t n) h = absurd (false≢true h)
  void_form (Struct s) h = absurd (false≢true h)
  void_form (Function r ps dots) h = absurd (false≢true h)
  void_form (Opaque n) h = absurd (false≢true h)

  void_walk : (t : ℕ) → IsKnown table t → type_at table t ≡ Void → nodes table t ≡ start t ∷ []
  void_walk t known form = walks_are_of_parts table is t known ∙ ap (λ f. start t ∷ below_start (nodes table) table f) form

  only_start : (t k : ℕ) → IsKnown table t → type_at table t ≡ Void → k < length (nodes table t) → unwrap_or (slice_get (nodes table t) k) (start t) ≡ start t
  only_start t k known form within =
      let less : k < 1 = subst (λ es. k < length es) (void_walk t known form) within in
      ap (λ es. unwrap_or (slice_get es k) (start t)) (void_walk t known form) ∙ at_zero k (omega (arith, less))
    where
      at_zero : (k : ℕ) → k ≤ 0 → unwrap_or (slice_get (start t ∷ []) k) (start t) ≡ start t
      at_zero zero h = refl
      at_zero (suc k) h = absurd (omega (arith, h))

  -- a node of void's Tag is of type void
  pub tag_type : (n : NodeId) → IsNode table n → is_void_tag table n.base ≡ true → is_void (type_at table (node_of table n).type) ≡ true
  tag_type n ok h = of n.base refl
    where
      of : (base : Base) → n.base ≡ base → is_void (type_at table (node_of table n).type) ≡ true
      of (Start t) e = absurd (false≢true (sym (ap (is_void_tag table) e) ∙ h))
      of (Tag t) e =
          let void : is_void (type_at table t) ≡ true = sym (ap (is_void_tag table) e) ∙ h in
          let bases : base_type n.base ≡ t = ap base_type e in
          let known : IsKnown table t = subst (IsKnown table) bases (known_base table n.base ok.base) in
          let within : n.number < length (nodes table t) = subst (λ u. n.number < length (nodes table u)) bases ok.number in
          let entry : entry_of table n ≡ start t = ap (λ u. unwrap_or (slice_get (nodes table u) n.number) (start u)) bases ∙ only_start t n.number known (void_form (type_at table t) void) within in
          ap (λ (e : Entry). is_void (type_at table e.type)) entry ∙ void

  void_target : (x k : Node) (t : ℕ) (b : Bool) → has_tag table t ≡ b → Some (along x (if b then record { sel = Target; type = least_of table t; tag = true } else record { sel = Target; type = t; tag = false })) ≡ Some k →
      is_void (type_at table k.type) ≡ true → is_void_tag table k.base ≡ true
  void_target x k t true tagged h void =
      let is_first = same_node _ k h in
      ap (λ (n : Node). is_void_tag table n.base) (sym is_first) ∙ ap (λ (n : Node). is_void (type_at table n.type)) is_first ∙ void
  void_target x k t false plain h void =
      let is_void_there : is_void (type_at table t) ≡ true = ap (λ (n : Node). is_void (type_at table n.type)) (same_node _ k h) ∙ void in
      absurd (false≢true (sym plain ∙ ap (λ b. b || holds_struct table t) is_void_there))

  void_target_form : (x k : Node) (form : CType) → option_map (along x) (target_of table form) ≡ Some k → is_void (type_at table k.type) ≡ true → is_void_tag table k.base ≡ true
  void_target_form x k Void h void = absurd (none-some k h)
  void_target_form x k (Int kind) h void = absurd (none-some k h)
  void_target_form x k ThreadId h void = absurd (none-some k h)
  void_target_form x k Mutex h void = absurd (none-some k h)
  void_target_form x k Cond h void = absurd (none-some k h)
  void_target_form x k (Pointer t) h void = void_target x k t (has_tag table t) refl h void
  void_target_form x k (Array t n) h void = absurd (none-some k h)
  void_target_form x k (Struct s) h void = absurd (none-some k h)
  void_target_form x k (Function r ps dots) h void = absurd (none-some k h)
  void_target_form x k (Opaque n) h void = absurd (none-some k h)

  -- what a pointer to void points to is the Tag of void
  pub points_to_tag : (x k : Node) → step table x Target ≡ Some k → is_void (type_at table k.type) ≡ true → is_void_tag table k.base ≡ true
  points_to_tag x k h void = void_target_form x k (type_at table x.type) h void

  form_is : (a : ℕ) (form : CType) → slice_get table.types a ≡ Some form → is_void (type_at table a) ≡ is_void form
  form_is a form at = ap (λ o. is_void (unwrap_or o Void)) at

  pub void_too : (a b : ℕ) → IsAlike table.types a b → is_void (type_at table a) ≡ is_void (type_at table b)
  void_too a b (same e) = ap (λ t. is_void (type_at table t)) e
  void_too a b (pointers {s = s} {t = t} at bt h) = form_is a (Pointer s) at ∙ sym (form_is b (Pointer t) bt)
  void_too a b (arrays {s = s} {t = t} {n = n} {m = m} at bt h sizes) = form_is a (Array s n) at ∙ sym (form_is b (Array t m) bt)
  void_too a b (functions {r = r} {s = q} {ps = ps} {qs = qs} {dots = dots} at bt h hs) = form_is a (Function r ps dots) at ∙ sym (form_is b (Function q qs dots) bt)

  tag_of_part : (b c : Bool) (u : ℕ) (k : Node) → (if (b && c) then Some (first (Tag u)) else None) ≡ Some k → b ≡ true
  tag_of_part true c u k h = refl
  tag_of_part false c u k h = absurd (none-some k h)

  -- a node with a Part is a Tag of void
  pub part_of_tag : (x k : Node) (t : ℕ) → step table x (Part t) ≡ Some k → is_void_tag table x.base ≡ true
  part_of_tag x k t h = tag_of_part (is_void_tag table x.base) (has_part table t) (least_of table t) k h

  -- and each other Tag of void has that Part
  pub part_too : (x y k : Node) (t : ℕ) → step table x (Part t) ≡ Some k → is_void_tag table y.base ≡ true → step table y (Part t) ≡ Some k
  part_too x y k t h void = ap (λ b. if (b && has_part table t) then Some (first (Tag (least_of table t))) else None) (void ∙ sym (part_of_tag x k t h)) ∙ h
