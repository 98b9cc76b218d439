-- Paths: to which node a path leads, its indices forgotten, and of which label that is.
use Rattle.std.proofs.Common.{◌≡◌, ◌<◌, ℕ, suc, zero, Bool, true, false, List, [], ◌∷◌, ◌++◌, Option, Some, None, refl, sym, ap, subst, ◌∙◌, length, arith}
use Rattle.std.proofs.lemmas.Bool.Decides.{nat_tests}
use Rattle.std.proofs.lemmas.Option.{none-some, same_Some, slice_get-map}
use Rattle.std.specs.List.{slice_get}
use Rattle.std.specs.Option.{option_map, option_map_or, option_and_then}
use Rattle.std.specs.Prelude.{map, take, unwrap_or, if◌then◌else◌, nat_lt, nat_eq, not, ◌-◌}
use Rattle.lk_base.specs.declared.cell.CellStep.{CellStep}
use Rattle.lk_base.specs.declared.cell.CellStep.TheVariants.{Field, Index}
use Rattle.lk_cells.specs.Parts.{sel_of, node_along, type_along, part_at, part_type}
use Rattle.lk_facts.proofs.Sets.{All-got}
use Rattle.lk_facts.specs.InRange.{IsInRange, IsRootInRange, sizes_of}
use Rattle.lk_facts.specs.LabelRules.{IsNodeOf, NamesPlace, IsWithin, form_of, leads_inside, is_function}
use Rattle.lk_facts.specs.LabelRules.IsNodeOf.{start as node_start, part as node_part}
use Rattle.lk_facts.specs.LabelRules.IsWithin.{start as within_start, part as within_part}
use Rattle.lk_facts.specs.LabelRules.NamesPlace.{start as place_start, part as place_part}
use Rattle.lk_facts.specs.Labels.{name_with}
use Rattle.lk_facts.specs.Typed.{IsForm, HasPartAt, IsRootType}
use Rattle.lk_facts.specs.Typed.HasPartAt.{whole, field, index}
use Rattle.lk_facts.specs.declared.label_entry.LabelName.{LabelName}
use Rattle.lk_facts.specs.declared.program.Program.{Program}
use Rattle.lk_facts.specs.declared.root.Holder.TheVariants.{Root}
use Rattle.lk_laws.proofs.AlikeTypes.{known_form, element_step, field_step}
use Rattle.lk_laws.proofs.EdgeEnds.{inside_to_place}
use Rattle.lk_laws.proofs.NodesThere.{element_there, field_there}
use Rattle.lk_laws.specs.FlowLaws.{type_of}
use Rattle.lk_right.specs.Right.{IsPlaceAt}
use Rattle.lk_types.proofs.NodeLemmas.{first_id, first_node, first_is_node}
use Rattle.lk_types.specs.Building.{IsTable}
use Rattle.lk_types.specs.Nodes.{Node, IsNode, node_of, first, step, along, element_of}
use Rattle.lk_types.specs.Table.{Table, type_at, fields_of, members_of, IsKnown}
use Rattle.lk_types.specs.Walks.{field as field_branch}
use Rattle.lk_types.specs.declared.c_type.CType.{CType}
use Rattle.lk_types.specs.declared.c_type.CType.TheVariants.{Void, Int, ThreadId, Mutex, Cond, Pointer, Array, Struct, Function, Opaque}
use Rattle.lk_types.specs.declared.node.Base.TheVariants.{Start}
use Rattle.lk_types.specs.declared.node.NodeId.{NodeId}
use Rattle.lk_types.specs.declared.node.Sel.{Sel}
use Rattle.lk_types.specs.declared.node.Sel.TheVariants as sel
use Rattle.lk_values.proofs.Reasons.{chained}
use Rattle.lk_values.specs.Paths.{index_of, element_path}

-- ---- paths that go on

-- a path goes on from the node to which its front leads
pub along_on : (table : Table) (n : Node) (path more : List CellStep) → node_along table n (path ++ more) ≡ option_and_then (λ m. node_along table m more) (node_along table n path)
along_on table n [] more = refl
along_on table n (next ∷ path) more = by (step table n (sel_of next)) (λ m. along_on table m path more)
  where
    by : (o : Option Node) → ((m : Node) → node_along table m (path ++ more) ≡ option_and_then (λ k. node_along table k more) (node_along table m path)) →
        option_and_then (λ m. node_along table m (path ++ more)) o ≡ option_and_then (λ k. node_along table k more) (option_and_then (λ m. node_along table m path) o)
    by None on = refl
    by (Some m) on = on m

-- one step more
pub along_step : (table : Table) (n m k : Node) (path : List CellStep) (st : CellStep) → node_along table n path ≡ Some m → step table m (sel_of st) ≡ Some k → node_along table n (path ++ st ∷ []) ≡ Some k
along_step table n m k path st leads steps = along_on table n path (st ∷ []) ∙ (ap (λ o. option_and_then (λ x. node_along table x (st ∷ [])) o) leads ∙ ap (λ o. option_and_then (λ x. Some x) o) steps)

-- ---- paths that differ in their indices alone

abbrev along_sels : Table → Node → List Sel → Option Node
along_sels table n [] = Some n
along_sels table n (s ∷ sels) = option_and_then (λ m. along_sels table m sels) (step table n s)

by_sels : (table : Table) (n : Node) (path : List CellStep) → node_along table n path ≡ along_sels table n (map sel_of path)
by_sels table n [] = refl
by_sels table n (next ∷ path) = by (step table n (sel_of next)) (λ m. by_sels table m path)
  where
    by : (o : Option Node) → ((m : Node) → node_along table m path ≡ along_sels table m (map sel_of path)) → option_and_then (λ m. node_along table m path) o ≡ option_and_then (λ m. along_sels table m (map sel_of path)) o
    by None same = refl
    by (Some m) same = same m

-- they lead to one node
pub along_place : (table : Table) (n : Node) (p q : List CellStep) → map sel_of p ≡ map sel_of q → node_along table n p ≡ node_along table n q
along_place table n p q same = by_sels table n p ∙ (ap (along_sels table n) same ∙ sym (by_sels table n q))

element_sels : (i : ℕ) (path : List CellStep) (k : ℕ) → suc k ≡ length path → map sel_of (option_map_or (λ now. take k path ++ Index i ∷ []) (index_of (slice_get path k)) path) ≡ map sel_of path
element_sels i [] k last = refl
element_sels i (Field j ∷ []) zero last = refl
element_sels i (Index j ∷ []) zero last = refl
element_sels i (st ∷ (next ∷ path)) zero last = absurd (omega (arith, last))
element_sels i (st ∷ path) (suc k) last = by (index_of (slice_get path k)) (element_sels i path k (omega (arith, last)))
  where
    by : (o : Option ℕ) → map sel_of (option_map_or (λ now. take k path ++ Index i ∷ []) o path) ≡ map sel_of path → map sel_of (option_map_or (λ now. take (suc k) (st ∷ path) ++ Index i ∷ []) o (st ∷ path)) ≡ map sel_of (st ∷ path)
    by None same = refl
    by (Some j) same = ap (λ sels. sel_of st ∷ sels) same

-- the path to another element of the array that a path ends in differs in an index alone
pub element_same : (path : List CellStep) (i : ℕ) → map sel_of (element_path path i) ≡ map sel_of path
element_same [] i = refl
element_same (st ∷ path) i = element_sels i (st ∷ path) (length (st ∷ path) - 1) (omega arith)

-- ---- the types along paths

chosen : (b : Bool) (t v : ℕ) → (if b then Some t else None) ≡ Some v → t ≡ v
chosen true t v h = same_Some t v h
chosen false t v h = absurd (none-some v h)

-- a part of a type: the member of a struct, or an element of an array
pub data IsPartType (table : Table) (form : CType) : CellStep → ℕ → Type 0 where
  member : (s k v : ℕ) → form ≡ Struct s → slice_get (fields_of table form) k ≡ Some v → IsPartType table form (Field k) v
  element : (i v n : ℕ) → form ≡ Array v n → IsPartType table form (Index i) v

pub part_is : (table : Table) (own : ℕ) (form : CType) (st : CellStep) (v : ℕ) → part_type table own form st ≡ Some v → IsPartType table form st v
part_is table own Void (Field k) v h = absurd (none-some v h)
part_is table own (Int kind) (Field k) v h = absurd (none-some v h)
part_is table own ThreadId (Field k) v h = absurd (none-some v h)
part_is table own Mutex (Field k) v h = absurd (none-some v h)
part_is table own Cond (Field k) v h = absurd (none-some v h)
part_is table own (Pointer t) (Field k) v h = absurd (none-some v h)
part_is table own (Array t n) (Field k) v h = absurd (none-some v h)
part_is table own (Struct s) (Field k) v h = member s k v refl h
part_is table own (Function r ps dots) (Field k) v h = absurd (none-some v h)
part_is table own (Opaque n) (Field k) v h = absurd (none-some v h)
part_is table own Void (Index i) v h = absurd (none-some v h)
part_is table own (Int kind) (Index i) v h = absurd (none-some v h)
part_is table own ThreadId (Index i) v h = absurd (none-some v h)
part_is table own Mutex (Index i) v h = absurd (none-some v h)
part_is table own Cond (Index i) v h = absurd (none-some v h)
part_is table own (Pointer t) (Index i) v h = absurd (none-some v h)
part_is table own (Array t n) (Index i) v h = element i v n (ap (λ u. Array u n) (chosen (nat_lt i (if nat_eq n 0 then own else n)) t v h))
part_is table own (Struct s) (Index i) v h = absurd (none-some v h)
part_is table own (Function r ps dots) (Index i) v h = absurd (none-some v h)
part_is table own (Opaque n) (Index i) v h = absurd (none-some v h)

part_node : (table : Table) (m : Node) (form : CType) (st : CellStep) (v : ℕ) → type_at table m.type ≡ form → IsPartType table form st v → (k : Node) × (step table m (sel_of st) ≡ Some k) × (k.type ≡ v)
part_node table m form st v at (member s k w is has) =
    (along m (field_branch k w), ap (λ f. option_map (along m) (option_map (field_branch k) (slice_get (fields_of table f) k))) at ∙ ap (λ o. option_map (along m) (option_map (field_branch k) o)) has, refl)
part_node table m form st v at (element i w n is) =
    (record { base = m.base; path = m.path ++ sel.Element ∷ []; type = w }, ap (λ f. option_map (along m) (element_of f)) (at ∙ is), refl)

typed_from : (table : Table) (own : ℕ) (m : Node) (path : List CellStep) (u : ℕ) → type_along table own path m.type ≡ Some u → (n : Node) × (node_along table m path ≡ Some n) × (n.type ≡ u)
typed_from table own m [] u h = (m, refl, same_Some m.type u h)
typed_from table own m (st ∷ path) u h =
    let part = chained (λ v. type_along table own path v) (part_at table own m.type st) u h in
    let form = chained (λ form. part_type table own form st) (slice_get table.types m.type) part.0 part.1 in
    let k = part_node table m form.0 st part.0 (ap (λ o. unwrap_or o Void) form.1) (part_is table own form.0 st part.0 form.2) in
    let on = typed_from table own k.0 path u (subst (λ v. type_along table own path v ≡ Some u) (sym k.2) part.2) in
    (on.0, ap (λ o. option_and_then (λ x. node_along table x path) o) k.1 ∙ on.1, on.2)

-- the node to which a path leads is of the type that it leads to
pub typed_node : (table : Table) (own t : ℕ) (path : List CellStep) (u : ℕ) → type_along table own path t ≡ Some u → (n : Node) × (node_along table (first (Start t)) path ≡ Some n) × (n.type ≡ u)
typed_node table own t path u h = typed_from table own (first (Start t)) path u h

-- a part that is there, in an object of any length
pub part_along : (table : Table) (own t : ℕ) (path : List CellStep) (u : ℕ) → HasPartAt table t path u → type_along table own path t ≡ Some u
part_along table own t path u (whole a) = refl
part_along table own t path u (field a k m rest b is has) =
    let member_type : slice_get (fields_of table (Struct is.0)) k ≡ Some m = slice_get-map (λ member. member.ty) (members_of table is.0) k ∙ (ap (option_map (λ member. member.ty)) is.2.1 ∙ ap Some is.2.2) in
    ap (λ o. option_and_then (λ v. type_along table own rest v) (option_and_then (λ form. part_type table own form (Field k)) o)) is.1
    ∙ (ap (λ o. option_and_then (λ v. type_along table own rest v) o) member_type ∙ part_along table own m rest b has)
part_along table own t path u (index a i e n rest b form within has) =
    let some : nat_eq n 0 ≡ false = grind (arith, nat_tests, within) in
    let less : nat_lt i n ≡ true = grind (arith, nat_tests, within) in
    ap (λ o. option_and_then (λ v. type_along table own rest v) (option_and_then (λ form. part_type table own form (Index i)) o)) form
    ∙ (ap (λ b. option_and_then (λ v. type_along table own rest v) (if nat_lt i (if b then own else n) then Some e else None)) some
    ∙ (ap (λ b. option_and_then (λ v. type_along table own rest v) (if b then Some e else None)) less ∙ part_along table own e rest b has))

-- ---- the labels of parts

module _ (program : Program) where
  -- what is reached from a Start without Target is a node
  node_of_within : {t : ℕ} {n : NodeId} → IsWithin program.types t n → IsNode program.types n
  node_of_within (within_start n at) = at.node
  node_of_within (within_part m n s within leads steps) = steps.node

  any_node : {t : ℕ} {n : NodeId} → IsWithin program.types t n → IsNodeOf program.types t n
  any_node (within_start n at) = node_start n at
  any_node (within_part m n s within leads steps) = node_part m n s (any_node within) steps

  names_place : {t : ℕ} {n : NodeId} (root : Bool) → root ≡ true → IsWithin program.types t n → NamesPlace program.types t root n
  names_place root is (within_start n at) = place_start n is at
  names_place root is (within_part m n s within leads steps) = place_part m n s (any_node within) (inside_to_place (form_of program.types m) s leads) steps

  -- paths that differ in their indices alone lead to one place
  pub place_along : (r : ℕ) (p q : List CellStep) (x : LabelName) → map sel_of p ≡ map sel_of q → IsPlaceAt program r p x → IsPlaceAt program r q x
  place_along r p q x same place = record {
    ty = place.ty;
    of = place.of;
    holder = place.holder;
    within = place.within;
    leads = along_place program.types (first (Start place.ty)) q p (sym same) ∙ place.leads;
  }

  module _ (is : IsTable program.types) (in_range : IsInRange program) where
    -- where a path leads from a node that is reached without Target
    record Reaches (t : ℕ) (n : NodeId) (path : List CellStep) (u : ℕ) : Type 0 where
      to : NodeId
      within : IsWithin program.types t to
      leads : node_along program.types (node_of program.types n) path ≡ Some (node_of program.types to)
      typed : (node_of program.types to).type ≡ u

    -- one step
    one_step : (t : ℕ) (n : NodeId) (form : CType) (st : CellStep) (v : ℕ) → IsWithin program.types t n → IsForm program.types (node_of program.types n).type form → IsPartType program.types form st v →
        (m : NodeId) × IsWithin program.types t m × (step program.types (node_of program.types n) (sel_of st) ≡ Some (node_of program.types m)) × ((node_of program.types m).type ≡ v)
    one_step t n form st w within at (member s k v struct has) =
        let form_is : type_at program.types (node_of program.types n).type ≡ form = ap (λ o. unwrap_or o Void) at in
        let fields : slice_get (fields_of program.types (type_at program.types (node_of program.types n).type)) k ≡ Some v = ap (λ f. slice_get (fields_of program.types f) k) form_is ∙ has in
        let there = field_there program.types is n (node_of_within within) k v (known_form program.types is (node_of program.types n).type form at) fields in
        let inside : leads_inside (form_of program.types n) (sel.Field k) ≡ true = ap (λ f. not (is_function f)) (form_is ∙ struct) in
        let typed = field_step program.types is (node_of program.types n) (node_of program.types there.0) k there.1.leads in
        (there.0, within_part n there.0 (sel.Field k) within inside there.1, there.1.leads, same_Some _ v (sym typed ∙ fields))
    one_step t n form st w within at (element i v size array) =
        let there = element_there program.types is n (node_of_within within) v size (at ∙ ap (λ f. Some f) array) in
        let typed = element_step program.types is (node_of program.types n) (node_of program.types there.0) there.1.leads in
        (there.0, within_part n there.0 sel.Element within refl there.1, there.1.leads, one_array _ v typed.size size (sym typed.array ∙ (at ∙ ap (λ f. Some f) array)))
      where
        one_array : (a b n m : ℕ) → Some (Array a n) ≡ Some (Array b m) → a ≡ b
        one_array a b n m h = cc

    reached : (t own : ℕ) (n : NodeId) (path : List CellStep) (u : ℕ) → IsWithin program.types t n → type_along program.types own path (node_of program.types n).type ≡ Some u → Reaches t n path u
    reached t own n [] u within h = record { to = n; within = within; leads = refl; typed = same_Some _ u h }
    reached t own n (st ∷ path) u within h =
        let part = chained (λ v. type_along program.types own path v) (part_at program.types own (node_of program.types n).type st) u h in
        let form = chained (λ form. part_type program.types own form st) (slice_get program.types.types (node_of program.types n).type) part.0 part.1 in
        let m = one_step t n form.0 st part.0 within form.1 (part_is program.types own form.0 st part.0 form.2) in
        let on = reached t own m.0 path u m.1 (subst (λ v. type_along program.types own path v ≡ Some u) (sym m.3) part.2) in
        record { to = on.to; within = on.within; leads = ap (λ o. option_and_then (λ x. node_along program.types x path) o) m.2 ∙ on.leads; typed = on.typed }

    root_known : (r t : ℕ) → IsRootType program r t → IsKnown program.types t
    root_known r t has = subst (λ u. u < length program.types.types) has.2 (All-got (IsRootInRange (sizes_of program)) program.roots r has.0 in_range.parts.roots has.1).ty

    -- a part to which a path leads in an object of the root has a place, of its type
    pub typed_place : (r own t : ℕ) (path : List CellStep) (u : ℕ) → IsRootType program r t → type_along program.types own path t ≡ Some u → (x : LabelName) × IsPlaceAt program r path x × (type_of program x ≡ u)
    typed_place r own t path u has leads =
        let start = first_id (Start t) in
        let is_start = first_node program.types (Start t) in
        let within = within_start start (record { node = first_is_node program.types (Start t) (root_known r t has); first = is_start }) in
        let to = reached t own start path u within (subst (λ (n : Node). type_along program.types own path n.type ≡ Some u) (sym is_start) leads) in (
          name_with (Root r) to.to,
          record { ty = t; of = has; holder = refl; within = to.within; leads = subst (λ (n : Node). node_along program.types n path ≡ Some (node_of program.types to.to)) is_start to.leads },
          to.typed,
        )
