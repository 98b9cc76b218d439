-- The nodes to which steps lead.
use Rattle.std.proofs.Common.{◌≡◌, ◌∙◌, ◌≤◌, ◌<◌, ◌+◌, ◌-◌, ℕ, zero, suc, Bool, true, false, List, [], ◌∷◌, ◌++◌, length, map, refl, sym, ap, subst, arith, All, Option, Some, None, get_or, take, length-append}
use Rattle.std.specs.List.{flat_map, slice_get}
use Rattle.std.specs.Option.{option_map}
use Rattle.std.specs.Prelude.{unwrap_or}
use Rattle.std.proofs.lemmas.Bool.{false≢true}
use Rattle.std.proofs.lemmas.List.{length-map}
use Rattle.std.proofs.lemmas.Option.{none-some, same_Some, slice_get_within, slice_get-get_or, slice_get_past, slice_get-map}
use Rattle.std.proofs.lemmas.List.Elements.{All-head, All-tail}
use Rattle.lk_types.specs.declared.member.StructMember.{StructMember}
use Rattle.lk_types.specs.Building.{IsTable, IsMadeOf, types_of}
use Rattle.lk_types.specs.Equal.IsEqualBut.{same}
use Rattle.lk_types.specs.Nodes.{IsNode, IsBase, node_of, entry_of, first, base_type}
use Rattle.lk_types.specs.Places.{entry_at, is_node, branch_of, IsInPart, nodes_before, nodes_of_all}
use Rattle.lk_types.specs.Sizes.{nodes_of, steps_of, size_at}
use Rattle.lk_types.specs.Table.{Table, type_at, least_of, fields_of, members_of, IsKnown}
use Rattle.lk_types.specs.Walks.{Branch, Entry, at_branch, under, start, nodes, target, element, field, fields, branches, has_tag}
use Rattle.lk_types.specs.declared.c_type.CType.{CType}
use Rattle.lk_types.specs.declared.c_type.CType.TheVariants.{Void, Int, ThreadId, Mutex, Cond, Pointer, Array, Struct, Function, Opaque}
use Rattle.lk_types.specs.declared.node.Base.{Base}
use Rattle.lk_types.specs.declared.node.Base.TheVariants.{Start, Tag}
use Rattle.lk_types.specs.declared.node.NodeId.{NodeId}
use Rattle.lk_types.specs.declared.node.Sel.{Sel}
use Rattle.lk_types.specs.declared.node.Sel.TheVariants.{Target, Element, Field}
use Rattle.lk_types.proofs.Fuel.{few_of}
use Rattle.lk_types.proofs.KeptLemmas.{small_at}
use Rattle.lk_types.proofs.PartLemmas.{target_by}
use Rattle.lk_types.proofs.PathLemmas.{entry_got}
use Rattle.lk_types.proofs.PlaceLemmas.{Stands, here, later, inside_is}
use Rattle.lk_types.proofs.SubwalkLemmas.{first_of, first_entry, out_of_part, subwalk, split}

tag_alone : (k : ℕ) (e : Entry) → e.tag ≡ true → option_map (λ e. e.tag) (slice_get (e ∷ []) k) ≡ Some false → ⊥
tag_alone zero e tagged is = false≢true (sym (same_Some e.tag false is) ∙ tagged)
tag_alone (suc k) e tagged is = none-some false is

pub append-nil : {X : Type 0} (xs : List X) → xs ≡ xs ++ []
append-nil [] = refl
append-nil (x ∷ xs) = ap (λ ys. x ∷ ys) (append-nil xs)

map_twice : {X Y Z : Type 0} (g : Y → Z) (f : X → Y) (o : Option X) → option_map g (option_map f o) ≡ option_map (λ x. g (f x)) o
map_twice g f None = refl
map_twice g f (Some x) = refl

some_within : (es : List Entry) (k : ℕ) → option_map (λ e. e.tag) (slice_get es k) ≡ Some false → k < length es
some_within [] k is = absurd (none-some false is)
some_within (e ∷ es) zero is = omega arith
some_within (e ∷ es) (suc k) is = let l = some_within es k is in omega arith

take-all : {X : Type 0} (xs : List X) (k : ℕ) → length xs ≤ k → take k xs ≡ xs
take-all [] zero past = refl
take-all [] (suc k) past = refl
take-all (x ∷ xs) zero past = absurd (omega arith)
take-all (x ∷ xs) (suc k) past = ap (λ ys. x ∷ ys) (take-all xs k (omega arith))

-- the id of the first node of a walk
abbrev pub first_id : Base → NodeId
first_id base = record { base = base; number = 0 }

first_got : (table : Table) (base : Base) → entry_of table (first_id base) ≡ start (base_type base)
first_got table base = ap (λ o. unwrap_or o (start (base_type base))) (first_of _ table (base_type base))

pub first_node : (table : Table) (base : Base) → node_of table (first_id base) ≡ first base
first_node table base = ap (λ e. record { base = base; path = e.path; type = e.type }) (first_got table base)

pub first_is_node : (table : Table) (base : Base) → IsBase table base → IsNode table (first_id base)
first_is_node table base known = record {
  base = known;
  number = slice_get_within _ 0 (start (base_type base)) (first_of _ table (base_type base));
  no_tag = ap (λ e. e.tag) (first_got table base);
}

pub known_base : (table : Table) (base : Base) → IsBase table base → IsKnown table (base_type base)
known_base table (Start t) h = h
known_base table (Tag t) h = h.0

-- the Tag of the least of a type
pub tag_base : (table : Table) → IsTable table → (t : ℕ) → IsKnown table t → IsBase table (Tag (least_of table t))
tag_base table good t known =
    let is = good.least t known in
    let low = is.least t known (same refl) in
    let there : IsKnown table (least_of table t) = omega arith in
    (there, (good.alike (least_of table t) t there known).0 is.alike)

-- what the form at a number is
pub type_is : (table : Table) (t : ℕ) (form : CType) → slice_get table.types t ≡ Some form → type_at table t ≡ form
type_is table t form at = ap (λ o. unwrap_or o Void) at

pub struct_field : (table : Table) (s : ℕ) (ms : List StructMember) → ms ≡ members_of table s → (k : ℕ) (m : StructMember) → k < length ms → m ≡ get_or ms k m → slice_get (fields_of table (Struct s)) k ≡ Some m.ty
struct_field table s ms is k m within got =
    ap (λ ns. slice_get (types_of ns) k) (sym is) ∙ slice_get-map (λ member. member.ty) ms k ∙ ap (option_map (λ member. member.ty)) (slice_get-get_or ms k m within ∙ ap Some (sym got))

pub no_struct_field : (table : Table) (s : ℕ) (ms : List StructMember) → ms ≡ members_of table s → (k : ℕ) → length ms ≤ k → slice_get (fields_of table (Struct s)) k ≡ None
no_struct_field table s ms is k past = ap (λ ns. slice_get (types_of ns) k) (sym is) ∙ slice_get_past (types_of ms) k (omega (arith, length-map ms (λ member. member.ty)))

pub parameter_field : (r : ℕ) (ps : List ℕ) (k p : ℕ) → (k ≡ 0 → ⊥) → k ≤ length ps → p ≡ get_or ps (k - 1) p → slice_get (r ∷ ps) k ≡ Some p
parameter_field r ps zero p some within got = absurd (some refl)
parameter_field r ps (suc k) p some within got =
    let number : suc k - 1 ≡ k = omega arith in
    slice_get-get_or ps k p within ∙ ap Some (ap (λ n. get_or ps n p) (sym number) ∙ sym got)

pub no_parameter_field : (r : ℕ) (ps : List ℕ) (k : ℕ) → (k ≡ 0 → ⊥) → length ps < k → slice_get (r ∷ ps) k ≡ None
no_parameter_field r ps zero some past = absurd (some refl)
no_parameter_field r ps (suc k) some past = slice_get_past ps k (omega (arith, past))

all_got : (P : ℕ → Type 0) (xs : List ℕ) (k u : ℕ) → All P xs → slice_get xs k ≡ Some u → P u
all_got P [] k u all at = absurd (none-some u at)
all_got P (x ∷ xs) zero u all at = subst P (same_Some x u at) (All-head P x xs all)
all_got P (x ∷ xs) (suc k) u all at = all_got P xs k u (All-tail P x xs all) at

pub field_known : (table : Table) (t : ℕ) (form : CType) → IsKnown table t → IsMadeOf table t form → (k u : ℕ) → slice_get (fields_of table form) k ≡ Some u → IsKnown table u
field_known table t Void known made k u at = absurd (none-some u at)
field_known table t (Int kind) known made k u at = absurd (none-some u at)
field_known table t ThreadId known made k u at = absurd (none-some u at)
field_known table t Mutex known made k u at = absurd (none-some u at)
field_known table t Cond known made k u at = absurd (none-some u at)
field_known table t (Pointer v) known made k u at = absurd (none-some u at)
field_known table t (Array v n) known made k u at = absurd (none-some u at)
field_known table t (Struct s) known made k u at = all_got (IsKnown table) (fields_of table (Struct s)) k u made.1 at
field_known table t (Function result params dots) known made k u at = let less : u < t = all_got (λ u. u < t) (result ∷ params) k u made at in omega (arith, less, known)
field_known table t (Opaque n) known made k u at = absurd (none-some u at)

-- two entries have the same type, and are both the place of a Tag or both not
pub record IsSamePart (a b : Option Entry) : Type 0 where
  pub type : option_map (λ e. e.type) a ≡ option_map (λ e. e.type) b
  pub tag : option_map (λ e. e.tag) a ≡ option_map (λ e. e.tag) b

-- an entry and that of the part in whose walk it stands have one type and one tag
pub same_part : (table : Table) (t k : ℕ) (sel : Sel) (u rest : ℕ) → IsInPart table t k sel u rest → IsSamePart (entry_at table t (suc k)) (entry_at table u rest)
same_part table t k sel u rest part = record {
  type = ap (option_map (λ e. e.type)) part.same ∙ map_twice (λ e. e.type) (under sel) (entry_at table u rest);
  tag = ap (option_map (λ e. e.tag)) part.same ∙ map_twice (λ e. e.tag) (under sel) (entry_at table u rest);
}

module _ (table : Table) (good : IsTable table) where
  -- the way into a part
  pub way_inside : (t : ℕ) → IsKnown table t → (b : Branch) (o : ℕ) → Stands (nodes table) (branches table (type_at table t)) b o → b.tag ≡ false →
      entry_at table t (suc o) ≡ Some (record { path = b.sel ∷ []; type = b.type; tag = false })
  way_inside t known b o at plain =
      let number : suc (o + 0) ≡ suc o = omega arith in
      subst (λ n. slice_get (nodes table t) n ≡ Some (under b.sel (start b.type))) number (out_of_part table good t known b o at plain 0 (start b.type) (first_entry table good b.type))

  pub target_plain : (t : ℕ) → has_tag table t ≡ false → target table t ≡ record { sel = Target; type = t; tag = false }
  target_plain t plain = ap (λ tag. target_by tag (least_of table t) t) plain

  pub target_tag : (t : ℕ) → has_tag table t ≡ true → target table t ≡ record { sel = Target; type = least_of table t; tag = true }
  target_tag t tagged = ap (λ tag. target_by tag (least_of table t) t) tagged

  pub way_to_target : (t u : ℕ) → slice_get table.types t ≡ Some (Pointer u) → has_tag table u ≡ false →
      entry_at table t 1 ≡ Some (record { path = Target ∷ []; type = u; tag = false })
  way_to_target t u at plain =
      way_inside t (slice_get_within table.types t (Pointer u) at) (record { sel = Target; type = u; tag = false }) 0
      (subst (λ form. Stands (nodes table) (branches table form) (record { sel = Target; type = u; tag = false }) 0) (sym (type_is table t (Pointer u) at))
      (subst (λ b. Stands (nodes table) (b ∷ []) (record { sel = Target; type = u; tag = false }) 0) (sym (target_plain u plain)) here)) refl

  pub way_to_element : (t u n : ℕ) → slice_get table.types t ≡ Some (Array u n) → entry_at table t 1 ≡ Some (record { path = Element ∷ []; type = u; tag = false })
  way_to_element t u n at =
      way_inside t (slice_get_within table.types t (Array u n) at) (element u) 0
      (subst (λ form. Stands (nodes table) (branches table form) (element u) 0) (sym (type_is table t (Array u n) at)) here) refl

  -- how many entries the fields before one have
  before_of : (ts : List ℕ) (k : ℕ) → ℕ
  before_of ts k = nodes_of_all table (take k ts)

  field_size : (k t : ℕ) → length (at_branch (nodes table) (field k t)) ≡ nodes_of table t
  field_size k t = length-map (nodes table t) (under (Field k))

  pub field_stands : (ts : List ℕ) (i k u : ℕ) → slice_get ts k ≡ Some u → Stands (nodes table) (fields i ts) (field (i + k) u) (nodes_of_all table (take k ts))
  field_stands [] i k u at = absurd (none-some u at)
  field_stands (t ∷ ts) i zero u at =
      let number : i ≡ i + 0 = omega arith in
      subst (λ n. Stands (nodes table) (fields i (t ∷ ts)) (field n u) 0) number (subst (λ v. Stands (nodes table) (fields i (t ∷ ts)) (field i v) 0) (same_Some t u at) here)
  field_stands (t ∷ ts) i (suc k) u at =
      let number : suc i + k ≡ i + suc k = omega arith in
      let place : length (at_branch (nodes table) (field i t)) + nodes_of_all table (take k ts) ≡ nodes_of table t + nodes_of_all table (take k ts) = omega (arith, field_size i t) in
      subst (λ n. Stands (nodes table) (fields i (t ∷ ts)) (field n u) (nodes_of table t + nodes_of_all table (take k ts))) number
      (subst (λ p. Stands (nodes table) (fields i (t ∷ ts)) (field (suc i + k) u) p) place (later (field_stands ts (suc i) k u at)))

  pub fields_length : (ts : List ℕ) (i : ℕ) → length (flat_map (at_branch (nodes table)) (fields i ts)) ≡ nodes_of_all table ts
  fields_length [] i = refl
  fields_length (t ∷ ts) i =
      let first = at_branch (nodes table) (field i t) in
      let rest = flat_map (at_branch (nodes table)) (fields (suc i) ts) in
      let e : length first + length rest ≡ nodes_of table t + nodes_of_all table ts = omega (arith, field_size i t, fields_length ts (suc i)) in
      length-append first rest ∙ e

  pub more_fields : (ts : List ℕ) (k u : ℕ) → slice_get ts k ≡ Some u → nodes_of_all table (take (k + 1) ts) ≡ nodes_of_all table (take k ts) + nodes_of table u
  more_fields [] k u at = absurd (none-some u at)
  more_fields (t ∷ ts) zero u at = let is : t ≡ u = same_Some t u at in omega (arith, ap (nodes_of table) is)
  more_fields (t ∷ ts) (suc k) u at =
      let number : suc k + 1 ≡ suc (k + 1) = omega arith in
      let e : nodes_of table t + nodes_of_all table (take (k + 1) ts) ≡ nodes_of table t + nodes_of_all table (take k ts) + nodes_of table u = omega (arith, more_fields ts k u at) in
      ap (λ n. nodes_of_all table (take n (t ∷ ts))) number ∙ e

  pub all_fields_before : (ts : List ℕ) (k : ℕ) → length ts ≤ k → nodes_of_all table (take k ts) ≡ nodes_of_all table ts
  all_fields_before ts k past = ap (λ us. nodes_of_all table us) (take-all ts k past)

  pub fields_before_le : (ts : List ℕ) (k : ℕ) → nodes_of_all table (take k ts) ≤ nodes_of_all table ts
  fields_before_le [] zero = omega arith
  fields_before_le [] (suc k) = omega arith
  fields_before_le (t ∷ ts) zero = omega arith
  fields_before_le (t ∷ ts) (suc k) =
      let low = fields_before_le ts k in
      let e : nodes_of table t + nodes_of_all table (take k ts) ≤ nodes_of table t + nodes_of_all table ts = omega arith in e

  pub some_nodes : (t : ℕ) → 1 ≤ nodes_of table t
  some_nodes t = slice_get_within (nodes table t) 0 (start t) (first_entry table good t)

  fields_branches : (form : CType) (k u : ℕ) → slice_get (fields_of table form) k ≡ Some u → branches table form ≡ fields 0 (fields_of table form)
  fields_branches Void k u at = absurd (none-some u at)
  fields_branches (Int kind) k u at = absurd (none-some u at)
  fields_branches ThreadId k u at = absurd (none-some u at)
  fields_branches Mutex k u at = absurd (none-some u at)
  fields_branches Cond k u at = absurd (none-some u at)
  fields_branches (Pointer v) k u at = absurd (none-some u at)
  fields_branches (Array v n) k u at = absurd (none-some u at)
  fields_branches (Struct s) k u at = refl
  fields_branches (Function result params dots) k u at = refl
  fields_branches (Opaque n) k u at = absurd (none-some u at)

  -- how many nodes a type with fields has
  pub fielded_nodes : (t : ℕ) → IsKnown table t → branches table (type_at table t) ≡ fields 0 (fields_of table (type_at table t)) →
      nodes_of table t ≡ suc (nodes_of_all table (fields_of table (type_at table t)))
  fielded_nodes t known is =
      ap length (split table good t known) ∙ ap (λ bs. suc (length (flat_map (at_branch (nodes table)) bs))) is ∙ ap suc (fields_length (fields_of table (type_at table t)) 0)

  few_nodes : (t : ℕ) → IsKnown table t → nodes_of table t ≤ 65537
  few_nodes t known = (few_of (size_at table t) (small_at table good t known)).0

  pub fields_bound : (t : ℕ) → IsKnown table t → (k u : ℕ) → slice_get (fields_of table (type_at table t)) k ≡ Some u →
      nodes_of_all table (take k (fields_of table (type_at table t))) + nodes_of table u < 65537
  fields_bound t known k u at =
      let ts = fields_of table (type_at table t) in
      let whole = fielded_nodes t known (fields_branches (type_at table t) k u at) in
      omega (arith, whole, few_nodes t known, more_fields ts k u at, fields_before_le ts (k + 1))

  -- an entry of the walk of a field is that of the type
  pub in_field : (t : ℕ) → IsKnown table t → (k u rest number : ℕ) → slice_get (fields_of table (type_at table t)) k ≡ Some u → rest < nodes_of table u →
      number ≡ nodes_of_all table (take k (fields_of table (type_at table t))) + rest → IsKnown table u → IsInPart table t number (Field k) u rest
  in_field t known k u rest number at within is there =
      let ts = fields_of table (type_at table t) in
      let place = nodes_of_all table (take k ts) in
      let zero_plus : 0 + k ≡ k = omega arith in
      let stands = subst (λ bs. Stands (nodes table) bs (field k u) place) (sym (fields_branches (type_at table t) k u at)) (subst (λ n. Stands (nodes table) (fields 0 ts) (field n u) place) zero_plus (field_stands ts 0 k u at)) in
      let e = get_or (nodes table u) rest (start u) in
      let entry = slice_get-get_or (nodes table u) rest (start u) within in
      let got = out_of_part table good t known (field k u) place stands refl rest e entry in
      let same : slice_get (nodes table t) (suc number) ≡ Some (under (Field k) e) = ap (λ n. slice_get (nodes table t) (suc n)) is ∙ got in
      record {
        part = ap (option_map (field k)) at;
        known = there;
        nearer = omega arith;
        within = within;
        same = same ∙ sym (ap (option_map (under (Field k))) entry);
      }

  -- past the fields there is no entry
  pub no_entry : (t : ℕ) → IsKnown table t → branches table (type_at table t) ≡ fields 0 (fields_of table (type_at table t)) → (number : ℕ) →
      nodes_of_all table (fields_of table (type_at table t)) ≤ number → is_node (entry_at table t (suc number)) → ⊥
  no_entry t known is number past node =
      none-some false (sym (ap (option_map (λ e. e.tag)) (slice_get_past (nodes table t) (suc number) (omega (arith, fielded_nodes t known is)))) ∙ node)

  -- an entry of the walk of the one part of a type
  pub in_only : (t : ℕ) → IsKnown table t → (b : Branch) → b.tag ≡ false → branches table (type_at table t) ≡ b ∷ [] →
      branch_of table (type_at table t) b.sel ≡ Some (record { sel = b.sel; type = b.type; tag = false }) → IsKnown table b.type → (number : ℕ) → is_node (entry_at table t (suc number)) →
      IsInPart table t number b.sel b.type number
  in_only t known b plain is part there number node =
      let whole : nodes table t ≡ start t ∷ (map (under b.sel) (nodes table b.type) ++ []) =
      split table good t known ∙ ap (λ bs. start t ∷ flat_map (at_branch (nodes table)) bs) is ∙ ap (λ es. start t ∷ (es ++ [])) (inside_is (nodes table) b plain) in
      let same : slice_get (nodes table t) (suc number) ≡ option_map (under b.sel) (slice_get (nodes table b.type) number) =
      ap (λ es. slice_get es (suc number)) whole ∙ ap (λ es. slice_get es number) (sym (append-nil (map (under b.sel) (nodes table b.type)))) ∙ slice_get-map (under b.sel) (nodes table b.type) number in
      let tags = ap (option_map (λ e. e.tag)) same ∙ map_twice (λ e. e.tag) (under b.sel) (slice_get (nodes table b.type) number) in
      record {
        part = part;
        known = there;
        nearer = omega arith;
        within = some_within (nodes table b.type) number (sym tags ∙ node);
        same = same;
      }

  -- the node that a way inside leads to
  pub inside_got : (n : NodeId) → IsNode table n → (place u : ℕ) (sel : Sel) → entry_at table (node_of table n).type (suc place) ≡ Some (record { path = sel ∷ []; type = u; tag = false }) →
      slice_get (nodes table (base_type n.base)) (n.number + place + 1) ≡ Some (record { path = (entry_of table n).path ++ sel ∷ []; type = u; tag = false })
  inside_got n ok place u sel at =
      let number : n.number + suc place ≡ n.number + place + 1 = omega arith in
      let known = known_base table n.base ok.base in
      let got = subwalk table good (steps_of table (base_type n.base)) (base_type n.base) known (omega arith) n.number (entry_of table n) (entry_got table n ok.number) ok.no_tag
      (suc place) (record { path = sel ∷ []; type = u; tag = false }) at in
      subst (λ k. slice_get (nodes table (base_type n.base)) k ≡ Some (record { path = (entry_of table n).path ++ sel ∷ []; type = u; tag = false })) number got.1

  -- the number of that node is within the bound of a type's nodes
  pub inside_room : (n : NodeId) → IsNode table n → (place u : ℕ) (sel : Sel) → entry_at table (node_of table n).type (suc place) ≡ Some (record { path = sel ∷ []; type = u; tag = false }) → n.number + place + 1 < 65537
  inside_room n ok place u sel at =
      let within = slice_get_within (nodes table (base_type n.base)) (n.number + place + 1) _ (inside_got n ok place u sel at) in
      omega (arith, within, few_nodes (base_type n.base) (known_base table n.base ok.base))

  pub entry_is : (n : NodeId) (e : Entry) → slice_get (nodes table (base_type n.base)) n.number ≡ Some e → entry_of table n ≡ e
  entry_is n e at = ap (λ o. unwrap_or o (start (base_type n.base))) at

  pub inside_node : (n m : NodeId) → IsNode table n → m.base ≡ n.base → (e : Entry) → slice_get (nodes table (base_type n.base)) m.number ≡ Some e → e.tag ≡ false → IsNode table m
  inside_node n m ok bases e at plain =
      let at' : slice_get (nodes table (base_type m.base)) m.number ≡ Some e = subst (λ b. slice_get (nodes table (base_type b)) m.number ≡ Some e) (sym bases) at in
      record {
        base = subst (IsBase table) (sym bases) ok.base;
        number = slice_get_within (nodes table (base_type m.base)) m.number e at';
        no_tag = ap (λ x. x.tag) (entry_is m e at') ∙ plain;
      }

  -- the way into a field
  pub way_to_field : (t : ℕ) → IsKnown table t → (k u place : ℕ) → slice_get (fields_of table (type_at table t)) k ≡ Some u → place ≡ nodes_before table t k →
      entry_at table t (suc place) ≡ Some (record { path = Field k ∷ []; type = u; tag = false })
  way_to_field t known k u place at is =
      let ts = fields_of table (type_at table t) in
      let zero_plus : 0 + k ≡ k = omega arith in
      let before = nodes_of_all table (take k ts) in
      let stands = subst (λ bs. Stands (nodes table) bs (field k u) before) (sym (fields_branches (type_at table t) k u at)) (subst (λ n. Stands (nodes table) (fields 0 ts) (field n u) before) zero_plus (field_stands ts 0 k u at)) in
      ap (λ n. entry_at table t (suc n)) is ∙ way_inside t known (field k u) before stands refl

  -- the entries below a pointer are those of what it points to, where no Tag stands
  pub in_target : (t : ℕ) → IsKnown table t → (u : ℕ) → type_at table t ≡ Pointer u → IsKnown table u → (number : ℕ) → is_node (entry_at table t (suc number)) → IsInPart table t number Target u number
  in_target t known u is there number node = of (has_tag table u) refl
    where
      of : (tag : Bool) → has_tag table u ≡ tag → IsInPart table t number Target u number
      of false plain =
          in_only t known (record { sel = Target; type = u; tag = false }) refl (ap (branches table) is ∙ ap (λ b. b ∷ []) (target_plain u plain))
          (ap (λ form. branch_of table form Target) is ∙ ap Some (target_plain u plain)) there number node
      of true tagged =
          let whole : nodes table t ≡ start t ∷ (record { path = Target ∷ []; type = least_of table u; tag = true } ∷ []) =
          split table good t known ∙ ap (λ bs. start t ∷ flat_map (at_branch (nodes table)) bs) (ap (branches table) is ∙ ap (λ b. b ∷ []) (target_tag u tagged)) in
          absurd (tag_alone number (record { path = Target ∷ []; type = least_of table u; tag = true }) refl (sym (ap (λ es. option_map (λ e. e.tag) (slice_get es (suc number))) whole) ∙ node))

  -- the type of a node by the last entry that is the same
  pub last_type : (n : NodeId) → n.number < length (nodes table (base_type n.base)) → (t : ℕ) →
      option_map (λ e. e.type) (entry_at table (base_type n.base) n.number) ≡ option_map (λ e. e.type) (entry_at table t 0) → t ≡ (entry_of table n).type
  last_type n within t is =
      same_Some t (entry_of table n).type (sym (ap (option_map (λ e. e.type)) (first_entry table good t)) ∙ sym is ∙ ap (option_map (λ e. e.type)) (entry_got table n within))

  -- what a walk's first entry tells of the type
  pub first_type : (t u : ℕ) → option_map (λ e. e.type) (entry_at table t 0) ≡ Some u → u ≡ t
  first_type t u is = sym (same_Some t u (sym (ap (option_map (λ e. e.type)) (first_entry table good t)) ∙ is))

pub none_past : {X : Type 0} (xs : List X) (k : ℕ) → slice_get xs k ≡ None → length xs ≤ k
none_past [] k is = omega arith
none_past (x ∷ xs) zero is = absurd (none-some x (sym is))
none_past (x ∷ xs) (suc k) is = let low = none_past xs k is in omega arith
