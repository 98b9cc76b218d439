-- Whether the path of a node goes into no array, from what is left of the path.
use Rattle.std.proofs.Common.{◌≡◌, ◌∙◌, ◌↔◌, ℕ, suc, List, ◌∷◌, refl, sym, ap, subst, Some, get_or}
use Rattle.std.specs.Option.{option_map}
use Rattle.std.proofs.lemmas.Option.{none-some, same_Some, slice_get-get_or}
use Rattle.lk_types.specs.Building.{IsTable}
use Rattle.lk_types.specs.Nodes.{IsNode, entry_of, base_type, element_of, HasNoElement}
use Rattle.lk_types.specs.Places.{entry_at, is_node, branch_of, IsInPart}
use Rattle.lk_types.specs.Table.{Table, type_at, IsKnown}
use Rattle.lk_types.specs.Walks.{Branch, Entry, under, start, nodes}
use Rattle.lk_types.specs.declared.c_type.CType.{CType}
use Rattle.lk_types.specs.declared.c_type.CType.TheVariants.{Void, Int, ThreadId, Mutex, Cond, Pointer, Array, Struct, Function, Opaque}
use Rattle.lk_types.specs.declared.node.NodeId.{NodeId}
use Rattle.lk_types.specs.declared.node.Sel.{Sel}
use Rattle.lk_types.specs.declared.node.Sel.TheVariants.{Target, Element, Field, Part}
use Rattle.lk_types.proofs.NodeLemmas.{IsSamePart, known_base, same_part}
use Rattle.lk_types.proofs.PathLemmas.{entry_got}
use Rattle.lk_types.proofs.SubwalkLemmas.{first_entry}

-- what is left of the way to a node is the way to entry k of the walk of t
pub record IsLeft (table : Table) (n : NodeId) (t k : ℕ) : Type 0 where
  pub known : IsKnown table t
  pub same : IsSamePart (entry_at table (base_type n.base) n.number) (entry_at table t k)
  pub path : (e : Entry) → entry_at table t k ≡ Some e → HasNoElement (entry_of table n).path ↔ HasNoElement e.path

pub all_left : (table : Table) (n : NodeId) → IsNode table n → IsLeft table n (base_type n.base) n.number
all_left table n node = record {
  known = known_base table n.base node.base;
  same = record { type = refl; tag = refl };
  path = λ e at. let is = same_Some (entry_of table n) e (sym (entry_got table n node.number) ∙ at) in
      (subst (λ x. HasNoElement x.path) is, subst (λ x. HasNoElement x.path) (sym is));
}

-- an entry that is left is no Tag's place
pub left_node : (table : Table) (n : NodeId) → IsNode table n → (t k : ℕ) → IsLeft table n t k → is_node (entry_at table t k)
left_node table n node t k left =
    sym left.same.tag ∙ ap (option_map (λ e. e.tag)) (entry_got table n node.number) ∙ ap Some node.no_tag

-- a step into an element leads into an array
array_of : (form : CType) (b : Branch) → element_of form ≡ Some b → (u : ℕ) × (n : ℕ) × (form ≡ Array u n)
array_of Void b is = absurd (none-some b is)
array_of (Int kind) b is = absurd (none-some b is)
array_of ThreadId b is = absurd (none-some b is)
array_of Mutex b is = absurd (none-some b is)
array_of Cond b is = absurd (none-some b is)
array_of (Pointer t) b is = absurd (none-some b is)
array_of (Array t n) b is = (t, n, refl)
array_of (Struct s) b is = absurd (none-some b is)
array_of (Function result params dots) b is = absurd (none-some b is)
array_of (Opaque n) b is = absurd (none-some b is)

-- an array has no other step
into_array : (table : Table) (u n : ℕ) (sel : Sel) (b : Branch) → branch_of table (Array u n) sel ≡ Some b → (path : List Sel) → HasNoElement (sel ∷ path) → ⊥
into_array table u n Target b is path none = none-some b is
into_array table u n Element b is path none = none
into_array table u n (Field k) b is path none = none-some b is
into_array table u n (Part t) b is path none = none-some b is

into_other : (table : Table) (form : CType) (sel : Sel) (b : Branch) → branch_of table form sel ≡ Some b → ((u n : ℕ) → form ≡ Array u n → ⊥) → (path : List Sel) → HasNoElement (sel ∷ path) ↔ HasNoElement path
into_other table form Target b is other path = (λ h. h, λ h. h)
into_other table form Element b is other path = let array = array_of form b is in absurd (other array.0 array.1 array.2)
into_other table form (Field k) b is other path = (λ h. h, λ h. h)
into_other table form (Part t) b is other path = (λ h. h, λ h. h)

module _ (table : Table) (n : NodeId) (t k : ℕ) (sel : Sel) (u rest : ℕ) (left : IsLeft table n t (suc k)) (part : IsInPart table t k sel u rest) where
  below_sel : (e : Entry) → entry_at table u rest ≡ Some e → HasNoElement (entry_of table n).path ↔ HasNoElement (sel ∷ e.path)
  below_sel e at = left.path (under sel e) (part.same ∙ ap (option_map (under sel)) at)

  -- below a step into anything but an array
  pub less_left : ((v m : ℕ) → type_at table t ≡ Array v m → ⊥) → IsLeft table n u rest
  less_left other = record {
    known = part.known;
    same = let same = same_part table t k sel u rest part in record { type = left.same.type ∙ same.type; tag = left.same.tag ∙ same.tag };
    path = λ e at. let here = below_sel e at in let there = into_other table (type_at table t) sel _ part.part other e.path in
        (λ h. there.0 (here.0 h), λ h. here.1 (there.1 h));
  }

  -- below a step into an array
  pub in_array : (v m : ℕ) → type_at table t ≡ Array v m → HasNoElement (entry_of table n).path → ⊥
  in_array v m is none =
      let e = get_or (nodes table u) rest (start u) in
      let at = slice_get-get_or (nodes table u) rest (start u) part.within in
      into_array table v m sel _ (ap (λ form. branch_of table form sel) (sym is) ∙ part.part) e.path ((below_sel e at).0 none)

-- where nothing is left the path went into no array
pub none_left : (table : Table) (good : IsTable table) (n : NodeId) (t : ℕ) → IsLeft table n t 0 → HasNoElement (entry_of table n).path
none_left table good n t left = (left.path (start t) (first_entry table good t)).1 tt
