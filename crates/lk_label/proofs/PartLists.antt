-- The parts of a node as lists: how many there are, and how they are found one after the other.
use Rattle.std.proofs.Common.{◌≡◌, ℕ, zero, suc, ◌+◌, ◌<◌, ◌≤◌, List, [], ◌∷◌, ◌++◌, map, length, get_or, take, fold, Some, None, refl, sym, ap, ◌∙◌, arith}
use Rattle.std.specs.List.{filter_map}
use Rattle.std.proofs.lemmas.List.{map-append, take_more}
use Rattle.std.proofs.lemmas.List.Elements.{All-push, filter_map-append}
use Rattle.std.proofs.lemmas.Option.{slice_get_within}
use Rattle.lk_types.specs.Building.{IsTable}
use Rattle.lk_types.specs.Nodes.{IsNode, node_of, step}
use Rattle.lk_types.specs.Objects.{numbers_from}
use Rattle.lk_types.specs.Sizes.{size_at, nodes_of, form_size, with_part, part_size, start_size}
use Rattle.lk_types.specs.Table.{Table, type_at, fields_of, IsKnown}
use Rattle.lk_types.specs.Walks.{fields, nodes, start, most_steps}
use Rattle.lk_types.specs.declared.c_type.CType.{CType}
use Rattle.lk_types.specs.declared.c_type.CType.TheVariants.{Void, Int, ThreadId, Mutex, Cond, Pointer, Array, Struct, Function, Opaque}
use Rattle.lk_types.specs.declared.node.NodeId.{NodeId}
use Rattle.lk_types.specs.declared.node.Sel.{Sel}
use Rattle.lk_types.specs.declared.node.Sel.TheVariants.{Target, Element, Field, Part}
use Rattle.lk_types.specs.declared.size.TypeSize.{TypeSize}
use Rattle.lk_types.proofs.Fuel.{few_of}
use Rattle.lk_types.proofs.SubwalkLemmas.{first_of}
use Rattle.lk_label.specs.Parts.{HasParts}

module _ (table : Table) where
  some_nodes : (t : ℕ) → 1 ≤ nodes_of table t
  some_nodes t = slice_get_within (nodes table t) 0 (start t) (first_of most_steps table t)

  -- each field has a node
  fields_counted : (k : ℕ) (ts : List ℕ) (size : TypeSize) → size.nodes + length ts ≤ (fold (λ s part. with_part s (part_size (size_at table) part)) size (fields k ts)).nodes
  fields_counted k [] size = omega arith
  fields_counted k (t ∷ ts) size =
      let on = fields_counted (suc k) ts (with_part size (size_at table t)) in
      let one = some_nodes t in
      omega (arith, on, one)

  few_in_form : (form : CType) → length (fields_of table form) < (form_size table form).nodes
  few_in_form Void = omega arith
  few_in_form (Int kind) = omega arith
  few_in_form ThreadId = omega arith
  few_in_form Mutex = omega arith
  few_in_form Cond = omega arith
  few_in_form (Pointer t) = let some = pointer_size t in omega (arith, some)
    where
      pointer_size : (t : ℕ) → 0 < (form_size table (Pointer t)).nodes
      pointer_size t = omega arith
  few_in_form (Array t n) = omega arith
  few_in_form (Struct s) = let counted = fields_counted 0 (fields_of table (Struct s)) start_size in omega (arith, counted)
  few_in_form (Function result params dots) = let counted = fields_counted 0 (result ∷ params) start_size in omega (arith, counted)
  few_in_form (Opaque n) = omega arith

  -- a type has fewer fields than nodes
  pub few_fields : IsTable table → (t : ℕ) → IsKnown table t → length (fields_of table (type_at table t)) < 65537
  few_fields good t known =
      let few = (few_of (form_size table (type_at table t)) (good.types t known).small).0 in
      let less = few_in_form (type_at table t) in
      omega (arith, few, less)

numbers_next : (first n : ℕ) → numbers_from first (suc n) ≡ numbers_from first n ++ (first + n) ∷ []
numbers_next first zero = let e : first ≡ first + 0 = omega arith in ap (λ x. x ∷ []) e
numbers_next first (suc n) =
    let e : suc first + n ≡ first + suc n = omega arith in
    ap (λ xs. first ∷ xs) (numbers_next (suc first) n ∙ ap (λ x. numbers_from (suc first) n ++ x ∷ []) e)

pub numbers_more : (n : ℕ) → numbers_from 0 (n + 1) ≡ numbers_from 0 n ++ n ∷ []
numbers_more n =
    let e : n + 1 ≡ suc n = omega arith in
    let z : 0 + n ≡ n = omega arith in
    ap (numbers_from 0) e ∙ (numbers_next 0 n ∙ ap (λ x. numbers_from 0 n ++ x ∷ []) z)

-- the steps up to so many fields
abbrev pub sels_to : ℕ → List Sel
sels_to n = Target ∷ Element ∷ map Field (numbers_from 0 n)

pub sels_more : (n : ℕ) → sels_to n ++ Field n ∷ [] ≡ sels_to (n + 1)
sels_more n = ap (λ xs. Target ∷ Element ∷ xs) (sym (ap (map Field) (numbers_more n) ∙ map-append Field (numbers_from 0 n) (n ∷ [])))

append_assoc : (u v w : List Sel) → (u ++ v) ++ w ≡ u ++ (v ++ w)
append_assoc [] v w = refl
append_assoc (x ∷ u) v w = ap (λ y. x ∷ y) (append_assoc u v w)

pub parts_more : (n : ℕ) (ps : List ℕ) (i p : ℕ) → i < length ps → p ≡ get_or ps i p → (sels_to n ++ map Part (take i ps)) ++ Part p ∷ [] ≡ sels_to n ++ map Part (take (i + 1) ps)
parts_more n ps i p within is =
    let more : take (i + 1) ps ≡ take i ps ++ p ∷ [] = take_more ps i p within ∙ ap (λ x. take i ps ++ x ∷ []) (sym is) in
    append_assoc (sels_to n) (map Part (take i ps)) (Part p ∷ []) ∙ ap (λ xs. sels_to n ++ xs) (sym (ap (map Part) more ∙ map-append Part (take i ps) (p ∷ [])))

module _ (table : Table) (node : NodeId) where
  pub no_parts : HasParts table node [] []
  no_parts = record { are = refl; nodes = λ k d below. absurd (omega (arith, below)) }

  -- a step leads to a node, or nowhere
  pub part_found : (sels : List Sel) (sel : Sel) (parts : List NodeId) (n : NodeId) → step table (node_of table node) sel ≡ Some (node_of table n) → IsNode table n → HasParts table node sels parts → HasParts table node (sels ++ sel ∷ []) (parts ++ n ∷ [])
  part_found sels sel parts n leads is before =
      let here : filter_map (step table (node_of table node)) (sel ∷ []) ≡ node_of table n ∷ [] = rw leads refl in
      record {
        are = map-append (node_of table) parts (n ∷ []) ∙ (ap (λ xs. xs ++ node_of table n ∷ []) before.are ∙ sym (filter_map-append (step table (node_of table node)) sels (sel ∷ []) ∙ ap (λ xs. filter_map (step table (node_of table node)) sels ++ xs) here));
        nodes = All-push (IsNode table) parts n before.nodes is;
      }

  pub no_part_found : (sels : List Sel) (sel : Sel) (parts : List NodeId) → step table (node_of table node) sel ≡ None → HasParts table node sels parts → HasParts table node (sels ++ sel ∷ []) parts
  no_part_found sels sel parts nowhere before =
      let here : filter_map (step table (node_of table node)) (sel ∷ []) ≡ [] = rw nowhere refl in
      record {
        are = before.are ∙ sym (filter_map-append (step table (node_of table node)) sels (sel ∷ []) ∙ (ap (λ xs. filter_map (step table (node_of table node)) sels ++ xs) here ∙ append_none (filter_map (step table (node_of table node)) sels)));
        nodes = before.nodes;
      }
    where
      append_none : {X : Type 0} (xs : List X) → xs ++ [] ≡ xs
      append_none [] = refl
      append_none (x ∷ xs) = ap (λ y. x ∷ y) (append_none xs)
