-- The roots and slots of all sources, one source after the other.
use Rattle.std.proofs.Common.{arith, ap, sym, subst, ◌∙◌, ◌≡◌, ◌<◌, ◌+◌, ◌++◌, ◌⊎◌, inl, inr, ℕ, zero, suc, List, [], ◌∷◌, length, get_or, slice_get, Option, Some, refl, append_assoc, append-nil, length-append}
use Rattle.std.specs.Prelude.{map}
use Rattle.std.specs.List.{Contains}
use Rattle.std.proofs.lemmas.Bool.{cases_lt}
use Rattle.std.proofs.lemmas.Option.{none-some, same_Some, slice_get_within, slice_get-get_or}
use Rattle.lk_facts.specs.declared.root.Root.{Root}
use Rattle.lk_lower_expr.specs.Programs.{IsBody}
use Rattle.lk_lower_parts.proofs.FunctionCounts.{next_first}
use Rattle.lk_lower_parts.proofs.Rooted.{later_before}
use Rattle.lk_lower_parts.proofs.RootsOf.{at_contained, contains_at}
use Rattle.lk_lower_parts.specs.FunctionNumbers.{AreFunctionNumbers}
use Rattle.lk_lower_parts.specs.Gathers.{AddsSource, Gathered, IsBegun, argument_roots, node_of, root_of, slot_nodes, source_in, types_of}
use Rattle.lk_lower_parts.specs.Tables.{HasMore}
use Rattle.lk_lower_parts.specs.Wanted.{AreAmong, AreLater, all_roots, slots_in}
use Rattle.lk_lower_parts.specs.declared.counts.FunctionNumbers.{FunctionNumbers}
use Rattle.lk_lower_parts.specs.declared.numbers.Gathering.{Gathering}
use Rattle.lk_lower_parts.specs.declared.numbers.NodeAt.{NodeAt}
use Rattle.lk_lower_parts.specs.declared.roots.NodeRoot.{NodeRoot}
use Rattle.lk_lower_parts.specs.declared.roots.NodeSlot.{NodeSlot}
use Rattle.lk_lower_parts.specs.declared.types.ArgumentTypes.{ArgumentTypes}
use Rattle.lk_base.specs.declared.spot.Spot.{Spot}
use Rattle.lk_typed.specs.declared.unit.Body.{Body}
use Rattle.lk_typed.specs.declared.whole.Linked.{Linked}
use Rattle.lk_typed.specs.declared.whole.Whole.{Whole}
use Rattle.lk_types.specs.Table.{Table}
use Rattle.lk_types.specs.declared.c_type.CType.{CType}

-- ---- places in lists

pub at_left : {A : Type 0} (xs ys : List A) (i : ℕ) (x : A) → slice_get xs i ≡ Some x → slice_get (xs ++ ys) i ≡ Some x
at_left [] ys i x at = absurd (none-some x at)
at_left (y ∷ xs) ys zero x at = at
at_left (y ∷ xs) ys (suc i) x at = at_left xs ys i x at

pub at_right : {A : Type 0} (xs ys : List A) (i : ℕ) (x : A) → slice_get ys i ≡ Some x → slice_get (xs ++ ys) (length xs + i) ≡ Some x
at_right [] ys i x at = subst (λ n. slice_get ys n ≡ Some x) here at
  where
    here : i ≡ 0 + i
    here = omega arith
at_right (y ∷ xs) ys i x at = subst (λ n. slice_get (y ∷ (xs ++ ys)) n ≡ Some x) here (at_right xs ys i x at)
  where
    here : suc (length xs + i) ≡ suc (length xs) + i
    here = omega arith

pub at_later : {A : Type 0} (xs ys : List A) (n i : ℕ) (x : A) → n ≡ length xs + i → slice_get ys i ≡ Some x → slice_get (xs ++ ys) n ≡ Some x
at_later xs ys n i x is at = subst (λ m. slice_get (xs ++ ys) m ≡ Some x) (sym is) (at_right xs ys i x at)

abbrev Behind : {A : Type 0} → (xs ys : List A) → (n : ℕ) → (x : A) → Type 0
Behind xs ys n x = (i : ℕ) × (n ≡ length xs + i) × (slice_get ys i ≡ Some x)

pub at_either : {A : Type 0} (xs ys : List A) (n : ℕ) (x : A) → slice_get (xs ++ ys) n ≡ Some x → (slice_get xs n ≡ Some x) ⊎ Behind xs ys n x
at_either [] ys n x at = inr (n, omega arith, at)
at_either (y ∷ xs) ys zero x at = inl at
at_either (y ∷ xs) ys (suc n) x at = elim (at_either xs ys n x at) [
  | inl before ↦ inl before
  | inr later ↦ inr (later.0, omega (arith, later.1), later.2)
]

pub map_at : {A B : Type 0} (f : A → B) (xs : List A) (i : ℕ) (x : A) → slice_get xs i ≡ Some x → slice_get (map f xs) i ≡ Some (f x)
map_at f [] i x at = absurd (none-some x at)
map_at f (y ∷ xs) zero x at = ap (λ z. Some (f z)) (same_Some y x at)
map_at f (y ∷ xs) (suc i) x at = map_at f xs i x at

pub in_map : {A B : Type 0} (f : A → B) (xs : List A) (i : ℕ) (y : B) → slice_get (map f xs) i ≡ Some y → (x : A) × (slice_get xs i ≡ Some x) × (f x ≡ y)
in_map f [] i y at = absurd (none-some y at)
in_map f (x ∷ xs) zero y at = (x, refl, same_Some (f x) y at)
in_map f (x ∷ xs) (suc i) y at = in_map f xs i y at

pub length_map : {A B : Type 0} (f : A → B) (xs : List A) → length (map f xs) ≡ length xs
length_map f [] = refl
length_map f (x ∷ xs) = ap suc (length_map f xs)

-- ---- one source more

module _ (whole : Whole) (functions : FunctionNumbers) (points : List (List ℕ)) (arguments : List Root) (s : ℕ) (table later : Table) (old new : Gathering) (longer : HasMore table later)
    (was : Gathered whole functions points arguments s table old) (adds : AddsSource whole functions points s later old new) where
  abbrev more : List Root
  more = was.more ++ map root_of adds.found

  roots_more : new.roots.items ≡ arguments ++ more
  roots_more = adds.roots ∙ (ap (λ xs. xs ++ map root_of adds.found) was.roots ∙ append_assoc arguments was.more (map root_of adds.found))

  as_many_more : length more ≡ length new.nodes.items
  as_many_more = length-append was.more (map root_of adds.found) ∙ (sums ∙ sym (ap length adds.nodes ∙ length-append old.nodes.items (map (node_of s) adds.found)))
    where
      found_roots : length (map root_of adds.found) ≡ length adds.found
      found_roots = length_map root_of adds.found

      found_nodes : length (map (node_of s) adds.found) ≡ length adds.found
      found_nodes = length_map (node_of s) adds.found

      sums : length was.more + length (map root_of adds.found) ≡ length old.nodes.items + length (map (node_of s) adds.found)
      sums = omega (arith, was.as_many, found_roots, found_nodes)

  same_linked : (t : ℕ) (linked : Linked) → t ≡ s → slice_get whole.sources t ≡ Some linked → adds.linked ≡ linked
  same_linked t linked is at = same_Some adds.linked linked (sym adds.source ∙ (ap (slice_get whole.sources) (sym is) ∙ at))

  abbrev HasEach : (t : ℕ) → NodeRoot → Type 0
  HasEach t x = (n : ℕ) × (slice_get new.nodes.items n ≡ Some (node_of t x)) × (slice_get more n ≡ Some x.root)

  each_here : (x : NodeRoot) → Contains adds.found x → HasEach s x
  each_here x there =
      let found = at_contained adds.found x there in (
        length old.nodes.items + found.0,
        subst (λ xs. slice_get xs (length old.nodes.items + found.0) ≡ Some (node_of s x)) (sym adds.nodes) (at_right old.nodes.items (map (node_of s) adds.found) found.0 (node_of s x) (map_at (node_of s) adds.found found.0 x found.1)),
        at_later was.more (map root_of adds.found) (length old.nodes.items + found.0) found.0 x.root (ap (λ n. n + found.0) (sym was.as_many)) (map_at root_of adds.found found.0 x found.1),
      )

  each_more : (forms : List CType) → AreLater later forms → (t : ℕ) (linked : Linked) → t < s + 1 → slice_get whole.sources t ≡ Some linked → (x : NodeRoot) → Contains (all_roots (source_in whole functions points t linked) forms) x → HasEach t x
  each_more forms is t linked within at x there = elim (cases_lt t s) [
    | inl before ↦ earlier (was.each forms (later_before table later forms longer is) t linked before at x there)
    | inr not ↦ last (omega (arith, within, not))
  ]
    where
      earlier : ((n : ℕ) × (slice_get old.nodes.items n ≡ Some (node_of t x)) × (slice_get was.more n ≡ Some x.root)) → HasEach t x
      earlier found =
          (found.0, subst (λ xs. slice_get xs found.0 ≡ Some (node_of t x)) (sym adds.nodes) (at_left old.nodes.items (map (node_of s) adds.found) found.0 (node_of t x) found.1), at_left was.more (map root_of adds.found) found.0 x.root found.2)

      last : t ≡ s → HasEach t x
      last same = subst (λ m. HasEach m x) (sym same) (each_here x ((adds.are_roots forms is).each x (subst (λ l. Contains (all_roots (source_in whole functions points s l) forms) x) (sym (same_linked t linked same at))
          (subst (λ m. Contains (all_roots (source_in whole functions points m linked) forms) x) same there))))

  abbrev HasOnly : (forms : List CType) → NodeAt → Root → Type 0
  HasOnly forms a root = (linked : Linked) × (slice_get whole.sources a.source ≡ Some linked) × Contains (all_roots (source_in whole functions points a.source linked) forms) (record { ordinal = a.ordinal; root = root })

  only_here : (forms : List CType) → AreLater later forms → (a : NodeAt) (root : Root) (x : NodeRoot) → Contains adds.found x → node_of s x ≡ a → x.root ≡ root → HasOnly forms a root
  only_here forms is a root x there node same = subst (λ b. HasOnly forms b root) node (subst (HasOnly forms (node_of s x)) same (adds.linked, adds.source, (adds.are_roots forms is).only x there))

  only_more : (forms : List CType) → AreLater later forms → (n : ℕ) (a : NodeAt) (root : Root) → slice_get new.nodes.items n ≡ Some a → slice_get more n ≡ Some root → HasOnly forms a root
  only_more forms is n a root at_n at_r = elim (at_either old.nodes.items (map (node_of s) adds.found) n a (subst (λ xs. slice_get xs n ≡ Some a) adds.nodes at_n)) [
    | inl node ↦ earlier node (at_either was.more (map root_of adds.found) n root at_r)
    | inr node ↦ later_one node (at_either was.more (map root_of adds.found) n root at_r)
  ]
    where
      earlier : slice_get old.nodes.items n ≡ Some a → (slice_get was.more n ≡ Some root) ⊎ Behind was.more (map root_of adds.found) n root → HasOnly forms a root
      earlier node (inl found) = was.only forms (later_before table later forms longer is) n a root node found
      earlier node (inr found) = let within = slice_get_within old.nodes.items n a node in absurd (omega (arith, within, found.1, was.as_many))

      later_one : Behind old.nodes.items (map (node_of s) adds.found) n a → (slice_get was.more n ≡ Some root) ⊎ Behind was.more (map root_of adds.found) n root → HasOnly forms a root
      later_one node (inl found) = let within = slice_get_within was.more n root found in absurd (omega (arith, within, node.1, was.as_many))
      later_one node (inr found) =
          let place : found.0 ≡ node.0 = omega (arith, found.1, node.1, was.as_many) in
          let x = in_map (node_of s) adds.found node.0 a node.2 in
          let y = in_map root_of adds.found node.0 root (subst (λ i. slice_get (map root_of adds.found) i ≡ Some root) place found.2) in
          only_here forms is a root x.0 (contains_at adds.found node.0 x.0 x.1) x.2 (ap root_of (same_Some x.0 y.0 (sym x.1 ∙ y.1)) ∙ y.2)

  many_slots_more : length new.slots.items ≡ length new.slot_nodes.items
  many_slots_more =
      (ap length adds.slots ∙ length-append old.slots.items (map types_of adds.lists)) ∙ (sums ∙ sym (ap length adds.slot_nodes_ ∙ length-append old.slot_nodes.items (map (slot_nodes s) adds.lists)))
    where
      of_types : length (map types_of adds.lists) ≡ length adds.lists
      of_types = length_map types_of adds.lists

      of_nodes : length (map (slot_nodes s) adds.lists) ≡ length adds.lists
      of_nodes = length_map (slot_nodes s) adds.lists

      sums : length old.slots.items + length (map types_of adds.lists) ≡ length old.slot_nodes.items + length (map (slot_nodes s) adds.lists)
      sums = omega (arith, was.as_many_slots, of_types, of_nodes)

  abbrev HasSlots : (t b : ℕ) → Linked → Body → Type 0
  HasSlots t b linked body =
      (list : List NodeSlot) × (slice_get new.slots.items (get_or functions.first t 0 + b) ≡ Some (types_of list)) × (slice_get new.slot_nodes.items (get_or functions.first t 0 + b) ≡ Some (slot_nodes t list)) ×
      AreAmong (slots_in (source_in whole functions points t linked) body) list

  slots_here : (b : ℕ) (body : Body) → slice_get adds.linked.unit.bodies b ≡ Some body → HasSlots s b adds.linked body
  slots_here b body at = (list, types, nodes, adds.are_slots.each b body at)
    where
      list : List NodeSlot
      list = get_or adds.lists b []

      within : b < length adds.lists
      within = let h = slice_get_within adds.linked.unit.bodies b body at in omega (arith, h, adds.are_slots.as_many)

      there : slice_get adds.lists b ≡ Some (get_or adds.lists b [])
      there = slice_get-get_or adds.lists b [] within

      types : slice_get new.slots.items (get_or functions.first s 0 + b) ≡ Some (types_of (get_or adds.lists b []))
      types = subst (λ xs. slice_get xs (get_or functions.first s 0 + b) ≡ Some (types_of (get_or adds.lists b []))) (sym adds.slots)
          (at_later old.slots.items (map types_of adds.lists) (get_or functions.first s 0 + b) b (types_of (get_or adds.lists b [])) (ap (λ n. n + b) (sym adds.behind)) (map_at types_of adds.lists b (get_or adds.lists b []) there))

      nodes : slice_get new.slot_nodes.items (get_or functions.first s 0 + b) ≡ Some (slot_nodes s (get_or adds.lists b []))
      nodes = subst (λ xs. slice_get xs (get_or functions.first s 0 + b) ≡ Some (slot_nodes s (get_or adds.lists b []))) (sym adds.slot_nodes_)
          (at_later old.slot_nodes.items (map (slot_nodes s) adds.lists) (get_or functions.first s 0 + b) b (slot_nodes s (get_or adds.lists b [])) (ap (λ n. n + b) (sym adds.behind ∙ was.as_many_slots)) (map_at (slot_nodes s) adds.lists b (get_or adds.lists b []) there))

  slots_more : (t b : ℕ) (linked : Linked) (body : Body) → t < s + 1 → IsBody whole.sources t b linked body → HasSlots t b linked body
  slots_more t b linked body within is = elim (cases_lt t s) [
    | inl before ↦ earlier (was.slots t b linked body before is)
    | inr not ↦ last (omega (arith, within, not))
  ]
    where
      earlier : ((list : List NodeSlot) × (slice_get old.slots.items (get_or functions.first t 0 + b) ≡ Some (types_of list)) × (slice_get old.slot_nodes.items (get_or functions.first t 0 + b) ≡ Some (slot_nodes t list)) ×
          AreAmong (slots_in (source_in whole functions points t linked) body) list) → HasSlots t b linked body
      earlier found = (
        found.0,
        subst (λ xs. slice_get xs (get_or functions.first t 0 + b) ≡ Some (types_of found.0)) (sym adds.slots) (at_left old.slots.items (map types_of adds.lists) (get_or functions.first t 0 + b) (types_of found.0) found.1),
        subst (λ xs. slice_get xs (get_or functions.first t 0 + b) ≡ Some (slot_nodes t found.0)) (sym adds.slot_nodes_) (at_left old.slot_nodes.items (map (slot_nodes s) adds.lists) (get_or functions.first t 0 + b) (slot_nodes t found.0) found.2),
        found.3,
      )

      last : t ≡ s → HasSlots t b linked body
      last same =
          let here = same_linked t linked same is.source in
          subst (λ m. HasSlots m b linked body) (sym same) (subst (λ l. HasSlots s b l body) here (slots_here b body (subst (λ (l : Linked). slice_get l.unit.bodies b ≡ Some body) (sym here) is.at)))

  -- the slots are those of the functions of the sources so far
  pub slots_behind : AreFunctionNumbers whole.sources functions → length new.slots.items ≡ get_or functions.first (s + 1) 0
  slots_behind are = length_is ∙ sym (next_first whole.sources functions are s adds.linked adds.source)
    where
      length_is : length new.slots.items ≡ get_or functions.first s 0 + length adds.linked.unit.bodies
      length_is = omega (arith, ap length adds.slots ∙ length-append old.slots.items (map types_of adds.lists), length_map types_of adds.lists, adds.are_slots.as_many, adds.behind)

  pub gathered_more : Gathered whole functions points arguments (s + 1) later new
  gathered_more = record {
    more = more;
    roots = roots_more;
    as_many = as_many_more;
    each = each_more;
    only = only_more;
    as_many_slots = many_slots_more;
    slots = slots_more;
  }

-- none yet
pub gathered_none : (whole : Whole) (functions : FunctionNumbers) (points : List (List ℕ)) (spot : Spot) (types : Option ArgumentTypes) (table : Table) (now : Gathering) → IsBegun spot types now → Gathered whole functions points (argument_roots spot types) 0 table now
gathered_none whole functions points spot types table now begun = record {
  more = [];
  roots = begun.roots ∙ sym (append-nil (argument_roots spot types));
  as_many = sym (ap length begun.nodes);
  each = λ forms is t linked within at x there. absurd (omega (arith, within));
  only = λ forms is n a root at_n at_r. absurd (none-some root at_r);
  as_many_slots = ap length begun.slots ∙ sym (ap length begun.slot_nodes_);
  slots = λ t b linked body within is. absurd (omega (arith, within));
}
