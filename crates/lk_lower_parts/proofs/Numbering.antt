-- Roots and slots that have their numbers in order are counted by them.
use Rattle.std.proofs.Common.{arith, ap, sym, subst, ◌∙◌, ◌≡◌, ◌<◌, ◌≤◌, ◌+◌, ◌-◌, ◌++◌, ◌⊎◌, inl, inr, ℕ, zero, suc, List, [], length, get_or, slice_get, Bool, true, false, Option, None, Some, refl, length-append}
use Rattle.std.proofs.lemmas.Bool.{cases_lt}
use Rattle.std.proofs.lemmas.Option.{same_Some, slice_get_within}
use Rattle.lk_base.specs.declared.spot.Spot.{Spot}
use Rattle.lk_facts.specs.Program.{root_at}
use Rattle.lk_facts.specs.declared.program.Program.{Program}
use Rattle.lk_facts.specs.declared.root.Root.{Root}
use Rattle.lk_lower_expr.specs.Lowering.{ComesBefore, Counts, Numbers, source, node, step}
use Rattle.lk_lower_expr.specs.Programs.{HasRoot, HasSlot, IsBody, IsRoot, IsSlot, of_object, of_function, of_local, of_text, of_allocation}
use Rattle.lk_lower_parts.proofs.FunctionCounts.{at_index}
use Rattle.lk_lower_parts.proofs.Gathered.{at_later, in_map, length_map, map_at}
use Rattle.lk_lower_parts.proofs.RootsOf.{at_contained, contains_at, each_root, each_slot, only_roots, only_slots, owns_source}
use Rattle.lk_lower_parts.specs.Gathers.{AreInOrder, AreNumbered, AreNumbersOf, AreRootsAndSlots, AreSlotsOf, AreTheirTypes, Gathered, IsNodeBefore, IsFinished, Rise, argument_roots, count_arguments, slot_node, slot_nodes, source_in, type_of, types_of}
use Rattle.lk_lower_parts.specs.Wanted.{AreAmong, slots_in}
use Rattle.lk_lower_parts.specs.declared.counts.FunctionNumbers.{FunctionNumbers}
use Rattle.lk_lower_parts.specs.declared.numbers.Gathering.{Gathering}
use Rattle.lk_lower_parts.specs.declared.numbers.NodeAt.{NodeAt}
use Rattle.lk_lower_parts.specs.declared.numbers.Numbered.{Numbered}
use Rattle.lk_lower_parts.specs.declared.roots.NodeSlot.{NodeSlot}
use Rattle.lk_lower_parts.specs.declared.start.Main.{Main}
use Rattle.lk_lower_parts.specs.declared.types.ArgumentTypes.{ArgumentTypes}
use Rattle.lk_typed.specs.declared.unit.Body.{Body}
use Rattle.lk_typed.specs.declared.whole.Linked.{Linked}
use Rattle.lk_typed.specs.declared.whole.Whole.{Whole}
use Rattle.lk_types.specs.Table.{Table}
use Rattle.lk_types.specs.declared.c_type.CType.{CType}

-- ---- nodes in order

abbrev node_at : (s o : ℕ) → NodeAt
node_at s o = record { source = s; ordinal = o }

then_before : (a b c : NodeAt) → IsNodeBefore a b → IsNodeBefore b c → IsNodeBefore a c
then_before a b c (inl p) (inl q) = inl (omega (arith, p, q))
then_before a b c (inl p) (inr q) = inl (omega (arith, p, q.0))
then_before a b c (inr p) (inl q) = inl (omega (arith, p.0, q))
then_before a b c (inr p) (inr q) = inr (p.0 ∙ q.0, omega (arith, p.1, q.1))

before_last : (nodes : List NodeAt) → Rise nodes → (n m : ℕ) (a b c : NodeAt) → n < suc m → slice_get nodes n ≡ Some a → slice_get nodes (suc m) ≡ Some b → slice_get nodes m ≡ Some c → (n < m → IsNodeBefore a c) → IsNodeBefore a b
before_last nodes rise n m a b c order at_n at_m at_c earlier = elim (cases_lt n m) [
  | inl before ↦ then_before a c b (earlier before) (rise m c b at_c at_m)
  | inr not ↦ rise n a b at_n (subst (λ k. slice_get nodes (suc k) ≡ Some b) (same not) at_m)
]
  where
    same : m ≤ n → m ≡ n
    same not = omega (arith, order, not)

before_all : (nodes : List NodeAt) → Rise nodes → (n m : ℕ) (a b : NodeAt) → n < m → slice_get nodes n ≡ Some a → slice_get nodes m ≡ Some b → IsNodeBefore a b
before_all nodes rise n zero a b order at_n at_m = absurd (omega (arith, order))
before_all nodes rise n (suc m) a b order at_n at_m =
    let c = at_index nodes m (let h = slice_get_within nodes (suc m) b at_m in omega (arith, h)) in
    before_last nodes rise n m a b c.0 order at_n at_m c.1 (λ before. before_all nodes rise n m a c.0 before at_n c.1)

-- nodes that have their numbers in order are counted by them
module _ (Has : ℕ → ℕ → ℕ → Type 0) (first : ℕ) (number : ℕ → ℕ → ℕ → ℕ) (nodes : List NodeAt) (rise : Rise nodes) (numbered : (n : ℕ) (a : NodeAt) → slice_get nodes n ≡ Some a → number a.source a.ordinal 0 ≡ first + n)
    (each : (s o k : ℕ) → Has s o k → (k ≡ 0) × ((n : ℕ) × (slice_get nodes n ≡ Some (node_at s o)))) (only : (n : ℕ) (a : NodeAt) → slice_get nodes n ≡ Some a → Has a.source a.ordinal 0) where
  number_is : (s o k : ℕ) (has : Has s o k) → number s o k ≡ first + (each s o k has).1.0
  number_is s o k has = ap (number s o) (each s o k has).0 ∙ numbered (each s o k has).1.0 (node_at s o) (each s o k has).1.1

  within_all : (s o k : ℕ) (has : Has s o k) → (each s o k has).1.0 < length nodes
  within_all s o k has = slice_get_within nodes (each s o k has).1.0 (node_at s o) (each s o k has).1.1

  rises_if : (s o k t p l : ℕ) → Has s o k → Has t p l → (s ≡ t → o ≡ p → ⊥) → (IsNodeBefore (node_at t p) (node_at s o) → ⊥) → number s o k < number t p l
  rises_if s o k t p l has too apart ahead = elim (cases_lt (each s o k has).1.0 (each t p l too).1.0) [
    | inl before ↦ omega (arith, before, number_is s o k has, number_is t p l too)
    | inr not ↦ by_rest (cases_lt (each t p l too).1.0 (each s o k has).1.0) not
  ]
    where
      by_rest : ((each t p l too).1.0 < (each s o k has).1.0) ⊎ ((each s o k has).1.0 ≤ (each t p l too).1.0) → (each t p l too).1.0 ≤ (each s o k has).1.0 → number s o k < number t p l
      by_rest (inl less) not = absurd (ahead (before_all nodes rise (each t p l too).1.0 (each s o k has).1.0 (node_at t p) (node_at s o) less (each t p l too).1.1 (each s o k has).1.1))
      by_rest (inr more) not =
          let equal : (each s o k has).1.0 ≡ (each t p l too).1.0 = omega (arith, more, not) in
          let same : node_at s o ≡ node_at t p = same_Some (node_at s o) (node_at t p) (sym (each s o k has).1.1 ∙ (ap (slice_get nodes) equal ∙ (each t p l too).1.1)) in
          absurd (apart (ap (λ (a : NodeAt). a.source) same) (ap (λ (a : NodeAt). a.ordinal) same))

  rises : (s o k t p l : ℕ) → Has s o k → Has t p l → ComesBefore s o k t p l → number s o k < number t p l
  rises s o k t p l has too (source earlier) = rises_if s o k t p l has too (λ same _. omega (arith, same, earlier)) (λ before. elim before [
    | inl less ↦ omega (arith, less, earlier)
    | inr less ↦ omega (arith, less.0, earlier)
  ])
  rises s o k _ p l has too (node earlier) = rises_if s o k s p l has too (λ _ same. omega (arith, same, earlier)) (λ before. elim before [
    | inl less ↦ omega (arith, less)
    | inr less ↦ omega (arith, less.1, earlier)
  ])
  rises s o k _ _ l has too (step earlier) = absurd (omega (arith, (each s o k has).0, (each s o l too).0, earlier))

  onto_all : (n : ℕ) → n < length nodes → (s : ℕ) × (o : ℕ) × (k : ℕ) × Has s o k × (number s o k ≡ first + n)
  onto_all n within = let a = at_index nodes n within in (a.0.source, a.0.ordinal, 0, only n a.0 a.1, numbered n a.0 a.1)

  pub counted : Counts Has first (length nodes) number
  counted = record {
    least = λ s o k has. omega (arith, number_is s o k has);
    below = λ s o k has. omega (arith, number_is s o k has, within_all s o k has);
    rising = rises;
    onto = onto_all;
  }

-- ---- the program

arguments_are : (has : Bool) (table : Table) (spot : Spot) (types : Option ArgumentTypes) → AreTheirTypes has table types → length (argument_roots spot types) ≡ count_arguments has
arguments_are true table spot None are = absurd are
arguments_are true table spot (Some types) are = refl
arguments_are false table spot None are = refl
arguments_are false table spot (Some types) are = absurd are

root_source : (whole : Whole) (numbers : Numbers) (program : Program) (s o : ℕ) (is : Root) → IsRoot whole numbers program s o is → (linked : Linked) × (slice_get whole.sources s ≡ Some linked)
root_source whole numbers program s _ _ (of_object e linked entity here by defined kind) = (linked, defined.source)
root_source whole numbers program s _ _ (of_function b linked body entity here by is defined) = (linked, is.source)
root_source whole numbers program s _ _ (of_local b l linked body is of at_l slot) = (linked, of.source)
root_source whole numbers program s _ _ (of_text linked n bytes owner owns) = (linked, owns_source whole numbers program s linked _ owner owns)
root_source whole numbers program s _ _ (of_allocation linked n t u single owner owns type) = (linked, owns_source whole numbers program s linked _ owner owns)

module _ (whole : Whole) (functions : FunctionNumbers) (main : Main) (points : List (List ℕ)) (table : Table) (gathering : Gathering) (found : Numbered) (types : Option ArgumentTypes) (are_types : AreTheirTypes main.has_parameters table types)
    (gathered : Gathered whole functions points (argument_roots main.spot types) (length whole.sources) table gathering) (tested : IsFinished gathering (count_arguments main.has_parameters) (length table.types) found) where
  abbrev front : ℕ
  front = count_arguments main.has_parameters

  front_is : length (argument_roots main.spot types) ≡ front
  front_is = arguments_are main.has_parameters table main.spot types are_types

  roots_are : found.roots.items ≡ argument_roots main.spot types ++ gathered.more
  roots_are = tested.roots ∙ gathered.roots

  module _ (numbers : Numbers) (program : Program) (is : AreNumbersOf whole functions points table found numbers program) where
    abbrev forms : List CType
    forms = program.types.types

    root_is_at : (n : ℕ) (root : Root) → slice_get gathered.more n ≡ Some root → slice_get program.roots (front + n) ≡ Some root
    root_is_at n root at = subst (λ xs. slice_get xs (front + n) ≡ Some root) (sym (is.roots ∙ roots_are)) (at_later (argument_roots main.spot types) gathered.more (front + n) n root (ap (λ k. k + n) (sym front_is)) at)

    functions_here : (s : ℕ) (linked : Linked) → slice_get whole.sources s ≡ Some linked → (b : ℕ) → numbers.function s b ≡ get_or functions.first s 0 + b
    functions_here s linked at b = is.function s b (slice_get_within whole.sources s linked at)

    points_here : (s o : ℕ) → numbers.point s o 0 ≡ get_or (get_or points s []) o 0
    points_here s o = is.point s o

    -- ---- roots

    abbrev At : (s o : ℕ) → Root → Type 0
    At s o root = (n : ℕ) × (slice_get gathering.nodes.items n ≡ Some (node_at s o)) × (slice_get gathered.more n ≡ Some root)

    there : (s o : ℕ) (root : Root) → IsRoot whole numbers program s o root → At s o root
    there s o root has =
        let linked = root_source whole numbers program s o root has in
        gathered.each forms is.types s linked.0 (slice_get_within whole.sources s linked.0 linked.1) linked.1 (record { ordinal = o; root = root })
        (each_root (source_in whole functions points s linked.0) numbers program linked.1 (functions_here s linked.0 linked.1) (points_here s) is.types.different o root has)

    number_of_root : (n : ℕ) (a : NodeAt) → slice_get gathering.nodes.items n ≡ Some a → numbers.root a.source a.ordinal ≡ front + n
    number_of_root n a at = is.root a.source a.ordinal ∙ tested.in_order.numbered n a at

    more_types : length table.types ≤ length forms
    more_types = omega (arith, ap length is.types.types ∙ length-append table.types is.types.more)

    is_root : (n : ℕ) (a : NodeAt) (root : Root) → slice_get gathering.nodes.items n ≡ Some a → slice_get gathered.more n ≡ Some root → IsRoot whole numbers program a.source a.ordinal root
    is_root n a root at_n at_r =
        let has = gathered.only forms is.types n a root at_n at_r in
        only_roots (source_in whole functions points a.source has.0) numbers program has.1 (functions_here a.source has.0 has.1) (points_here a.source) is.types.different (record { ordinal = a.ordinal; root = root }) typed has.2
      where
        in_found : slice_get found.roots.items (front + n) ≡ Some root
        in_found = subst (λ xs. slice_get xs (front + n) ≡ Some root) is.roots (root_is_at n root at_r)

        typed : root.ty < length forms
        typed = omega (arith, tested.typed (front + n) root in_found, more_types)

    root_behind : (n : ℕ) (a : NodeAt) → slice_get gathering.nodes.items n ≡ Some a → (root : Root) × (slice_get gathered.more n ≡ Some root)
    root_behind n a at = at_index gathered.more n (let h = slice_get_within gathering.nodes.items n a at in omega (arith, h, gathered.as_many))

    roots_counted : Counts (HasRoot whole numbers program) front (length gathering.nodes.items) (λ s o k. numbers.root s o)
    roots_counted = counted (HasRoot whole numbers program) front (λ s o k. numbers.root s o) gathering.nodes.items tested.in_order.rise number_of_root
        (λ s o k has. let found_at = there s o has.1.0 has.1.1 in (has.0, (found_at.0, found_at.1))) (λ n a at. let root = root_behind n a at in (refl, (root.0, is_root n a root.0 at root.1)))

    nodes_many : length gathering.nodes.items ≡ length program.roots - front
    nodes_many = omega (arith, gathered.as_many, front_is, ap length (is.roots ∙ roots_are) ∙ length-append (argument_roots main.spot types) gathered.more)

    each_there : (s o : ℕ) (root : Root) → IsRoot whole numbers program s o root → root_at program (numbers.root s o) ≡ Some root
    each_there s o root has =
        let found_at = there s o root has in
        subst (λ n. slice_get program.roots n ≡ Some root) (sym (number_of_root found_at.0 (node_at s o) found_at.1)) (root_is_at found_at.0 root found_at.2)

    -- ---- slots

    module _ (s b : ℕ) (linked : Linked) (body : Body) (is_body : IsBody whole.sources s b linked body) (list : List NodeSlot) (order : AreInOrder found.by_node.items 0 (slot_nodes s list)) (among : AreAmong (slots_in (source_in whole functions points s linked) body) list) where
      abbrev HasIt : ℕ → ℕ → ℕ → Type 0
      HasIt = HasSlot whole numbers program s b

      slot_there : (o type : ℕ) → IsSlot whole numbers program s b o type → (j : ℕ) × (slice_get list j ≡ Some (record { ordinal = o; ty = type }))
      slot_there o type has = at_contained list (record { ordinal = o; ty = type })
          (among.each (record { ordinal = o; ty = type }) (each_slot (source_in whole functions points s linked) numbers program is_body.source (functions_here s linked is_body.source) (points_here s) is.types.different b o type body is_body.at has))

      node_there : (o type : ℕ) (has : IsSlot whole numbers program s b o type) → slice_get (slot_nodes s list) (slot_there o type has).0 ≡ Some (node_at s o)
      node_there o type has = map_at (slot_node s) list (slot_there o type has).0 (record { ordinal = o; ty = type }) (slot_there o type has).1

      number_of_slot : (n : ℕ) (a : NodeAt) → slice_get (slot_nodes s list) n ≡ Some a → numbers.slot a.source a.ordinal ≡ 0 + n
      number_of_slot n a at = is.slot a.source a.ordinal ∙ order.numbered n a at

      slot_each : (t o k : ℕ) → HasIt t o k → (k ≡ 0) × ((n : ℕ) × (slice_get (slot_nodes s list) n ≡ Some (node_at t o)))
      slot_each t o k has = (has.1, ((slot_there o has.2.0 has.2.1).0, subst (λ m. slice_get (slot_nodes s list) (slot_there o has.2.0 has.2.1).0 ≡ Some (node_at m o)) (sym has.0) (node_there o has.2.0 has.2.1)))

      slot_only : (n : ℕ) (a : NodeAt) → slice_get (slot_nodes s list) n ≡ Some a → HasIt a.source a.ordinal 0
      slot_only n a at =
          let x = in_map (slot_node s) list n a at in
          subst (λ (c : NodeAt). HasIt c.source c.ordinal 0) x.2
          (refl, refl, (x.0.ty, only_slots (source_in whole functions points s linked) numbers program is_body.source (functions_here s linked is_body.source) (points_here s) is.types.different b body x.0 is_body.at (among.only x.0 (contains_at list n x.0 x.1))))

      slots_counted : AreSlotsOf whole numbers program s b (types_of list)
      slots_counted = record {
        order = subst (λ n. Counts HasIt 0 n (λ t o k. numbers.slot t o)) (length_map (slot_node s) list ∙ sym (length_map type_of list)) (counted HasIt 0 (λ t o k. numbers.slot t o) (slot_nodes s list) order.rise number_of_slot slot_each slot_only);
        each = slot_typed;
      }
        where
          from_zero : (n : ℕ) → 0 + n ≡ n
          from_zero n = omega arith

          slot_typed : (o type : ℕ) → IsSlot whole numbers program s b o type → slice_get (types_of list) (numbers.slot s o) ≡ Some type
          slot_typed o type has =
              subst (λ n. slice_get (types_of list) n ≡ Some type) (sym (number_of_slot (slot_there o type has).0 (node_at s o) (node_there o type has) ∙ from_zero (slot_there o type has).0))
              (map_at type_of list (slot_there o type has).0 (record { ordinal = o; ty = type }) (slot_there o type has).1)

    body_slots : (s b : ℕ) (linked : Linked) (body : Body) → IsBody whole.sources s b linked body → (row : List ℕ) × (slice_get found.slots.items (numbers.function s b) ≡ Some row) × AreSlotsOf whole numbers program s b row
    body_slots s b linked body is_body =
        let has = gathered.slots s b linked body (slice_get_within whole.sources s linked is_body.source) is_body in (
          types_of has.0,
          subst (λ n. slice_get found.slots.items n ≡ Some (types_of has.0)) (sym (functions_here s linked is_body.source b)) (subst (λ xs. slice_get xs (get_or functions.first s 0 + b) ≡ Some (types_of has.0)) (sym tested.slots) has.1),
          slots_counted s b linked body is_body has.0 (tested.slots_in_order (get_or functions.first s 0 + b) (slot_nodes s has.0) has.2) has.3,
        )

    roots_and_slots : AreRootsAndSlots whole numbers program front found.slots.items
    roots_and_slots = record {
      order = subst (λ n. Counts (HasRoot whole numbers program) front n (λ s o k. numbers.root s o)) nodes_many roots_counted;
      each = each_there;
      slots_ = body_slots;
    }

  pub all_numbered : AreNumbered whole functions main points table found
  all_numbered = record {
    types = types;
    are_types = are_types;
    more = gathered.more;
    arguments = roots_are;
    are = roots_and_slots;
  }
