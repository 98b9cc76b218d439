-- The parts of a node and the steps to them: a node is among the parts just where a step leads to it.
use Rattle.std.proofs.Common.{◌≡◌, ℕ, zero, suc, ◌+◌, ◌<◌, ◌≤◌, Bool, true, false, List, [], ◌∷◌, ◌++◌, map, length, Option, Some, None, Contains, inl, inr, refl, sym, ap, ◌∙◌, subst, arith}
use Rattle.std.specs.Prelude.{slice_get, ◌&&◌, ◌==◌, if◌then◌else◌, unwrap_or, not}
use Rattle.std.specs.List.{filter_map, cons_option, list_any}
use Rattle.std.specs.Option.{option_map}
use Rattle.std.proofs.lemmas.Bool.{and_parts, eqb-true, cases_lt, false≢true}
use Rattle.std.proofs.lemmas.List.Elements.{Contains-append_left, Contains-append_right, All-contains}
use Rattle.std.proofs.lemmas.List.Folds.{Any-from_list_any}
use Rattle.std.proofs.lemmas.Option.{none-some, same_Some}
use Rattle.lk_facts.specs.LabelRules.{Steps, form_of, is_function, leads_inside, leads_to_place, parts_of, sels}
use Rattle.lk_types.specs.Nodes.{Node, IsNode, IsBase, base_type, entry_of, first, has_part, is_void_tag, node_of, step, along, part_of_void, target_of, element_of, field_of}
use Rattle.lk_types.specs.Objects.{numbers_from}
use Rattle.lk_types.specs.Table.{Table, type_at, fields_of, least_of}
use Rattle.lk_types.specs.Walks.{Entry, start, walk, nodes, most_steps, is_void, field, below_start}
use Rattle.lk_types.specs.declared.c_type.CType.{CType}
use Rattle.lk_types.specs.declared.c_type.CType.TheVariants.{Void, Int, ThreadId, Mutex, Cond, Pointer, Array, Struct, Function, Opaque}
use Rattle.lk_types.specs.declared.node.Base.{Base}
use Rattle.lk_types.specs.declared.node.Base.TheVariants.{Start, Tag}
use Rattle.lk_types.specs.declared.node.NodeId.{NodeId}
use Rattle.lk_types.specs.declared.node.Sel.{Sel}
use Rattle.lk_types.specs.declared.node.Sel.TheVariants.{Target, Element, Field, Part}
use Rattle.lk_label.specs.Inner.{has_inner}
use Rattle.lk_label.specs.Walking.{ArePartsOfNode}
use Rattle.lk_label.proofs.Walks.{Contains-first, Contains-behind, Contains-cons_cases, Contains-none}
use Rattle.lk_label.proofs.WalkSteps.{contains_map, contains_id}

-- what h gives of one of a list is among what it gives of all, and these are all
filtered : {X Y : Type 0} (h : X → Option Y) (xs : List X) (x : X) (y : Y) → Contains xs x → h x ≡ Some y → Contains (filter_map h xs) y
filtered h [] x y there is = absurd (Contains-none x there)
filtered {Y = Y} h (z ∷ zs) x y there is =
    elim (Contains-cons_cases z x zs there) [
      | inl same ↦ here (h z) (ap h same ∙ is)
      | inr behind ↦ later (h z) (filtered h zs x y behind is)
    ]
  where
    here : (o : Option Y) → o ≡ Some y → Contains (cons_option o (filter_map h zs)) y
    here None none = absurd (none-some y none)
    here (Some v) some = subst (λ w. Contains (w ∷ filter_map h zs) y) (sym (same_Some v y some)) (Contains-first y (filter_map h zs))

    later : (o : Option Y) → Contains (filter_map h zs) y → Contains (cons_option o (filter_map h zs)) y
    later None among = among
    later (Some v) among = Contains-behind v y (filter_map h zs) among

pub unfiltered : {X Y : Type 0} (h : X → Option Y) (xs : List X) (y : Y) → Contains (filter_map h xs) y → (x : X) × (h x ≡ Some y)
unfiltered h [] y there = absurd (Contains-none y there)
unfiltered {X = X} {Y = Y} h (z ∷ zs) y there = of (λ among. unfiltered h zs y among) (h z) refl there
  where
    of : (Contains (filter_map h zs) y → (x : X) × (h x ≡ Some y)) → (o : Option Y) → h z ≡ o → Contains (cons_option o (filter_map h zs)) y → (x : X) × (h x ≡ Some y)
    of behind None is among = behind among
    of behind (Some v) is among = elim (Contains-cons_cases v y (filter_map h zs) among) [
      | inl same ↦ (z, is ∙ ap Some same)
      | inr later ↦ behind later
    ]

numbered : (low n k : ℕ) → low ≤ k → k < low + n → Contains (numbers_from low n) k
numbered low zero k from below = absurd (omega (arith, from, below))
numbered low (suc n) k from below = elim (cases_lt low k) [
  | inl less ↦ Contains-behind low k (numbers_from (suc low) n) (numbered (suc low) n k (omega (arith, less)) (omega (arith, below)))
  | inr more ↦ let same : low ≡ k = omega (arith, from, more) in subst (Contains (numbers_from low (suc n))) same (Contains-first low (numbers_from (suc low) n))
]

void_form : (form : CType) → is_void form ≡ true → form ≡ Void
void_form Void is = refl
void_form (Int kind) is = absurd (false≢true is)
void_form ThreadId is = absurd (false≢true is)
void_form Mutex is = absurd (false≢true is)
void_form Cond is = absurd (false≢true is)
void_form (Pointer t) is = absurd (false≢true is)
void_form (Array t n) is = absurd (false≢true is)
void_form (Struct s) is = absurd (false≢true is)
void_form (Function result params dots) is = absurd (false≢true is)
void_form (Opaque n) is = absurd (false≢true is)

module _ (table : Table) where
  -- void has no parts in the walk of a type
  void_walk : (d t : ℕ) → type_at table t ≡ Void → walk d table t ≡ start t ∷ []
  unfolding walk
  void_walk zero t is = refl
  void_walk (suc d) t is = ap (λ form. start t ∷ below_start (walk d table) table form) is

  only_start : (t k : ℕ) → unwrap_or (slice_get (start t ∷ []) k) (start t) ≡ start t
  only_start t zero = refl
  only_start t (suc k) = refl

  -- what stands for void, from where Parts lead, has the form of void
  void_tag_form : (n : NodeId) (base : Base) → n.base ≡ base → is_void_tag table base ≡ true → form_of table n ≡ Void
  void_tag_form n (Start t) at tag = absurd (false≢true tag)
  void_tag_form n (Tag t) at tag =
      let void : type_at table t ≡ Void = void_form (type_at table t) tag in
      let base : base_type n.base ≡ t = ap base_type at in
      let entry : entry_of table n ≡ start t = ap (λ u. unwrap_or (slice_get (nodes table u) n.number) (start u)) base ∙ (ap (λ es. unwrap_or (slice_get es n.number) (start t)) (void_walk most_steps t void) ∙ only_start t n.number) in
      ap (λ (e : Entry). type_at table e.type) entry ∙ void

  read_there : {Y Z : Type 0} (g : Y → Z) (h : ℕ → Y) (ts : List ℕ) (k : ℕ) (z : Z) → option_map g (option_map h (slice_get ts k)) ≡ Some z → k < length ts
  read_there g h [] k z is = absurd (none-some z is)
  read_there g h (t ∷ ts) zero z is = omega arith
  read_there g h (t ∷ ts) (suc k) z is = let on = read_there g h ts k z is in omega (arith, on)

  part_is : (there : Bool) (u : ℕ) (y : Node) → (if there then Some (first (Tag u)) else None) ≡ Some y → (there ≡ true) × (first (Tag u) ≡ y)
  part_is true u y is = (refl, same_Some (first (Tag u)) y is)
  part_is false u y is = absurd (none-some y is)

  -- the number of a Tag's type is the least
  least_again : (n : NodeId) (base : Base) (u : ℕ) → n.base ≡ base → base ≡ Tag u → IsBase table n.base → least_of table u ≡ u
  least_again n base u at is known = (subst (IsBase table) (at ∙ is) known).1

  -- the steps behind Target and Element
  abbrev later_sels : Node → List Sel
  later_sels node = map Field (numbers_from 0 (length (fields_of table (type_at table node.type)))) ++ map Part table.parts

  pub listed_step : (node : Node) (s : Sel) (n : NodeId) → IsNode table n → step table node s ≡ Some (node_of table n) → Contains (parts_of table node) (node_of table n)
  listed_step node Target n is leads = filtered (step table node) (sels table node.type) Target (node_of table n) (Contains-first Target (Element ∷ later_sels node)) leads
  listed_step node Element n is leads = filtered (step table node) (sels table node.type) Element (node_of table n) (Contains-behind Target Element (Element ∷ later_sels node) (Contains-first Element (later_sels node))) leads
  listed_step node (Field k) n is leads =
      let fields = fields_of table (type_at table node.type) in
      let within = read_there (along node) (field k) fields k (node_of table n) leads in
      let among = contains_map Field (numbers_from 0 (length fields)) k (numbered 0 (length fields) k (omega arith) (omega (arith, within))) in
      let all = Contains-append_left (map Field (numbers_from 0 (length fields))) (map Part table.parts) (Field k) among in
      filtered (step table node) (sels table node.type) (Field k) (node_of table n) (Contains-behind Target (Field k) (Element ∷ later_sels node) (Contains-behind Element (Field k) (later_sels node) all)) leads
  listed_step node (Part t) n is leads =
      let fields = fields_of table (type_at table node.type) in
      let there = part_is (is_void_tag table node.base && has_part table t) (least_of table t) (node_of table n) leads in
      let both = and_parts (is_void_tag table node.base) (has_part table t) there.0 in
      let one = Any-from_list_any (λ u. u == least_of table t) table.parts both.1 in
      let least : one.1 ≡ least_of table t = eqb-true one.1 (least_of table t) one.4 in
      let again : least_of table (least_of table t) ≡ least_of table t = least_again n n.base (least_of table t) refl (ap (λ (m : Node). m.base) (sym there.1)) is.base in
      let same : part_of_void table node.base (least_of table t) ≡ part_of_void table node.base t = ap (λ u. if is_void_tag table node.base && list_any (λ v. v == u) table.parts then Some (first (Tag u)) else None) again in
      let among = contains_map Part table.parts (least_of table t) (subst (Contains table.parts) least (one.0, one.2, one.3)) in
      let all = Contains-append_right (map Field (numbers_from 0 (length fields))) (map Part table.parts) (Part (least_of table t)) among in
      filtered (step table node) (sels table node.type) (Part (least_of table t)) (node_of table n) (Contains-behind Target (Part (least_of table t)) (Element ∷ later_sels node) (Contains-behind Element (Part (least_of table t)) (later_sels node) all)) (same ∙ leads)

  -- a node is among the parts just where a step leads to it
  pub part_listed : (m n : NodeId) (s : Sel) (parts : List NodeId) → ArePartsOfNode table m parts → Steps table m s n → Contains parts n
  part_listed m n s parts of steps =
      contains_id table parts n of.nodes steps.node (subst (λ ks. Contains ks (node_of table n)) (sym of.are) (listed_step (node_of table m) s n steps.node steps.leads))

  pub part_stepped : (m n : NodeId) (parts : List NodeId) → ArePartsOfNode table m parts → Contains parts n → (s : Sel) × Steps table m s n
  part_stepped m n parts of there =
      let found = unfiltered (step table (node_of table m)) (sels table (node_of table m).type) (node_of table n) (subst (λ ks. Contains ks (node_of table n)) of.are (contains_map (node_of table) parts n there)) in
      (found.0, record { node = All-contains (IsNode table) parts n of.nodes there; leads = found.1 })

  -- From what is no function each step leads to a place or a function, and from a function none does.
  pub leads_from_object : (m n : NodeId) (s : Sel) → is_function (form_of table m) ≡ false → Steps table m s n → leads_to_place (form_of table m) s ≡ true
  leads_from_object m n Target object steps = refl
  leads_from_object m n Element object steps = refl
  leads_from_object m n (Field k) object steps = ap not object
  leads_from_object m n (Part t) object steps = refl

  pub none_from_function : (m n : NodeId) (s : Sel) → is_function (form_of table m) ≡ true → leads_to_place (form_of table m) s ≡ true → Steps table m s n → ⊥
  none_from_function m n Target function to steps = no_target (form_of table m) function steps.leads
    where
      no_target : (form : CType) → is_function form ≡ true → option_map (along (node_of table m)) (target_of table form) ≡ Some (node_of table n) → ⊥
      no_target (Function result params dots) is leads = none-some (node_of table n) leads
      no_target (Pointer t) is leads = false≢true is
      no_target Void is leads = false≢true is
      no_target (Int kind) is leads = false≢true is
      no_target ThreadId is leads = false≢true is
      no_target Mutex is leads = false≢true is
      no_target Cond is leads = false≢true is
      no_target (Array t k) is leads = false≢true is
      no_target (Struct s) is leads = false≢true is
      no_target (Opaque k) is leads = false≢true is
  none_from_function m n Element function to steps = no_element (form_of table m) function steps.leads
    where
      no_element : (form : CType) → is_function form ≡ true → option_map (along (node_of table m)) (element_of form) ≡ Some (node_of table n) → ⊥
      no_element (Function result params dots) is leads = none-some (node_of table n) leads
      no_element (Pointer t) is leads = false≢true is
      no_element Void is leads = false≢true is
      no_element (Int kind) is leads = false≢true is
      no_element ThreadId is leads = false≢true is
      no_element Mutex is leads = false≢true is
      no_element Cond is leads = false≢true is
      no_element (Array t k) is leads = false≢true is
      no_element (Struct s) is leads = false≢true is
      no_element (Opaque k) is leads = false≢true is
  none_from_function m n (Field k) function to steps = false≢true (sym (ap not function) ∙ to)
  none_from_function m n (Part t) function to steps =
      let there = part_is (is_void_tag table m.base && has_part table t) (least_of table t) (node_of table n) steps.leads in
      let tag = (and_parts (is_void_tag table m.base) (has_part table t) there.0).0 in
      false≢true (ap is_function (sym (void_tag_form m m.base refl tag)) ∙ function)

  -- of what has parts in the same object each step leads to such a part
  pub inside_from_object : (m n : NodeId) (s : Sel) → has_inner (form_of table m) ≡ true → Steps table m s n → leads_inside (form_of table m) s ≡ true
  inside_from_object m n Target has steps = absurd (no_target (form_of table m) has steps.leads)
    where
      no_target : (form : CType) → has_inner form ≡ true → option_map (along (node_of table m)) (target_of table form) ≡ Some (node_of table n) → ⊥
      no_target Void is leads = none-some (node_of table n) leads
      no_target (Array t k) is leads = none-some (node_of table n) leads
      no_target (Struct s) is leads = none-some (node_of table n) leads
      no_target (Int kind) is leads = false≢true is
      no_target ThreadId is leads = false≢true is
      no_target Mutex is leads = false≢true is
      no_target Cond is leads = false≢true is
      no_target (Pointer t) is leads = false≢true is
      no_target (Function result params dots) is leads = false≢true is
      no_target (Opaque k) is leads = false≢true is
  inside_from_object m n Element has steps = refl
  inside_from_object m n (Field k) has steps = no_function (form_of table m) has
    where
      no_function : (form : CType) → has_inner form ≡ true → not (is_function form) ≡ true
      no_function Void is = refl
      no_function (Array t k) is = refl
      no_function (Struct s) is = refl
      no_function (Int kind) is = refl
      no_function ThreadId is = refl
      no_function Mutex is = refl
      no_function Cond is = refl
      no_function (Pointer t) is = refl
      no_function (Function result params dots) is = absurd (false≢true is)
      no_function (Opaque k) is = refl
  inside_from_object m n (Part t) has steps = refl

  -- and of what has none no step leads to one
  pub none_inside : (m n : NodeId) (s : Sel) → has_inner (form_of table m) ≡ false → leads_inside (form_of table m) s ≡ true → Steps table m s n → ⊥
  none_inside m n Target none inside steps = false≢true inside
  none_inside m n Element none inside steps = no_element (form_of table m) none steps.leads
    where
      no_element : (form : CType) → has_inner form ≡ false → option_map (along (node_of table m)) (element_of form) ≡ Some (node_of table n) → ⊥
      no_element Void isnt leads = none-some (node_of table n) leads
      no_element (Array t k) isnt leads = false≢true (sym isnt)
      no_element (Struct s) isnt leads = none-some (node_of table n) leads
      no_element (Int kind) isnt leads = none-some (node_of table n) leads
      no_element ThreadId isnt leads = none-some (node_of table n) leads
      no_element Mutex isnt leads = none-some (node_of table n) leads
      no_element Cond isnt leads = none-some (node_of table n) leads
      no_element (Pointer t) isnt leads = none-some (node_of table n) leads
      no_element (Function result params dots) isnt leads = none-some (node_of table n) leads
      no_element (Opaque k) isnt leads = none-some (node_of table n) leads
  none_inside m n (Field k) none inside steps = no_field (form_of table m) none inside steps.leads
    where
      no_field : (form : CType) → has_inner form ≡ false → not (is_function form) ≡ true → option_map (along (node_of table m)) (field_of table form k) ≡ Some (node_of table n) → ⊥
      no_field Void isnt object leads = false≢true (sym isnt)
      no_field (Array t j) isnt object leads = false≢true (sym isnt)
      no_field (Struct s) isnt object leads = false≢true (sym isnt)
      no_field (Int kind) isnt object leads = none-some (node_of table n) leads
      no_field ThreadId isnt object leads = none-some (node_of table n) leads
      no_field Mutex isnt object leads = none-some (node_of table n) leads
      no_field Cond isnt object leads = none-some (node_of table n) leads
      no_field (Pointer t) isnt object leads = none-some (node_of table n) leads
      no_field (Function result params dots) isnt object leads = false≢true object
      no_field (Opaque j) isnt object leads = none-some (node_of table n) leads
  none_inside m n (Part t) none inside steps =
      let there = part_is (is_void_tag table m.base && has_part table t) (least_of table t) (node_of table n) steps.leads in
      let tag = (and_parts (is_void_tag table m.base) (has_part table t) there.0).0 in
      false≢true (sym none ∙ ap has_inner (void_tag_form m m.base refl tag))
