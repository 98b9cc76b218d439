-- Edges from the place of an object: its root is one of cells, of a text or of a function. And the places of texts and functions are no mutexes.
use Rattle.std.proofs.Common.{◌≡◌, ◌⊎◌, ℕ, Bool, true, false, List, [], ◌∷◌, ◌++◌, Option, Some, None, inl, inr, refl, sym, ap, subst, ◌∙◌}
use Rattle.std.proofs.lemmas.Bool.{and_from, and_parts, false≢true}
use Rattle.std.proofs.lemmas.List.Folds.{list_all-append}
use Rattle.std.proofs.lemmas.Option.{none-some, same_Some}
use Rattle.std.specs.List.{list_all, slice_get}
use Rattle.std.specs.Option.{option_map}
use Rattle.std.specs.Prelude.{⊤}
use Rattle.lk_base.specs.declared.kind.Kind.TheVariants.{Char}
use Rattle.lk_facts.specs.EdgeRules.{Of, In, IsRootOf, place, code, allocated, Converts, Returns, Row, IsEdge}
use Rattle.lk_facts.specs.EdgeRules.Converts.{same, to_void, from_void}
use Rattle.lk_facts.specs.EdgeRules.IsEdge.{row, argv, args, passed, given_back, forth, back, inside, results, parameters}
use Rattle.lk_facts.specs.LabelRules.{IsPart, IsWhole, IsWithin, form_of, leads_inside}
use Rattle.lk_facts.specs.LabelRules.IsWithin.{start as within_start, part as within_part}
use Rattle.lk_facts.specs.Lowered.{IsLowered, IsText, holds_cells}
use Rattle.lk_facts.specs.Program.{action_at, root_at, root_of_function}
use Rattle.lk_facts.specs.Typed.{IsAllocated, IsObjectOfKind, IsTyped}
use Rattle.lk_facts.specs.declared.action.Action.{Action}
use Rattle.lk_facts.specs.declared.action.Action.TheVariants as action
use Rattle.lk_facts.specs.declared.edge.Mark.{Mark}
use Rattle.lk_facts.specs.declared.label_entry.LabelName.{LabelName}
use Rattle.lk_facts.specs.declared.program.Program.{Program}
use Rattle.lk_facts.specs.declared.root.Holder.{Holder}
use Rattle.lk_facts.specs.declared.root.Holder.TheVariants.{Root, Slot, Result, Point}
use Rattle.lk_facts.specs.declared.root.Root.{Root as RootOf}
use Rattle.lk_facts.specs.declared.root.RootKind.{RootKind}
use Rattle.lk_facts.specs.declared.root.RootKind.TheVariants as kind
use Rattle.lk_laws.proofs.EdgeEnds.{Stepped, stepped}
use Rattle.lk_types.specs.Nodes.{Node, along, element_of, field_of, node_of, part_of_void, step}
use Rattle.lk_types.specs.Objects.{is_mutex, stays_inside}
use Rattle.lk_types.specs.Table.{Table, fields_of, type_at}
use Rattle.lk_types.specs.Walks.{Branch, element, field}
use Rattle.lk_types.specs.declared.c_type.CType.{CType}
use Rattle.lk_types.specs.declared.c_type.CType.TheVariants.{Void, Int, ThreadId, Mutex, Cond, Pointer, Array, Struct, Function, Opaque}
use Rattle.lk_types.specs.declared.node.Base.TheVariants.{Start, Tag}
use Rattle.lk_types.specs.declared.node.NodeId.{NodeId}
use Rattle.lk_types.specs.declared.node.Sel.{Sel}
use Rattle.lk_types.specs.declared.node.Sel.TheVariants.{Target, Element, Field, Part}
use Rattle.lk_values.proofs.Reasons.{mapped}

-- ---- nodes within an object

-- a node to which no Target leads
pub record IsDirect (t : ℕ) (node : Node) : Type 0 where
  pub base : node.base ≡ Start t
  pub path : list_all stays_inside node.path ≡ true

-- what an array is made of
element_is : (form : CType) (b : Branch) → element_of form ≡ Some b → (t : ℕ) × (element t ≡ b)
element_is Void b h = absurd (none-some b h)
element_is (Int k) b h = absurd (none-some b h)
element_is ThreadId b h = absurd (none-some b h)
element_is Mutex b h = absurd (none-some b h)
element_is Cond b h = absurd (none-some b h)
element_is (Pointer t) b h = absurd (none-some b h)
element_is (Array t n) b h = (t, same_Some (element t) b h)
element_is (Struct n) b h = absurd (none-some b h)
element_is (Function r ps dots) b h = absurd (none-some b h)
element_is (Opaque n) b h = absurd (none-some b h)

tag_or_start : (u t : ℕ) → Tag u ≡ Start t → ⊥
tag_or_start u t h = cc

module _ (table : Table) where
  path_on : (path : List Sel) (s : Sel) → list_all stays_inside path ≡ true → stays_inside s ≡ true → list_all stays_inside (path ++ s ∷ []) ≡ true
  path_on path s all last = list_all-append stays_inside path (s ∷ []) ∙ and_from _ _ all (and_from _ _ last refl)

  -- what is reached without Target is so from what is
  direct_from : (t : ℕ) {node : Node} {s : Sel} {k : Node} → Stepped node s k → IsDirect t k → IsDirect t node × (stays_inside s ≡ true)
  direct_from t (Stepped.tagged u is) h = absurd (tag_or_start u t (ap (λ (x : Node). x.base) is ∙ h.base))
  direct_from t {node} {s} (Stepped.inner base path) h =
      let both = and_parts _ _ (sym (list_all-append stays_inside node.path (s ∷ [])) ∙ subst (λ p. list_all stays_inside p ≡ true) path h.path) in
      (record { base = sym base ∙ h.base; path = both.0 }, (and_parts (stays_inside s) true both.1).0)

  -- the node behind a step that stays in the object
  abbrev behind : Node → Sel → ℕ → Node
  behind n s u = record { base = n.base; path = n.path ++ s ∷ []; type = u }

  along_direct : (t u : ℕ) (s : Sel) (n k : Node) → IsDirect t n → stays_inside s ≡ true → behind n s u ≡ k → IsDirect t k
  along_direct t u s n k was stays is = subst (IsDirect t) is (record { base = was.base; path = path_on n.path s was.path stays })

  direct_element : (t : ℕ) (n k : Node) → IsDirect t n → option_map (along n) (element_of (type_at table n.type)) ≡ Some k → IsDirect t k
  direct_element t n k was h =
      let branch = mapped (along n) (element_of (type_at table n.type)) k h in
      let is = element_is (type_at table n.type) branch.0 branch.1 in
      along_direct t is.0 Element n k was refl (ap (along n) is.1 ∙ branch.2)

  direct_field : (t j : ℕ) (n k : Node) → IsDirect t n → option_map (along n) (field_of table (type_at table n.type) j) ≡ Some k → IsDirect t k
  direct_field t j n k was h =
      let branch = mapped (along n) (field_of table (type_at table n.type) j) k h in
      let is = mapped (field j) (slice_get (fields_of table (type_at table n.type)) j) branch.0 branch.1 in
      along_direct t is.0 (Field j) n k was refl (ap (along n) is.2 ∙ branch.2)

  no_part : (t u : ℕ) (n k : Node) → IsDirect t n → part_of_void table n.base u ≡ Some k → ⊥
  no_part t u n k was h = none-some k (sym (ap (λ b. part_of_void table b u) was.base) ∙ h)

  -- a property of the forms of such nodes, which each step keeps
  module _ (t : ℕ) (P : CType → Type 0) (begins : P (type_at table t))
      (elements : (n k : Node) → P (type_at table n.type) → option_map (along n) (element_of (type_at table n.type)) ≡ Some k → P (type_at table k.type))
      (fields : (n k : Node) (j : ℕ) → P (type_at table n.type) → leads_inside (type_at table n.type) (Field j) ≡ true →
      option_map (along n) (field_of table (type_at table n.type) j) ≡ Some k → P (type_at table k.type)) where
    within_has : {m : NodeId} → IsWithin table t m → IsDirect t (node_of table m) × P (form_of table m)
    within_has (within_start n is) = (
      record { base = ap (λ (x : Node). x.base) is.first; path = ap (λ (x : Node). list_all stays_inside x.path) is.first },
      subst (λ (x : Node). P (type_at table x.type)) (sym is.first) begins,
    )
    within_has (within_part m n s within stays steps) = by s stays steps.leads (within_has within)
      where
        by : (s : Sel) → leads_inside (form_of table m) s ≡ true → step table (node_of table m) s ≡ Some (node_of table n) → IsDirect t (node_of table m) × P (form_of table m) →
            IsDirect t (node_of table n) × P (form_of table n)
        by Target stays leads was = absurd (false≢true stays)
        by Element stays leads was = (direct_element t (node_of table m) (node_of table n) was.0 leads, elements (node_of table m) (node_of table n) was.1 leads)
        by (Field j) stays leads was = (direct_field t j (node_of table m) (node_of table n) was.0 leads, fields (node_of table m) (node_of table n) j was.1 stays leads)
        by (Part u) stays leads was = absurd (no_part t u (node_of table m) (node_of table n) was.0 leads)

  -- so it is with any property
  pub within_direct : (t : ℕ) {m : NodeId} → IsWithin table t m → IsDirect t (node_of table m)
  within_direct t within = (within_has t (λ form. ⊤) tt (λ n k was h. tt) (λ n k j was stays h. tt) within).0

  -- ---- no mutex is in a text or a function

  abbrev IsOfText : ℕ → ℕ → CType → Type 0
  IsOfText char n form = (form ≡ Array char n) ⊎ (form ≡ Int Char)

  text_no_mutex : (char n : ℕ) (form : CType) → IsOfText char n form → is_mutex form ≡ true → ⊥
  text_no_mutex char n form (inl is) mutex = false≢true (ap is_mutex (sym is) ∙ mutex)
  text_no_mutex char n form (inr is) mutex = false≢true (ap is_mutex (sym is) ∙ mutex)

  pub no_mutex_in_text : (t char n : ℕ) → type_at table t ≡ Array char n → type_at table char ≡ Int Char → {m : NodeId} → IsWithin table t m → is_mutex (form_of table m) ≡ true → ⊥
  no_mutex_in_text t char n array int {m} within mutex = text_no_mutex char n (form_of table m) (within_has t (IsOfText char n) (inl array) elements fields within).1 mutex
    where
      elements : (a b : Node) → IsOfText char n (type_at table a.type) → option_map (along a) (element_of (type_at table a.type)) ≡ Some b → IsOfText char n (type_at table b.type)
      elements a b (inl is) h =
          let to = same_Some (along a (element char)) b (sym (ap (λ f. option_map (along a) (element_of f)) is) ∙ h) in
          inr (subst (λ (x : Node). type_at table x.type ≡ Int Char) to int)
      elements a b (inr is) h = absurd (none-some b (sym (ap (λ f. option_map (along a) (element_of f)) is) ∙ h))

      fields : (a b : Node) (j : ℕ) → IsOfText char n (type_at table a.type) → leads_inside (type_at table a.type) (Field j) ≡ true →
          option_map (along a) (field_of table (type_at table a.type) j) ≡ Some b → IsOfText char n (type_at table b.type)
      fields a b j (inl is) stays h = absurd (none-some b (sym (ap (λ f. option_map (along a) (field_of table f j)) is) ∙ h))
      fields a b j (inr is) stays h = absurd (none-some b (sym (ap (λ f. option_map (along a) (field_of table f j)) is) ∙ h))

  pub no_mutex_in_function : (t r : ℕ) (ps : List ℕ) (dots : Bool) → type_at table t ≡ Function r ps dots → {m : NodeId} → IsWithin table t m → is_mutex (form_of table m) ≡ true → ⊥
  no_mutex_in_function t r ps dots function within mutex = false≢true (ap is_mutex (sym (within_has t (λ form. form ≡ Function r ps dots) function elements fields within).1) ∙ mutex)
    where
      elements : (a b : Node) → type_at table a.type ≡ Function r ps dots → option_map (along a) (element_of (type_at table a.type)) ≡ Some b → type_at table b.type ≡ Function r ps dots
      elements a b is h = absurd (none-some b (sym (ap (λ f. option_map (along a) (element_of f)) is) ∙ h))

      fields : (a b : Node) (j : ℕ) → type_at table a.type ≡ Function r ps dots → leads_inside (type_at table a.type) (Field j) ≡ true →
          option_map (along a) (field_of table (type_at table a.type) j) ≡ Some b → type_at table b.type ≡ Function r ps dots
      fields a b j is stays h = absurd (false≢true (sym (ap (λ f. leads_inside f (Field j)) is) ∙ stays))

-- ---- edges from an object

point_or_root : (p r : ℕ) → Point p ≡ Root r → ⊥
point_or_root p r h = cc

slot_or_root : (f k r : ℕ) → Slot f k ≡ Root r → ⊥
slot_or_root f k r h = cc

result_or_root : (f r : ℕ) → Result f ≡ Root r → ⊥
result_or_root f r h = cc

one_root : (q r : ℕ) → Root q ≡ Root r → q ≡ r
one_root q r h = cc

module _ (program : Program) (lowered : IsLowered program) (r : ℕ) where
  -- the root holds cells, or is that of a text that a point names, or of a function
  pub data IsUsed : Type 0 where
    by_cells : (root : RootOf) → root_at program r ≡ Some root → holds_cells root.kind ≡ true → IsUsed
    by_text : IsText program r → IsUsed
    by_code : (g : ℕ) → root_of_function program g ≡ Some r → IsUsed

  -- what X names is held there
  abbrev IsHeldIn : Holder → (LabelName → Type 0) → Type 0
  IsHeldIn h X = (x : LabelName) → X x → x.holder ≡ h

  whole_held : (h : Holder) → IsHeldIn h (IsWhole program h)
  whole_held h x whole = whole.holder

  of_held : {h : Holder} {X : LabelName → Type 0} (s : Sel) → IsHeldIn h X → IsHeldIn h (Of program X s)
  of_held s held x (y, is, part) = part.holder ∙ held y is

  in_held : {h : Holder} {X : LabelName → Type 0} (s : Sel) → IsHeldIn h X → IsHeldIn h (In program X s)
  in_held s held x (y, is, within) = within.part.holder ∙ held y is

  -- what a point points to
  pointed : (a : ℕ) → IsHeldIn (Point a) (Of program (IsWhole program (Point a)) Target)
  pointed a = of_held Target (whole_held (Point a))

  module _ (u : LabelName) (held : u.holder ≡ Root r) where
    no_point : (a : ℕ) {X : LabelName → Type 0} → IsHeldIn (Point a) X → X u → IsUsed
    no_point a in_point is = absurd (point_or_root a r (sym (in_point u is) ∙ held))

    root_is : (q : ℕ) {X : LabelName → Type 0} → IsHeldIn (Root q) X → X u → q ≡ r
    root_is q in_root is = one_root q r (sym (in_root u is) ∙ held)

    used_cells : (q : ℕ) (root : RootOf) → q ≡ r → root_at program q ≡ Some root → holds_cells root.kind ≡ true → IsUsed
    used_cells q root equal at holds = by_cells root (subst (λ n. root_at program n ≡ Some root) equal at) holds

    object_holds : (f : ℕ) (owner : Option ℕ) (k : RootKind) → IsObjectOfKind program f owner k → holds_cells k ≡ true
    object_holds f owner kind.Global h = refl
    object_holds f owner kind.Static h = refl
    object_holds f owner kind.Local h = refl
    object_holds f owner (kind.Heap single) h = absurd h
    object_holds f owner kind.Text h = absurd h
    object_holds f owner kind.Argv h = absurd h
    object_holds f owner kind.Args h = absurd h
    object_holds f owner kind.Function h = absurd h

    converted : (a p : ℕ) (v : LabelName) (m : Mark) → Converts program a p u v m → IsUsed
    converted a p v m (same s t from to alike h) = no_point a (pointed a) h.1
    converted a p v m (to_void t gives points h) = no_point a (pointed a) h.1
    converted a p v m (from_void t points gives h) = no_point a (in_held (Part t) (pointed a)) h.1

    returned : (f : ℕ) (a : Option ℕ) (v : LabelName) (m : Mark) → Returns program f a u v m → IsUsed
    returned f None v m h = absurd h
    returned f (Some a) v m h = no_point a (pointed a) h.1

    allocation : (p q t : ℕ) (count : Option ℕ) → IsAllocated program p q t count → allocated program q count u → IsUsed
    allocation p q t None typed h = used_cells q typed.0 (root_is q (whole_held (Root q)) h) typed.1 (ap holds_cells typed.2)
    allocation p q t (Some n) typed h = used_cells q typed.0 (root_is q (in_held Element (whole_held (Root q))) h) typed.1 (ap holds_cells typed.2)

    row_used : (p f : ℕ) (act : Action) (v : LabelName) (m : Mark) → action_at program p ≡ Some act → IsTyped program p f act → Row program p f act u v m → IsUsed
    row_used p f (action.Value number t) v m here typed h = absurd h
    row_used p f (action.Null t) v m here typed h = absurd h
    row_used p f (action.Func g) v m here typed h =
        by_code g (subst (λ n. root_of_function program g ≡ Some n) (root_is h.1.0 (whole_held (Root h.1.0)) h.1.2) h.1.1)
    row_used p f action.SelfId v m here typed h = absurd h
    row_used p f (action.Root q) v m here typed h =
        used_cells q typed.0.0 (root_is q (whole_held (Root q)) h.1) typed.0.1 (object_holds f typed.0.0.function typed.0.0.kind typed.0.2)
    row_used p f (action.Text q) v m here typed h = by_text (subst (IsText program) (root_is q (whole_held (Root q)) h.1) (lowered.texts p q here))
    row_used p f (action.Field a k) v m here typed h = no_point a (in_held (Field k) (pointed a)) h.1
    row_used p f (action.Index a b true) v m here typed h = no_point a (in_held Element (pointed a)) h.1
    row_used p f (action.Index a b false) v m here typed h = no_point a (pointed a) h.1
    row_used p f (action.Read a raw) v m here typed h = no_point a (of_held Target (pointed a)) h.1
    row_used p f (action.Write a b raw) v m here typed h = no_point b (pointed b) h.1
    row_used p f (action.SlotRead k) v m here typed h = absurd (slot_or_root f k r (sym (of_held Target (whole_held (Slot f k)) u h.1) ∙ held))
    row_used p f (action.SlotWrite k a) v m here typed h = no_point a (pointed a) h.1
    row_used p f (action.Unary o a) v m here typed h = absurd h
    row_used p f (action.Binary o a b) v m here typed h = no_point a (pointed a) h.1
    row_used p f (action.Compute operands t equal) v m here typed h = absurd h
    row_used p f (action.Convert a t) v m here typed h = converted a p v m h
    row_used p f (action.Branch a) v m here typed h = absurd h
    row_used p f (action.Switch a cases) v m here typed h = absurd h
    row_used p f action.Skip v m here typed h = absurd h
    row_used p f (action.Call g operands) v m here typed h = elim h [
      | inl pass ↦ no_point pass.2 (pointed pass.2) pass.5.1
      | inr give ↦ absurd (result_or_root g r (sym (of_held Target (whole_held (Result g)) u give.2.1) ∙ held))
    ]
    row_used p f (action.PointerCall a operands) v m here typed h = elim h [
      | inl pass ↦ no_point pass.1 (pointed pass.1) pass.3.1
      | inr give ↦ no_point a (of_held Target (of_held (Field 0) (pointed a))) give.1
    ]
    row_used p f (action.Return a) v m here typed h = returned f a v m h
    row_used p f (action.Create g a) v m here typed h = no_point h.2 (pointed h.2) h.5.1
    row_used p f (action.StoreId a) v m here typed h = absurd h
    row_used p f (action.Join a) v m here typed h = absurd h
    row_used p f (action.Detach a) v m here typed h = absurd h
    row_used p f action.ExitThread v m here typed h = absurd h
    row_used p f action.ExitProcess v m here typed h = absurd h
    row_used p f (action.Lock a) v m here typed h = absurd h
    row_used p f (action.Unlock a) v m here typed h = absurd h
    row_used p f (action.Release cond mutex) v m here typed h = absurd h
    row_used p f (action.Retake a) v m here typed h = absurd h
    row_used p f (action.Init a) v m here typed h = absurd h
    row_used p f (action.Destroy a) v m here typed h = absurd h
    row_used p f (action.Signal a) v m here typed h = absurd h
    row_used p f (action.Allocate t count clear q) v m here typed h = allocation p q t count typed.1 h.1
    row_used p f (action.Free a) v m here typed h = absurd h
    row_used p f (action.Scan a) v m here typed h = absurd h
    row_used p f (action.Fill a spot named) v m here typed h = absurd h

    -- an argument of main, or a function that is used as a value
    argument : (q : ℕ) (k : RootKind) → holds_cells k ≡ true → IsRootOf program k q → In program (place program q) Element u → IsUsed
    argument q k holds is h = used_cells q is.0 (root_is q (in_held Element (whole_held (Root q))) h) is.1 (ap holds_cells is.2 ∙ holds)

    behind_code : (g k : ℕ) → Of program (Of program (code program g) (Field k)) Target u → IsUsed
    behind_code g k (x, (y, (q, of, is), part), target) =
        by_code g (subst (λ n. root_of_function program g ≡ Some n) (one_root q r (sym (target.holder ∙ (part.holder ∙ is.holder)) ∙ held)) of)

  -- no Target leads to what is reached without one
  no_target : (t : ℕ) {x u : LabelName} → IsPart program x Target u → IsDirect t (node_of program.types u.node) → ⊥
  no_target t {x} {u} part direct =
      false≢true (direct_from program.types t (stepped program.types (node_of program.types x.node) Target (node_of program.types u.node) part.steps.leads) direct).1

  pub edge_used : (t : ℕ) {u v : LabelName} {m : Mark} → IsEdge program u v m → u.holder ≡ Root r → IsDirect t (node_of program.types u.node) → IsUsed
  edge_used t {u} {v} {m} (row p f act at of h) held direct = row_used u held p f act v m at (lowered.typed p f act at of) h
  edge_used t {u} (argv q is h) held direct = argument u held q kind.Argv refl is h.1
  edge_used t {u} (args q s is at h) held direct = argument u held q kind.Args refl is h.1
  edge_used t {u} (passed g i k site h) held direct = behind_code u held g _ h.1
  edge_used t {u} (given_back g i site h) held direct = absurd (result_or_root g r (sym (of_held Target (whole_held (Result g)) u h.1) ∙ held))
  edge_used t (forth e x y) held direct = absurd (no_target t x direct)
  edge_used t (back e x y) held direct = absurd (no_target t y direct)
  edge_used t {u} (inside {u = x} s e part other) held direct =
      let from = direct_from program.types t (stepped program.types (node_of program.types x.node) s (node_of program.types u.node) part.part.steps.leads) direct in
      edge_used t e (sym part.part.holder ∙ held) from.0
  edge_used t (results e x y) held direct = absurd (no_target t x.points.2 direct)
  edge_used t (parameters k e x y) held direct = absurd (no_target t y.points.2 direct)
