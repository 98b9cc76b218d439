-- Which labels edges join.
use Rattle.std.proofs.Common.{◌≡◌, ℕ, suc, Bool, true, false, ◌&&◌, List, [], ◌∷◌, ◌++◌, Option, Some, None, inl, inr, refl, sym, ap, ◌∙◌, subst}
use Rattle.std.specs.List.{list_all}
use Rattle.std.specs.Option.{option_map}
use Rattle.std.specs.Prelude.{if◌then◌else◌}
use Rattle.std.proofs.lemmas.Bool.{and_from, and_parts, both_ways, false≢true, false_from_ne_true}
use Rattle.std.proofs.lemmas.List.Folds.{list_all-append}
use Rattle.std.proofs.lemmas.Option.{none-some}
use Rattle.lk_facts.specs.EdgeRules.{Of, In, IsInside, Loc, Sub, value, target, place, slot, result, parameter, code, allocated, Converts, Passes, Returns, Row, IsBehind, IsEdge}
use Rattle.lk_facts.specs.EdgeRules.Converts.{same, to_void, from_void}
use Rattle.lk_facts.specs.EdgeRules.IsEdge.{row, argv, args, passed, given_back, forth, back, inside, results, parameters}
use Rattle.lk_facts.specs.LabelRules.{IsLabel, IsOrigin, IsPart, IsWhole, IsNodeOf, NamesPlace, IsWithin, form_of, leads_inside, leads_to_place, is_root}
use Rattle.lk_facts.specs.LabelRules.IsNodeOf.{start as node_start, part as node_part}
use Rattle.lk_facts.specs.LabelRules.IsWithin.{start as within_start, part as within_part}
use Rattle.lk_facts.specs.LabelRules.NamesPlace.{start as place_start, part as place_part}
use Rattle.lk_facts.specs.Typed.{IsHolderType}
use Rattle.lk_facts.specs.declared.action.Action.{Action}
use Rattle.lk_facts.specs.declared.action.Action.TheVariants as action
use Rattle.lk_facts.specs.declared.edge.Mark.{Mark}
use Rattle.lk_facts.specs.declared.label_entry.LabelName.{LabelName}
use Rattle.lk_facts.specs.declared.program.Program.{Program}
use Rattle.lk_facts.specs.declared.root.Holder.{Holder}
use Rattle.lk_facts.specs.declared.root.Holder.TheVariants.{Slot, Result, Point}
use Rattle.lk_types.specs.Nodes.{Node, node_of, first, step, along, target_of, element_of, is_void_tag, has_part}
use Rattle.lk_types.specs.Objects.{stays_inside}
use Rattle.lk_types.specs.Table.{Table, type_at, least_of}
use Rattle.lk_types.specs.Walks.{has_tag, field as field_branch}
use Rattle.lk_types.specs.declared.c_type.CType.{CType}
use Rattle.lk_types.specs.declared.c_type.CType.TheVariants.{Void, Int, ThreadId, Mutex, Cond, Pointer, Array, Struct, Function, Opaque}
use Rattle.lk_types.specs.declared.node.Base.{Base}
use Rattle.lk_types.specs.declared.node.Base.TheVariants.{Start, Tag}
use Rattle.lk_types.specs.declared.node.NodeId.{NodeId}
use Rattle.lk_types.specs.declared.node.Sel.{Sel}
use Rattle.lk_types.specs.declared.node.Sel.TheVariants.{Target, Element, Field, Part}

some_is : {X : Type 0} (x y : X) → Some x ≡ Some y → x ≡ y
some_is x y h = cc

abbrev is_start : Base → Bool
is_start (Start t) = true
is_start (Tag t) = false

-- the node is reached from its Start without Target
abbrev direct : Node → Bool
direct node = is_start node.base && list_all stays_inside node.path

-- a step leads to a Tag, or to the end of a longer path
pub data Stepped (node : Node) (s : Sel) (k : Node) : Type 0 where
  tagged : (u : ℕ) → first (Tag u) ≡ k → Stepped node s k
  inner : k.base ≡ node.base → k.path ≡ node.path ++ s ∷ [] → Stepped node s k

Stays : Node → Sel → Node → Type 0
Stays node s k = (k.base ≡ node.base) × (k.path ≡ node.path ++ s ∷ [])

longer : {node : Node} {s : Sel} {k : Node} → Stays node s k → Stepped node s k
unfolding Stays
longer h = Stepped.inner h.0 h.1

element_stays : (node : Node) (form : CType) (k : Node) → option_map (along node) (element_of form) ≡ Some k → Stays node Element k
unfolding Stays
element_stays node Void k h = absurd (none-some k h)
element_stays node (Int kind) k h = absurd (none-some k h)
element_stays node ThreadId k h = absurd (none-some k h)
element_stays node Mutex k h = absurd (none-some k h)
element_stays node Cond k h = absurd (none-some k h)
element_stays node (Pointer t) k h = absurd (none-some k h)
element_stays node (Array t n) k h = let is = sym (some_is _ k h) in (ap (λ (x : Node). x.base) is, ap (λ (x : Node). x.path) is)
element_stays node (Struct s) k h = absurd (none-some k h)
element_stays node (Function r ps dots) k h = absurd (none-some k h)
element_stays node (Opaque n) k h = absurd (none-some k h)

field_stays : (node : Node) (j : ℕ) (o : Option ℕ) (k : Node) → option_map (along node) (option_map (field_branch j) o) ≡ Some k → Stays node (Field j) k
unfolding Stays
field_stays node j None k h = absurd (none-some k h)
field_stays node j (Some t) k h = let is = sym (some_is _ k h) in (ap (λ (x : Node). x.base) is, ap (λ (x : Node). x.path) is)

target_stepped : (table : Table) (node : Node) (form : CType) (k : Node) → option_map (along node) (target_of table form) ≡ Some k → Stepped node Target k
target_stepped table node Void k h = absurd (none-some k h)
target_stepped table node (Int kind) k h = absurd (none-some k h)
target_stepped table node ThreadId k h = absurd (none-some k h)
target_stepped table node Mutex k h = absurd (none-some k h)
target_stepped table node Cond k h = absurd (none-some k h)
target_stepped table node (Pointer t) k h = of (has_tag table t) h
  where
    of : (b : Bool) → Some (along node (if b then record { sel = Target; type = least_of table t; tag = true } else record { sel = Target; type = t; tag = false })) ≡ Some k → Stepped node Target k
    of true h = Stepped.tagged (least_of table t) (some_is _ k h)
    of false h = let is = sym (some_is _ k h) in Stepped.inner (ap (λ (x : Node). x.base) is) (ap (λ (x : Node). x.path) is)
target_stepped table node (Array t n) k h = absurd (none-some k h)
target_stepped table node (Struct s) k h = absurd (none-some k h)
target_stepped table node (Function r ps dots) k h = absurd (none-some k h)
target_stepped table node (Opaque n) k h = absurd (none-some k h)

part_stepped : (node : Node) (t u : ℕ) (b : Bool) (k : Node) → (if b then Some (first (Tag u)) else None) ≡ Some k → Stepped node (Part t) k
part_stepped node t u true k h = Stepped.tagged u (some_is _ k h)
part_stepped node t u false k h = absurd (none-some k h)

pub stepped : (table : Table) (node : Node) (s : Sel) (k : Node) → step table node s ≡ Some k → Stepped node s k
stepped table node Target k h = target_stepped table node (type_at table node.type) k h
stepped table node Element k h = longer (element_stays node (type_at table node.type) k h)
stepped table node (Field j) k h = longer (field_stays node j _ k h)
stepped table node (Part t) k h = part_stepped node t (least_of table t) (is_void_tag table node.base && has_part table t) k h

-- what is reached directly is so by a step that stays inside, from what is
direct_back : {node : Node} {s : Sel} {k : Node} → Stepped node s k → direct k ≡ true → (direct node ≡ true) × (stays_inside s ≡ true)
direct_back (Stepped.tagged u is) h = absurd (false≢true (subst (λ x. direct x ≡ true) (sym is) h))
direct_back {node} {s} {k} (Stepped.inner base path) h =
    let parts = and_parts (is_start k.base) (list_all stays_inside k.path) h in
    let from : is_start node.base ≡ true = subst (λ b. is_start b ≡ true) base parts.0 in
    let all : (list_all stays_inside node.path && list_all stays_inside (s ∷ [])) ≡ true = sym (list_all-append stays_inside node.path (s ∷ [])) ∙ subst (λ p. list_all stays_inside p ≡ true) path parts.1 in
    let both = and_parts _ _ all in
    (and_from _ _ from both.0, (and_parts (stays_inside s) true both.1).0)

direct_on : (node : Node) (s : Sel) (k : Node) → Stays node s k → stays_inside s ≡ true → direct node ≡ true → direct k ≡ true
unfolding Stays
direct_on node s k stays stays_in h =
    let parts = and_parts (is_start node.base) (list_all stays_inside node.path) h in
    let from : is_start k.base ≡ true = subst (λ b. is_start b ≡ true) (sym stays.0) parts.0 in
    let last : list_all stays_inside (s ∷ []) ≡ true = and_from _ _ stays_in refl in
    let all : list_all stays_inside k.path ≡ true = subst (λ p. list_all stays_inside p ≡ true) (sym stays.1) (list_all-append stays_inside node.path (s ∷ []) ∙ and_from _ _ parts.1 last) in
    and_from _ _ from all

no_part_of_start : (table : Table) (base : Base) (t : ℕ) (b : Bool) (u : ℕ) (k : Node) → is_start base ≡ true → (if (is_void_tag table base && b) then Some (first (Tag u)) else None) ≡ Some k → ⊥
no_part_of_start table (Start s) t b u k is h = none-some k h
no_part_of_start table (Tag s) t b u k is h = false≢true is

direct_step : (table : Table) (node : Node) (s : Sel) (k : Node) (form : CType) → leads_inside form s ≡ true → direct node ≡ true → step table node s ≡ Some k → direct k ≡ true
direct_step table node Target k form stays h to = absurd (false≢true stays)
direct_step table node Element k form stays h to = direct_on node Element k (element_stays node (type_at table node.type) k to) refl h
direct_step table node (Field j) k form stays h to = direct_on node (Field j) k (field_stays node j _ k to) refl h
direct_step table node (Part t) k form stays h to = absurd (no_part_of_start table node.base t (has_part table t) (least_of table t) k (and_parts (is_start node.base) (list_all stays_inside node.path) h).0 to)

within_direct : (table : Table) (t : ℕ) {n : NodeId} → IsWithin table t n → direct (node_of table n) ≡ true
within_direct table t (within_start n is) = subst (λ x. direct x ≡ true) (sym is.first) refl
within_direct table t (within_part m n s w stays steps) = direct_step table (node_of table m) s (node_of table n) (form_of table m) stays (within_direct table t w) steps.leads

pub inside_to_place : (form : CType) (s : Sel) → leads_inside form s ≡ true → leads_to_place form s ≡ true
inside_to_place form Target h = refl
inside_to_place form Element h = refl
inside_to_place form (Field k) h = h
inside_to_place form (Part t) h = refl

module _ (program : Program) where
  -- a value or place of the program
  pub record IsThere (x : LabelName) : Type 0 where
    pub ty : ℕ
    pub has : IsHolderType program x.holder ty
    pub of : IsNodeOf program.types ty x.node

  not_direct : LabelName → Type 0
  not_direct x = direct (node_of program.types x.node) ≡ false

  record IsReached (x : LabelName) : Type 0 where
    label : IsLabel program x
    later : not_direct x

  record AreEnds (u v : LabelName) : Type 0 where
    from : IsLabel program u
    to : IsReached v

  names_node : {t : ℕ} {whole : Bool} {n : NodeId} → NamesPlace program.types t whole n → IsNodeOf program.types t n
  names_node {t} (place_start n is at) = node_start n at
  names_node {t} (place_part m n s of leads steps) = node_part m n s of steps

  pub label_there : (x : LabelName) → IsLabel program x → IsThere x
  label_there x label = record { ty = label.0; has = label.1; of = names_node label.2 }

  whole_there : (h : Holder) (x : LabelName) → IsWhole program h x → IsThere x
  whole_there h x w = record { ty = w.ty; has = subst (λ g. IsHolderType program g w.ty) (sym w.holder) w.has; of = node_start x.node w.start }

  part_there : {x : LabelName} {s : Sel} {y : LabelName} → IsThere x → IsPart program x s y → IsThere y
  part_there {x} {s} {y} there part = record { ty = there.ty; has = subst (λ g. IsHolderType program g there.ty) (sym part.holder) there.has; of = node_part x.node y.node s there.of part.steps }

  pub label_part : {x : LabelName} {s : Sel} {y : LabelName} → IsThere x → leads_to_place (form_of program.types x.node) s ≡ true → IsPart program x s y → IsLabel program y
  label_part {x} {s} {y} there leads part = (there.ty, subst (λ g. IsHolderType program g there.ty) (sym part.holder) there.has, place_part x.node y.node s there.of leads part.steps)

  place_label : (r : ℕ) (x : LabelName) → place program r x → IsLabel program x
  place_label r x w = (w.ty, subst (λ g. IsHolderType program g w.ty) (sym w.holder) w.has, place_start x.node (ap is_root w.holder) w.start)

  target_later : {x y : LabelName} → IsPart program x Target y → not_direct y
  unfolding not_direct
  target_later {x} {y} part = false_from_ne_true _ (λ d. false≢true (direct_back (stepped program.types (node_of program.types x.node) Target (node_of program.types y.node) part.steps.leads) d).1)

  inside_later : {x y : LabelName} {s : Sel} → not_direct x → IsPart program x s y → not_direct y
  unfolding not_direct
  inside_later {x} {y} {s} later part = false_from_ne_true _ (λ d. both_ways _ later (direct_back (stepped program.types (node_of program.types x.node) s (node_of program.types y.node) part.steps.leads) d).0)

  of_there : {X : LabelName → Type 0} {s : Sel} → ((x : LabelName) → X x → IsThere x) → (u : LabelName) → Of program X s u → IsThere u
  of_there there u h = part_there (there h.0 h.1) h.2

  target_reached : {X : LabelName → Type 0} → ((x : LabelName) → X x → IsThere x) → (u : LabelName) → Of program X Target u → IsReached u
  target_reached there u h = record { label = label_part (there h.0 h.1) refl h.2; later = target_later h.2 }

  inside_label : {x : LabelName} {s : Sel} {u : LabelName} → IsThere x → IsInside program x s u → IsLabel program u
  inside_label {x} {s} there h = label_part there (inside_to_place (form_of program.types x.node) s h.inside) h.part

  in_labels : {X : LabelName → Type 0} {s : Sel} → ((x : LabelName) → X x → IsLabel program x) → (u : LabelName) → In program X s u → IsLabel program u
  in_labels labels u h = inside_label (label_there h.0 (labels h.0 h.1)) h.2

  in_reached : {X : LabelName → Type 0} {s : Sel} → ((x : LabelName) → X x → IsReached x) → (u : LabelName) → In program X s u → IsReached u
  in_reached reached u h =
      let x = reached h.0 h.1 in
      record { label = inside_label (label_there h.0 x.label) h.2; later = inside_later x.later h.2.part }

  value_there : (p : ℕ) (x : LabelName) → value program p x → IsThere x
  value_there p x w = whole_there (Point p) x w

  slot_there : (f s : ℕ) (x : LabelName) → slot program f s x → IsThere x
  slot_there f s x w = whole_there (Slot f s) x w

  result_there : (f : ℕ) (x : LabelName) → result program f x → IsThere x
  result_there f x w = whole_there (Result f) x w

  parameter_there : (f k : ℕ) (x : LabelName) → parameter program f k x → IsThere x
  parameter_there f k x w = whole_there w.0 x w.2

  code_label : (f : ℕ) (x : LabelName) → code program f x → IsLabel program x
  code_label f x w = place_label w.0 x w.2

  code_there : (f : ℕ) (x : LabelName) → code program f x → IsThere x
  code_there f x w = label_there x (code_label f x w)

  pointed : (p : ℕ) (x : LabelName) → target program p x → IsReached x
  pointed p x h = target_reached (value_there p) x h

  pointed_label : (p : ℕ) (x : LabelName) → target program p x → IsLabel program x
  pointed_label p x h = (pointed p x h).label

  pointed_there : (p : ℕ) (x : LabelName) → target program p x → IsThere x
  pointed_there p x h = label_there x (pointed_label p x h)

  allocated_label : (r : ℕ) (n : Option ℕ) (x : LabelName) → allocated program r n x → IsLabel program x
  allocated_label r None x h = place_label r x h
  allocated_label r (Some n) x h = in_labels (place_label r) x h

  loc_ends : {mark m : Mark} {X Y : LabelName → Type 0} {u v : LabelName} → ((x : LabelName) → X x → IsLabel program x) → ((x : LabelName) → Y x → IsReached x) → Loc program mark X Y u v m → AreEnds u v
  loc_ends {u = u} {v = v} labels reached h = record { from = labels u h.1; to = reached v h.2 }

  sub_ends : {mark m : Mark} {X Y : LabelName → Type 0} {u v : LabelName} → ((x : LabelName) → X x → IsThere x) → ((x : LabelName) → Y x → IsThere x) → Sub program mark X Y u v m → AreEnds u v
  sub_ends {u = u} {v = v} one two h = record { from = (target_reached one u h.1).label; to = target_reached two v h.2 }

  converted : (a p : ℕ) {u v : LabelName} {m : Mark} → Converts program a p u v m → AreEnds u v
  converted a p (same s t is of alike h) = sub_ends (value_there a) (value_there p) h
  converted a p (to_void t gives points h) = loc_ends (pointed_label a) (in_reached (pointed p)) h
  converted a p (from_void t points gives h) = loc_ends (in_labels (pointed_label a)) (pointed p) h

  returned : (f : ℕ) (a : Option ℕ) (u v : LabelName) (m : Mark) → Returns program f a u v m → AreEnds u v
  returned f None u v m h = absurd h
  returned f (Some a) u v m h = sub_ends (value_there a) (result_there f) h

  passes : (p g : ℕ) (operands : List ℕ) {u v : LabelName} {m : Mark} → Passes program p g operands u v m → AreEnds u v
  passes p g operands h = sub_ends (value_there h.2) (parameter_there g (suc h.1)) h.5

  row_ends : (p f : ℕ) (act : Action) (u v : LabelName) (m : Mark) → Row program p f act u v m → AreEnds u v
  row_ends p f (action.Value number ty) u v m h = absurd h
  row_ends p f (action.Null ty) u v m h = absurd h
  row_ends p f (action.Func g) u v m h = loc_ends (code_label g) (pointed p) h
  row_ends p f action.SelfId u v m h = absurd h
  row_ends p f (action.Root r) u v m h = loc_ends (place_label r) (pointed p) h
  row_ends p f (action.Text r) u v m h = loc_ends (place_label r) (pointed p) h
  row_ends p f (action.Field a k) u v m h = loc_ends (in_labels (pointed_label a)) (pointed p) h
  row_ends p f (action.Index a b true) u v m h = loc_ends (in_labels (pointed_label a)) (pointed p) h
  row_ends p f (action.Index a b false) u v m h = sub_ends (value_there a) (value_there p) h
  row_ends p f (action.Read a raw) u v m h = sub_ends (pointed_there a) (value_there p) h
  row_ends p f (action.Write a b raw) u v m h = sub_ends (value_there b) (pointed_there a) h
  row_ends p f (action.SlotRead s) u v m h = sub_ends (slot_there f s) (value_there p) h
  row_ends p f (action.SlotWrite s a) u v m h = sub_ends (value_there a) (slot_there f s) h
  row_ends p f (action.Unary op a) u v m h = absurd h
  row_ends p f (action.Binary op a b) u v m h = sub_ends (value_there a) (value_there p) h
  row_ends p f (action.Compute operands ty equal) u v m h = absurd h
  row_ends p f (action.Convert a ty) u v m h = converted a p h
  row_ends p f (action.Branch a) u v m h = absurd h
  row_ends p f (action.Switch a cases) u v m h = absurd h
  row_ends p f action.Skip u v m h = absurd h
  row_ends p f (action.Call g xs) u v m h = elim h [ inl given ↦ passes p g xs given | inr given ↦ sub_ends (result_there g) (value_there p) given.2 ]
  row_ends p f (action.PointerCall a xs) u v m h = elim h [ inl given ↦ sub_ends (value_there given.1) (of_there (pointed_there a)) given.3 | inr given ↦ sub_ends (of_there (pointed_there a)) (value_there p) given ]
  row_ends p f (action.Return a) u v m h = returned f a u v m h
  row_ends p f (action.Create g a) u v m h = passes p g (a ∷ []) h
  row_ends p f (action.StoreId a) u v m h = absurd h
  row_ends p f (action.Join a) u v m h = absurd h
  row_ends p f (action.Detach a) u v m h = absurd h
  row_ends p f action.ExitThread u v m h = absurd h
  row_ends p f action.ExitProcess u v m h = absurd h
  row_ends p f (action.Lock a) u v m h = absurd h
  row_ends p f (action.Unlock a) u v m h = absurd h
  row_ends p f (action.Release cond mutex) u v m h = absurd h
  row_ends p f (action.Retake a) u v m h = absurd h
  row_ends p f (action.Init a) u v m h = absurd h
  row_ends p f (action.Destroy a) u v m h = absurd h
  row_ends p f (action.Signal a) u v m h = absurd h
  row_ends p f (action.Allocate ty count clear r) u v m h = loc_ends (allocated_label r count) (in_reached (pointed p)) h
  row_ends p f (action.Free a) u v m h = absurd h
  row_ends p f (action.Scan a) u v m h = absurd h
  row_ends p f (action.Fill a spot named) u v m h = absurd h

  behind_reached : {u x : LabelName} {k : ℕ} → IsThere u → IsBehind program u k x → IsReached x
  behind_reached {u} {x} there h = target_reached (λ y part. part_there there part) x h.points

  ends : {u v : LabelName} {m : Mark} → IsEdge program u v m → AreEnds u v
  ends {u} {v} {m} (row p f act at of h) = row_ends p f act u v m h
  ends (argv r is h) = loc_ends (in_labels (place_label r)) (target_reached (parameter_there program.main 2)) h
  ends (args r q is at h) = loc_ends (in_labels (place_label r)) (target_reached (λ x w. label_there x (in_labels (place_label q) x w))) h
  ends (passed g i k site h) = sub_ends (of_there (code_there g)) (parameter_there g (suc k)) h
  ends (given_back g i site h) = sub_ends (result_there g) (of_there (code_there g)) h
  ends (forth {u = u} {v = v} e x y) =
      let on = ends e in
      record { from = label_part (label_there u on.from) refl x; to = record { label = label_part (label_there v on.to.label) refl y; later = target_later y } }
  ends (back {u = u} {v = v} e x y) =
      let on = ends e in
      record { from = label_part (label_there v on.to.label) refl y; to = record { label = label_part (label_there u on.from) refl x; later = target_later x } }
  ends (inside {u = u} {v = v} s e x y) =
      let on = ends e in
      record { from = inside_label (label_there u on.from) x; to = record { label = inside_label (label_there v on.to.label) y; later = inside_later on.to.later y.part } }
  ends (results {u = u} {v = v} e x y) =
      let on = ends e in
      record { from = (behind_reached (label_there u on.from) x).label; to = behind_reached (label_there v on.to.label) y }
  ends (parameters {u = u} {v = v} k e x y) =
      let on = ends e in
      record { from = (behind_reached (label_there v on.to.label) y).label; to = behind_reached (label_there u on.from) x }

pub join_labels : (program : Program) (u v : LabelName) (m : Mark) → IsEdge program u v m → IsLabel program u × IsLabel program v
join_labels program u v m e = let on = ends program e in (on.from, on.to.label)

pub none_at_origin : (program : Program) (u v : LabelName) (m : Mark) → IsEdge program u v m → IsOrigin program v → ⊥
unfolding not_direct
none_at_origin program u v m e origin = both_ways _ (ends program e).to.later (within_direct program.types origin.1 origin.4)
