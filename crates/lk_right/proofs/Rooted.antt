-- Pointers to functions, and to the objects of roots.
use Rattle.std.proofs.Common.{◌≡◌, ◌<◌, ◌+◌, ◌⊎◌, ℕ, suc, zero, Bool, true, false, List, [], ◌∷◌, Option, Some, inl, inr, refl, sym, ap, subst, ◌∙◌, length, arith}
use Rattle.std.proofs.Math.Bool.{cond}
use Rattle.std.proofs.lemmas.Bool.{eqb-true}
use Rattle.std.proofs.lemmas.Option.{none-some, same_Some, slice_get_within}
use Rattle.std.specs.List.{slice_get, position_from}
use Rattle.std.specs.Option.{option_and_then, option_map_or}
use Rattle.std.specs.Prelude.{find, nat_eq}
use Rattle.lk_cells.specs.Cells.{object_of_root}
use Rattle.lk_cells.specs.declared.object.Object.{Object}
use Rattle.lk_cells.specs.declared.state.Local.{Local}
use Rattle.lk_cells.specs.declared.state.State.{State}
use Rattle.lk_cells.specs.declared.state.Thread.{Thread}
use Rattle.lk_change.specs.Going.{gives}
use Rattle.lk_change.specs.Pointers.{own_object, object_of, pointer_to_root}
use Rattle.lk_change.specs.declared.change.Change.{Change}
use Rattle.lk_facts.specs.EdgeRules.{value, target, place, code, IsEdge}
use Rattle.lk_facts.specs.EdgeRules.IsEdge.{row}
use Rattle.lk_facts.specs.LabelRules.{is_global_kind, is_global_holder}
use Rattle.lk_facts.specs.LabelRules.IsWithin.{start as within_start}
use Rattle.lk_facts.specs.Labels.{LabelTable, is_global_at}
use Rattle.lk_facts.specs.Program.{function_of_kind, root_at, value_site_of}
use Rattle.lk_facts.specs.Walks.Walk.{start, elsewhere}
use Rattle.lk_facts.specs.declared.action.Action.{Action}
use Rattle.lk_facts.specs.declared.action.Action.TheVariants as action
use Rattle.lk_facts.specs.declared.edge.Edge.{Edge}
use Rattle.lk_facts.specs.declared.edge.Mark.TheVariants.{Plain}
use Rattle.lk_facts.specs.declared.label_entry.LabelEntry.{LabelEntry}
use Rattle.lk_facts.specs.declared.label_entry.LabelName.{LabelName}
use Rattle.lk_facts.specs.declared.program.Program.{Program}
use Rattle.lk_facts.specs.declared.root.Holder.TheVariants.{Root}
use Rattle.lk_facts.specs.declared.root.Root.{Root as RootOf}
use Rattle.lk_facts.specs.declared.root.RootKind.{RootKind}
use Rattle.lk_facts.specs.declared.root.RootKind.TheVariants as kind
use Rattle.lk_laws.proofs.AlikeEdges.{join_alike}
use Rattle.lk_laws.proofs.AlikeTypes.{joined, target_step}
use Rattle.lk_laws.proofs.EdgeEnds.{join_labels}
use Rattle.lk_laws.specs.RowLaws.{Joins}
use Rattle.lk_right.proofs.Carrying.{numbered, flow_on}
use Rattle.lk_right.proofs.Carrying.Crosses.{stays}
use Rattle.lk_right.proofs.Doing.{Acts, frame_sound, joins, gives_right}
use Rattle.lk_right.proofs.Pointers.{pointer_right}
use Rattle.lk_right.specs.Changes.{IsChangeRight}
use Rattle.lk_right.specs.Contexts.{Home, Contexts, home_of}
use Rattle.lk_right.specs.Laws.{IsAnalysed}
use Rattle.lk_right.specs.Right.{IsPlaceAt, Flows, IsPointerRight, IsFunctionRight, IsRight}
use Rattle.lk_right.specs.Sound.{IsFrameSound}
use Rattle.lk_types.specs.Nodes.{Node, node_of}
use Rattle.lk_types.specs.Table.{Table}
use Rattle.lk_values.proofs.Reasons.{mapped, chained}
use Rattle.lk_values.specs.Pointers.{pointer_to}
use Rattle.lk_values.specs.declared.value.Value.{Value}
use Rattle.lk_values.specs.declared.value.Value.TheVariants.{Pointer, Function}

-- ---- lists

got_within : {X : Type 0} → (xs : List X) (k : ℕ) → k < length xs → (x : X) × (slice_get xs k ≡ Some x)
got_within [] k within = absurd (omega (arith, within))
got_within (x ∷ xs) zero within = (x, refl)
got_within (x ∷ xs) (suc k) within = got_within xs k (omega (arith, within))

-- what a search finds passes the test
pub record IsFound {X : Type 0} (test : X → Bool) (xs : List X) (k : ℕ) : Type 0 where
  pub item : X
  pub there : slice_get xs k ≡ Some item
  pub passes : test item ≡ true

abbrev FoundAfter : {X : Type 0} → (X → Bool) → List X → ℕ → ℕ → Type 0
FoundAfter test xs i n = (k : ℕ) × (n ≡ i + k) × IsFound test xs k

position_after : {X : Type 0} → (test : X → Bool) (xs : List X) (i n : ℕ) → position_from test i xs ≡ Some n → FoundAfter test xs i n
position_after test [] i n h = absurd (none-some n h)
position_after test (x ∷ xs) i n h = by (test x) refl h (λ g. position_after test xs (i + 1) n g)
  where
    by : (b : Bool) → test x ≡ b → cond b (Some i) (position_from test (i + 1) xs) ≡ Some n → (position_from test (i + 1) xs ≡ Some n → FoundAfter test xs (i + 1) n) → FoundAfter test (x ∷ xs) i n
    by true is h on = let same = same_Some i n h in (0, omega (arith, same), record { item = x; there = refl; passes = is })
    by false is h on = let rest = on h in let far = rest.1 in (suc rest.0, omega (arith, far), record { item = rest.2.item; there = rest.2.there; passes = rest.2.passes })

pub position_found : {X : Type 0} → (test : X → Bool) (xs : List X) (n : ℕ) → position_from test 0 xs ≡ Some n → IsFound test xs n
position_found test xs n h = let found = position_after test xs 0 n h in let far = found.1 in let same : found.0 ≡ n = omega (arith, far) in subst (λ k. IsFound test xs k) same found.2

pub item_found : {X : Type 0} → (test : X → Bool) (xs : List X) (x : X) → find test xs ≡ Some x → (k : ℕ) × (slice_get xs k ≡ Some x) × (test x ≡ true)
item_found test [] x h = absurd (none-some x h)
item_found test (y ∷ xs) x h = by (test y) refl h (λ g. item_found test xs x g)
  where
    by : (b : Bool) → test y ≡ b → cond b (Some y) (find test xs) ≡ Some x → (find test xs ≡ Some x → (k : ℕ) × (slice_get xs k ≡ Some x) × (test x ≡ true)) → (k : ℕ) × (slice_get (y ∷ xs) k ≡ Some x) × (test x ≡ true)
    by true is h on = (0, h, subst (λ z. test z ≡ true) (same_Some y x h) is)
    by false is h on = let rest = on h in (suc rest.0, rest.1, rest.2)

-- ---- global labels

-- the root of a function is global
function_global : (of : RootKind) (f : Option ℕ) (g : ℕ) → function_of_kind of f ≡ Some g → is_global_kind of ≡ true
function_global kind.Function f g h = refl
function_global kind.Global f g h = absurd (none-some g h)
function_global kind.Static f g h = absurd (none-some g h)
function_global kind.Local f g h = absurd (none-some g h)
function_global (kind.Heap one) f g h = absurd (none-some g h)
function_global kind.Text f g h = absurd (none-some g h)
function_global kind.Argv f g h = absurd (none-some g h)
function_global kind.Args f g h = absurd (none-some g h)

module _ (program : Program) (labels : LabelTable) (es : List Edge) (ok : IsAnalysed program labels es) where
  abbrev table : Table
  table = program.types

  -- a label of a root of a global kind is global
  pub global_label : (r : ℕ) (root : RootOf) → root_at program r ≡ Some root → is_global_kind root.kind ≡ true → (x : LabelName) → x.holder ≡ Root r → (l : ℕ) → slice_get labels.names l ≡ Some x → is_global_at labels l ≡ true
  global_label r root is_root global x holder l at =
      let named = ok.few_labels.named in
      let within = slice_get_within labels.names l x at in
      let entry = got_within labels.entries l (omega (arith, named, within)) in
      let known = ok.labelled.entries l x entry.0 at entry.1 in
      ap (λ o. option_map_or (λ (e : LabelEntry). e.is_global) o false) entry.1
      ∙ (known.global ∙ (ap (is_global_holder program) holder ∙ (ap (λ o. option_map_or (λ (root : RootOf). is_global_kind root.kind) o false) is_root ∙ global)))

  -- where a place of its own context, or a global one, flows from
  flows_from : (x : LabelName) (d c : List ℕ) (l : ℕ) → slice_get labels.names l ≡ Some x → ((d ≡ c) ⊎ (is_global_at labels l ≡ true)) → Flows program labels es x d x c
  flows_from x d c l at (inl same) = subst (λ e. Flows program labels es x d x e) same (record { from = l; to = l; from_at = at; to_at = at; walk = start })
  flows_from x d c l at (inr global) = record { from = l; to = l; from_at = at; to_at = at; walk = elsewhere start global }

  -- the pointer to a function is right for the point to whose target an edge leads from the function
  pub function_right : (homes : List Home) (g p i : ℕ) (c : List ℕ) → value_site_of program g ≡ Some i → (x y : LabelName) → code program g x → target program p y → IsEdge program x y Plain → IsFunctionRight program labels es homes g (value program p) c
  function_right homes g p i c site x y is_code is edge =
      let roots = chained (λ root. function_of_kind root.kind root.function) (slice_get program.roots is_code.0) g ((ok.lowered.function_roots g is_code.0).0 is_code.1) in
      let global = function_global roots.0.kind roots.0.function g roots.2 in
      let number = numbered program labels es ok x (join_labels program x y Plain edge).0 in
      let is_global = global_label is_code.0 roots.0 roots.1 global x is_code.2.holder number.0 number.1 in
      let points = target_step table ok.table (node_of table is.0.node) (node_of table y.node) is.2.steps.leads in
      record {
        site = i;
        used = site;
        origin = x;
        place = is_code;
        held_by = is.0;
        is = is.1;
        aim = y;
        aims = record { t = points.to; pointer = points.pointer; alike = joined table.types (join_alike program ok.table ok.lowered x y Plain edge) points.alike; leads = is.2 };
        flows = flow_on program labels es ok (flows_from x [] c number.0 number.1 (inr is_global)) edge stays;
      }

  -- the pointer to the object of a root is right likewise
  pub object_right : (homes : List Home) (r p o : ℕ) (c d : List ℕ) → slice_get homes o ≡ Some (home_of r d) → (x y : LabelName) → place program r x → target program p y → IsEdge program x y Plain →
      ((l : ℕ) → slice_get labels.names l ≡ Some x → (d ≡ c) ⊎ (is_global_at labels l ≡ true)) → IsPointerRight program labels es homes (pointer_to o []) (value program p) c
  object_right homes r p o c d there x y whole is edge anywhere =
      let number = numbered program labels es ok x (join_labels program x y Plain edge).0 in
      let own : IsPlaceAt program r [] x = record { ty = whole.ty; of = whole.has; holder = whole.holder; within = within_start x.node whole.start; leads = ap (λ (n : Node). Some n) (sym whole.start.first) } in
      pointer_right program labels es ok homes (pointer_to o []) p c (home_of r d) there x x y own (flows_from x d c number.0 number.1 (anywhere number.0 number.1)) is edge

-- ---- the steps

module _ (program : Program) (labels : LabelTable) (es : List Edge) (contexts : Contexts) (s : State) (t w f : ℕ) (thread : Thread) (cs : List (List ℕ)) (c : List ℕ) (ch : Change) where
  abbrev p : ℕ
  p = thread.frame.point

  abbrev Doing : Action → Type 0
  Doing act = Acts program labels es contexts s t w f thread cs c act ch

  abbrev Right : Type 0
  Right = IsChangeRight program labels es contexts t thread f cs c ch

  abbrev GivenRight : Value → Type 0
  GivenRight v = IsRight program labels es contexts.homes v (value program p) c

  -- a pointer to a function
  pub func_right : (g : ℕ) → Doing (action.Func g) → Right
  func_right g acts = gives_right program labels es contexts s t w f thread cs c (action.Func g) ch acts (Some (Function g)) acts.does (λ v is. subst GivenRight (same_Some (Function g) v is) own)
    where
      own : IsFunctionRight program labels es contexts.homes g (value program p) c
      own =
          let ends = joins program labels es contexts s t w f thread cs c (action.Func g) ch acts in
          let site = (acts.ok.lowered.value_sites g).1 (p, acts.performs.at) in
          function_right program labels es acts.ok contexts.homes g p site.0 c site.1 ends.0.0 ends.1.0 ends.0.1 ends.1.1 (row p f (action.Func g) acts.performs.at acts.performs.stands (refl, ends.0.1, ends.1.1))

  -- where the object of a root is at home: in the own context, or anywhere
  abbrev IsAtHome : RootKind → (r o : ℕ) → Type 0
  IsAtHome of r o = (d : List ℕ) × (slice_get contexts.homes o ≡ Some (home_of r d)) × ((d ≡ c) ⊎ (is_global_kind of ≡ true))

  module _ (act : Action) (acts : Doing act) (r o : ℕ) where
    static_home : object_of_root s.objects r ≡ Some o → (d : List ℕ) × (slice_get contexts.homes o ≡ Some (home_of r d))
    static_home h =
        let found = position_found (λ (object : Object). nat_eq object.root r) s.objects o h in
        let many = acts.sound.objects_many in
        let within = slice_get_within s.objects o found.item found.there in
        let home = got_within contexts.homes o (omega (arith, many, within)) in
        let sound = acts.sound.objects o found.item home.0 found.there home.1 in
        let root : home.0.root ≡ r = sym sound.root ∙ eqb-true found.item.root r found.passes in
        (home.0.context, subst (λ q. slice_get contexts.homes o ≡ Some (home_of q home.0.context)) root home.1)

    own_home : own_object thread.frame r ≡ Some o → slice_get contexts.homes o ≡ Some (home_of r c)
    own_home h =
        let local = mapped (λ (local : Local). local.object) (find (λ (local : Local). nat_eq local.root r) thread.frame.locals) o h in
        let found = item_found (λ (local : Local). nat_eq local.root r) thread.frame.locals local.0 local.1 in
        let frame : IsFrameSound program labels es contexts.homes f c thread.frame = frame_sound program labels es contexts s t w f thread cs c act ch acts in
        let there = frame.locals found.0 local.0 found.1 in
        subst (λ k. slice_get contexts.homes k ≡ Some (home_of r c)) local.2 (subst (λ q. slice_get contexts.homes local.0.object ≡ Some (home_of q c)) (eqb-true local.0.root r found.2) there)

    static : (of : RootKind) → is_global_kind of ≡ true → object_of_root s.objects r ≡ Some o → IsAtHome of r o
    static of global h = let home = static_home h in (home.0, home.1, inr global)

    at_home : (of : RootKind) → object_of s thread.frame r of ≡ Some o → IsAtHome of r o
    at_home kind.Global h = static kind.Global refl h
    at_home kind.Static h = static kind.Static refl h
    at_home kind.Local h = (c, own_home h, inl refl)
    at_home (kind.Heap one) h = absurd (none-some o h)
    at_home kind.Text h = static kind.Text refl h
    at_home kind.Argv h = static kind.Argv refl h
    at_home kind.Args h = absurd (none-some o h)
    at_home kind.Function h = absurd (none-some o h)

  -- a point whose target an edge joins to the place of a root gives the pointer to its object
  points_to_root : (act : Action) (acts : Doing act) (r : ℕ) → Joins program (place program r) (target program p) → ((x y : LabelName) → place program r x → target program p y → IsEdge program x y Plain) →
      gives program p (pointer_to_root program s thread.frame r) ≡ Some ch → Right
  points_to_root act acts r ends edge h = gives_right program labels es contexts s t w f thread cs c act ch acts (pointer_to_root program s thread.frame r) h by
    where
      by : (v : Value) → pointer_to_root program s thread.frame r ≡ Some v → GivenRight v
      by v is =
          let object = mapped (λ o. Pointer (pointer_to o [])) (option_and_then (λ (root : RootOf). object_of s thread.frame r root.kind) (slice_get program.roots r)) v is in
          let root = chained (λ (root : RootOf). object_of s thread.frame r root.kind) (slice_get program.roots r) object.0 object.1 in
          let home = at_home act acts r object.0 root.0.kind root.2 in
          let x = ends.0.0 in
          let anywhere : (l : ℕ) → slice_get labels.names l ≡ Some x → (home.0 ≡ c) ⊎ (is_global_at labels l ≡ true) = λ l at. elim home.2 [
            | inl own ↦ inl own
            | inr global ↦ inr (global_label program labels es acts.ok r root.0 root.1 global x ends.0.1.holder l at)
          ] in
          let own : GivenRight (Pointer (pointer_to object.0 [])) = λ has. object_right program labels es acts.ok contexts.homes r p object.0 c home.0 home.1 x ends.1.0 ends.0.1 ends.1.1 (edge x ends.1.0 ends.0.1 ends.1.1) anywhere in
          subst GivenRight object.2 own

  -- the pointer to the object of a root
  pub root_right : (r : ℕ) → Doing (action.Root r) → Right
  root_right r acts = points_to_root (action.Root r) acts r (joins program labels es contexts s t w f thread cs c (action.Root r) ch acts) (λ x y at to. row p f (action.Root r) acts.performs.at acts.performs.stands (refl, at, to)) acts.does

  -- the pointer to a text
  pub text_right : (r : ℕ) → Doing (action.Text r) → Right
  text_right r acts = points_to_root (action.Text r) acts r (joins program labels es contexts s t w f thread cs c (action.Text r) ch acts) (λ x y at to. row p f (action.Text r) acts.performs.at acts.performs.stands (refl, at, to)) acts.does
