-- The roots of the objects at the start: each root of static storage has one object, and so has each local of main; main's arguments have
-- one for each string.
use Rattle.std.proofs.Common.{◌≡◌, ◌<◌, ◌+◌, ◌⊎◌, ℕ, zero, suc, Bool, true, false, List, [], ◌++◌, map, length, Option, None, Some, inl, inr, refl, sym, ap, subst, ◌∙◌, arith}
use Rattle.std.proofs.lemmas.Bool.{false≢true}
use Rattle.std.proofs.lemmas.Option.{none-some, same_Some, slice_get-map}
use Rattle.std.specs.Option.{option_map, option_map_or}
use Rattle.std.specs.Prelude.{slice_get}
use Rattle.lk_birth.specs.Births.{argument, bare_local, is_root, listed, local_object, local_objects, locals_of}
use Rattle.lk_birth.specs.Starts.{root_of, string_object, strings_of, string_objects, static_object, with_pointers, object_of_kind, object_at_start, objects_below, bare_objects, first_objects}
use Rattle.lk_cells.specs.Cells.{with_value}
use Rattle.lk_cells.specs.declared.object.Object.{Object}
use Rattle.lk_facts.specs.Many.{IsOneOfKind}
use Rattle.lk_facts.specs.Program.{is_args, root_at}
use Rattle.lk_facts.specs.declared.program.Program.{Program}
use Rattle.lk_facts.specs.declared.root.Root.{Root}
use Rattle.lk_facts.specs.declared.root.RootKind.{RootKind}
use Rattle.lk_facts.specs.declared.root.RootKind.TheVariants as sort
use Rattle.lk_right.proofs.Rooted.{position_found}
use Rattle.lk_right.specs.Contexts.{Home, home_of}
use Rattle.lk_safe.proofs.RootsMade.{IsLocalOf, locals_differ, local_root}
use Rattle.lk_sound.proofs.Elements.{split, mapped_from}
use Rattle.lk_sound.proofs.StartCells.{bytes_root}
use Rattle.lk_sound.proofs.StartObjects.{first_roots, listed_one}
use Rattle.lk_trails.proofs.Counting.{AreFirstRoots}
use Rattle.lk_trails.specs.Counting.{IsMade}
use Rattle.lk_values.proofs.Reasons.{chained}
use Rattle.lk_values.specs.declared.value.Value.{Value}

-- whether a root has one object at the start: it is of static storage, a string literal, or the pointers to main's arguments
abbrev pub is_single : RootKind → Bool
is_single sort.Global = true
is_single sort.Static = true
is_single sort.Local = false
is_single (sort.Heap one) = false
is_single sort.Text = true
is_single sort.Argv = true
is_single sort.Args = false
is_single sort.Function = false

-- such a root is no local and no allocation, and nor is that of main's arguments, which may have many objects
single_or_local : (kind : RootKind) → (is_args kind ≡ true) ⊎ (is_single kind ≡ true) → kind ≡ sort.Local → ⊥
single_or_local kind (inl h) is = false≢true (sym (ap is_args is) ∙ h)
single_or_local kind (inr h) is = false≢true (sym (ap is_single is) ∙ h)

single_or_heap : (kind : RootKind) (one : Bool) → (is_args kind ≡ true) ⊎ (is_single kind ≡ true) → kind ≡ sort.Heap one → ⊥
single_or_heap kind one (inl h) is = false≢true (sym (ap is_args is) ∙ h)
single_or_heap kind one (inr h) is = false≢true (sym (ap is_single is) ∙ h)

local_or_heap : (one : Bool) → sort.Local ≡ sort.Heap one → ⊥
local_or_heap one h = cc

args_many : (program : Program) (kind : RootKind) (root : Root) → is_args kind ≡ true → IsOneOfKind program kind root → ⊥
args_many program sort.Global root h one = false≢true h
args_many program sort.Static root h one = false≢true h
args_many program sort.Local root h one = false≢true h
args_many program (sort.Heap single) root h one = false≢true h
args_many program sort.Text root h one = false≢true h
args_many program sort.Argv root h one = false≢true h
args_many program sort.Args root h one = one
args_many program sort.Function root h one = false≢true h

listed_first : {X : Type 0} → (o : Option X) (k : ℕ) (x : X) → slice_get (listed o) k ≡ Some x → k ≡ 0
listed_first None k x h = absurd (none-some x h)
listed_first (Some y) zero x h = refl
listed_first (Some y) (suc k) x h = absurd (none-some x h)

local_object_root : (program : Program) (f : ℕ) (values : List Value) (r : ℕ) → (local_object program f values r).root ≡ r
local_object_root program f values r = by (argument program f values (is_root r))
  where
    by : (found : Option Value) → (option_map_or (with_value (bare_local program f values r) []) found (bare_local program f values r)).root ≡ r
    by None = refl
    by (Some v) = refl

-- an object with pointers keeps its root
pointers_keep : (object : Object) (n : ℕ) → (with_pointers object n).root ≡ object.root
pointers_keep object zero = refl
pointers_keep object (suc n) = pointers_keep object n

module _ (program : Program) (strings : List (List ℕ)) where
  -- ---- the objects before the initialisers

  -- an object of main's arguments, or the one of a root below n
  record IsFirst (n : ℕ) (object : Object) : Type 0 where
    root : Root
    at : root_at program object.root ≡ Some root
    kind : (is_args root.kind ≡ true) ⊎ (is_single root.kind ≡ true)
    below : (is_args root.kind ≡ true) ⊎ (object.root < n)

  string_root : (r : ℕ) (root : Root) (text : List ℕ) → (string_object r root.ty text).root ≡ r
  string_root r root text = bytes_root (static_object r root.ty (length text + 1)) text

  strings_first : (o : ℕ) (object : Object) → slice_get (string_objects program strings) o ≡ Some object → IsFirst 0 object
  strings_first o object there = by (root_of is_args program) refl there
    where
      by_root : (r : ℕ) → root_of is_args program ≡ Some r → (found : Option Root) → slice_get program.roots r ≡ found →
          slice_get (option_map_or (λ (root : Root). map (string_object r root.ty) strings) found []) o ≡ Some object → IsFirst 0 object
      by_root r is None at h = absurd (none-some object h)
      by_root r is (Some root) at h =
          let text = mapped_from (string_object r root.ty) strings o object h in
          let own : object.root ≡ r = ap (λ (x : Object). x.root) text.2 ∙ string_root r root text.0 in
          let found = position_found (λ (root : Root). is_args root.kind) program.roots r is in
          let args : is_args root.kind ≡ true = ap (λ (x : Root). is_args x.kind) (same_Some root found.item (sym at ∙ found.there)) ∙ found.passes in
          record { root = root; at = ap (λ n. slice_get program.roots n) own ∙ at; kind = inl args; below = inl args }

      by : (found : Option ℕ) → root_of is_args program ≡ found → slice_get (option_map_or (strings_of program strings) found []) o ≡ Some object → IsFirst 0 object
      by None is h = absurd (none-some object h)
      by (Some r) is h = by_root r is (slice_get program.roots r) refl h

  kind_first : (r : ℕ) (root : Root) (kind : RootKind) (object : Object) → object_of_kind strings r root kind ≡ Some object → (object.root ≡ r) × (is_single kind ≡ true)
  kind_first r root sort.Global object h = (ap (λ (x : Object). x.root) (sym (same_Some _ object h)), refl)
  kind_first r root sort.Static object h = (ap (λ (x : Object). x.root) (sym (same_Some _ object h)), refl)
  kind_first r root sort.Local object h = absurd (none-some object h)
  kind_first r root (sort.Heap one) object h = absurd (none-some object h)
  kind_first r root sort.Text object h = (ap (λ (x : Object). x.root) (sym (same_Some _ object h)) ∙ bytes_root (static_object r root.ty (length root.bytes)) root.bytes, refl)
  kind_first r root sort.Argv object h = (ap (λ (x : Object). x.root) (sym (same_Some _ object h)) ∙ pointers_keep (static_object r root.ty (length strings + 1)) (length strings), refl)
  kind_first r root sort.Args object h = absurd (none-some object h)
  kind_first r root sort.Function object h = absurd (none-some object h)

  -- the one object of a root
  record IsOwn (r : ℕ) (object : Object) : Type 0 where
    root : Root
    is : object.root ≡ r
    at : root_at program object.root ≡ Some root
    kind : is_single root.kind ≡ true

  at_start : (r : ℕ) (object : Object) → object_at_start program strings r ≡ Some object → IsOwn r object
  at_start r object h =
      let found = chained (λ (root : Root). object_of_kind strings r root root.kind) (slice_get program.roots r) object h in
      let own = kind_first r found.0 found.0.kind object found.2 in
      record { root = found.0; is = own.0; at = ap (λ n. slice_get program.roots n) own.0 ∙ found.1; kind = own.1 }

  least : (r n : ℕ) → r ≡ n → r < suc n
  least r n h = omega (arith, h)

  less : (r n : ℕ) → r < n → r < suc n
  less r n h = omega (arith, h)

  higher : {n : ℕ} {object : Object} → IsFirst n object → IsFirst (suc n) object
  higher {n} {object} is = record { root = is.root; at = is.at; kind = is.kind; below = elim is.below [ inl args ↦ inl args | inr beneath ↦ inr (less object.root n beneath) ] }

  below_first : (n o : ℕ) (object : Object) → slice_get (objects_below program strings n) o ≡ Some object → IsFirst n object
  below_first zero o object there = strings_first o object there
  below_first (suc n) o object there = elim (split (objects_below program strings n) (listed (object_at_start program strings n)) o object there) [
    | inl old ↦ higher (below_first n o object old)
    | inr last ↦ let own = at_start n object (listed_one (object_at_start program strings n) last.0 object last.2) in record
        { root = own.root; at = own.at; kind = inr own.kind; below = inr (least object.root n own.is) }
  ]

  -- the root isn't that of main's arguments
  abbrev IsNoArgs : ℕ → Type 0
  IsNoArgs r = (root : Root) → root_at program r ≡ Some root → is_args root.kind ≡ true → ⊥

  not_least : (r n : ℕ) → r < n → r ≡ n → ⊥
  not_least r n h k = omega (arith, h, k)

  -- so one of such a root is below n
  lower : {n : ℕ} {object : Object} → IsFirst n object → IsNoArgs object.root → object.root < n
  lower is no_args = elim is.below [ inl args ↦ absurd (no_args is.root is.at args) | inr beneath ↦ beneath ]

  -- and a root has one at most
  below_once : (n o q : ℕ) (a b : Object) → slice_get (objects_below program strings n) o ≡ Some a → slice_get (objects_below program strings n) q ≡ Some b → a.root ≡ b.root → IsNoArgs a.root → o ≡ q
  below_once zero o q a b there_a there_b same no_args = absurd (none_below a.root (lower (strings_first o a there_a) no_args))
    where
      none_below : (r : ℕ) → r < 0 → ⊥
      none_below r h = omega (arith, h)
  below_once (suc n) o q a b there_a there_b same no_args = elim (split old_ones (listed last_one) o a there_a) [
    | inl old_a ↦ elim (split old_ones (listed last_one) q b there_b) [
      | inl old_b ↦ below_once n o q a b old_a old_b same no_args
      | inr last_b ↦ absurd (not_least a.root n (lower (below_first n o a old_a) no_args) (same ∙ (at_start n b (listed_one last_one last_b.0 b last_b.2)).is))
    ]
    | inr last_a ↦ elim (split old_ones (listed last_one) q b there_b) [
      | inl old_b ↦ absurd (not_least b.root n (lower (below_first n q b old_b) (subst IsNoArgs same no_args)) (sym same ∙ (at_start n a (listed_one last_one last_a.0 a last_a.2)).is))
      | inr last_b ↦ last_a.1 ∙ ap (λ k. length old_ones + k) (listed_first last_one last_a.0 a last_a.2 ∙ sym (listed_first last_one last_b.0 b last_b.2)) ∙ sym last_b.1
    ]
  ]
    where
      old_ones : List Object
      old_ones = objects_below program strings n

      last_one : Option Object
      last_one = object_at_start program strings n

  -- ---- and after them

  -- what an object at the start was before
  bare_of : (o : ℕ) (object : Object) → slice_get (first_objects program strings) o ≡ Some object →
      (bare : Object) × (slice_get (bare_objects program strings) o ≡ Some bare) × (object.root ≡ bare.root)
  bare_of o object there =
      let root : slice_get (map (λ (x : Object). x.root) (bare_objects program strings)) o ≡ Some object.root =
      ap (λ rs. slice_get rs o) (sym (first_roots program strings)) ∙ (slice_get-map (λ (x : Object). x.root) (first_objects program strings) o ∙ ap (λ x. option_map (λ
      (x : Object). x.root) x) there) in
      mapped_from (λ (x : Object). x.root) (bare_objects program strings) o object.root root

  -- the kind of the root of an object at the start
  first_kind : (o : ℕ) (object : Object) (root : Root) → slice_get (first_objects program strings) o ≡ Some object → root_at program object.root ≡ Some root →
      (is_args root.kind ≡ true) ⊎ (is_single root.kind ≡ true)
  first_kind o object root there at =
      let bare = bare_of o object there in
      let is = below_first (length program.roots) o bare.0 bare.1 in
      let same : is.root ≡ root = same_Some is.root root (sym is.at ∙ (ap (λ r. root_at program r) (sym bare.2) ∙ at)) in
      subst (λ (x : Root). (is_args x.kind ≡ true) ⊎ (is_single x.kind ≡ true)) same is.kind

  first_once : (o q : ℕ) (a b : Object) → slice_get (first_objects program strings) o ≡ Some a → slice_get (first_objects program strings) q ≡ Some b → a.root ≡ b.root → IsNoArgs a.root → o ≡ q
  first_once o q a b there_a there_b same no_args =
      let bare_a = bare_of o a there_a in
      let bare_b = bare_of q b there_b in
      below_once (length program.roots) o q bare_a.0 bare_b.0 bare_a.1 bare_b.1 (sym bare_a.2 ∙ (same ∙ bare_b.2)) (subst IsNoArgs bare_a.2 no_args)

  -- ---- with main's locals

  abbrev pub roots_of : List Object → List ℕ
  roots_of objects = map (λ (home : Home). home.root) (map (λ (object : Object). home_of object.root []) objects)

  made_of : (objects : List Object) (o r : ℕ) → IsMade program (roots_of objects) o r → (object : Object) × (slice_get objects o ≡ Some object) × (r ≡ object.root)
  made_of objects o r made =
      let home = mapped_from (λ (home : Home). home.root) (map (λ (object : Object). home_of object.root []) objects) o r made in
      let object = mapped_from (λ (object : Object). home_of object.root []) objects o home.0 home.1 in
      (object.0, object.1, home.2 ∙ ap (λ (home : Home). home.root) object.2)

  -- objects of main's locals, each of its own
  pub record AreOfMain (own : List Object) : Type 0 where
    pub local : (k : ℕ) (object : Object) → slice_get own k ≡ Some object → IsLocalOf program program.main object.root
    pub once : (i k : ℕ) (a b : Object) → slice_get own i ≡ Some a → slice_get own k ≡ Some b → a.root ≡ b.root → i ≡ k

  pub none_of_main : AreOfMain []
  none_of_main = record { local = λ k object there. absurd (none-some object there); once = λ i k a b there_a there_b same. absurd (none-some a there_a) }

  pub locals_of_main : (values : List Value) → AreOfMain (local_objects program program.main values)
  locals_of_main values = record { local = local; once = once }
    where
      root_is : (k : ℕ) (object : Object) → slice_get (local_objects program program.main values) k ≡ Some object → slice_get (locals_of program program.main) k ≡ Some object.root
      root_is k object there =
          let found = mapped_from (local_object program program.main values) (locals_of program program.main) k object there in
          found.1 ∙ ap (λ r. Some r) (sym (ap (λ (x : Object). x.root) found.2 ∙ local_object_root program program.main values found.0))

      local : (k : ℕ) (object : Object) → slice_get (local_objects program program.main values) k ≡ Some object → IsLocalOf program program.main object.root
      local k object there = local_root program program.main k object.root (root_is k object there)

      once : (i k : ℕ) (a b : Object) → slice_get (local_objects program program.main values) i ≡ Some a → slice_get (local_objects program program.main values) k ≡ Some b → a.root ≡ b.root → i ≡ k
      once i k a b there_a there_b same = locals_differ program program.main i k b.root (root_is i a there_a ∙ ap (λ r. Some r) same) (root_is k b there_b)

  module _ (own : List Object) (of_main : AreOfMain own) where
    abbrev front : List Object
    front = first_objects program strings

    -- an object at the start is of static storage, or a local of main
    data Is (o : ℕ) (object : Object) : Type 0 where
      in_front : slice_get front o ≡ Some object → Is o object
      in_own : (k : ℕ) → o ≡ length front + k → slice_get own k ≡ Some object → Is o object

    which : (o : ℕ) (object : Object) → slice_get (front ++ own) o ≡ Some object → Is o object
    which o object there = elim (split front own o object there) [ inl first ↦ in_front first | inr second ↦ in_own second.0 second.1 second.2 ]

    -- of a root that is there
    module _ (r : ℕ) (root : Root) (at : root_at program r ≡ Some root) where
      static_kind : (o : ℕ) (object : Object) → r ≡ object.root → slice_get front o ≡ Some object → (is_args root.kind ≡ true) ⊎ (is_single root.kind ≡ true)
      static_kind o object is there = first_kind o object root there (ap (λ n. root_at program n) (sym is) ∙ at)

      local_kind : (k : ℕ) (object : Object) → r ≡ object.root → slice_get own k ≡ Some object → (root.kind ≡ sort.Local) × (root.function ≡ Some program.main)
      local_kind k object is there =
          let found = of_main.local k object there in
          let same : root ≡ found.0 = same_Some root found.0 (sym at ∙ (ap (λ n. root_at program n) is ∙ found.1)) in
          (ap (λ (x : Root). x.kind) same ∙ found.2, ap (λ (x : Root). x.function) same ∙ found.3)

      of_local : (o : ℕ) (object : Object) → r ≡ object.root → Is o object → root.kind ≡ sort.Local → (f : ℕ) → root.function ≡ Some f → f ≡ program.main
      of_local o object is (in_front there) kind f function = absurd (single_or_local root.kind (static_kind o object is there) kind)
      of_local o object is (in_own k place there) kind f function = same_Some f program.main (sym function ∙ (local_kind k object is there).1)

      of_heap : (o : ℕ) (object : Object) → r ≡ object.root → Is o object → (one : Bool) → root.kind ≡ sort.Heap one → ⊥
      of_heap o object is (in_front there) one kind = single_or_heap root.kind one (static_kind o object is there) kind
      of_heap o object is (in_own k place there) one kind = local_or_heap one (sym (local_kind k object is there).0 ∙ kind)

      no_args : IsOneOfKind program root.kind root → IsNoArgs r
      no_args one other other_at args = args_many program root.kind root (ap (λ (x : Root). is_args x.kind) (same_Some root other (sym at ∙ other_at)) ∙ args) one

      once : (o q : ℕ) (a b : Object) → r ≡ a.root → r ≡ b.root → IsOneOfKind program root.kind root → Is o a → Is q b → o ≡ q
      once o q a b is_a is_b one (in_front there_a) (in_front there_b) = first_once o q a b there_a there_b (sym is_a ∙ is_b) (subst IsNoArgs is_a (no_args one))
      once o q a b is_a is_b one (in_front there_a) (in_own k place there_b) = absurd (single_or_local root.kind (static_kind o a is_a there_a) (local_kind k b is_b there_b).0)
      once o q a b is_a is_b one (in_own k place there_a) (in_front there_b) = absurd (single_or_local root.kind (static_kind q b is_b there_b) (local_kind k a is_a there_a).0)
      once o q a b is_a is_b one (in_own k place_a there_a) (in_own i place_b there_b) = place_a ∙ ap (λ n. length front + n) (of_main.once k i a b there_a there_b (sym is_a ∙ is_b)) ∙ sym place_b

    -- so the roots are those of a start
    pub start_roots : AreFirstRoots program (roots_of (front ++ own))
    start_roots = record {
      locals_of = λ o r f root made at kind function. (let object = made_of (front ++ own) o r made in of_local r root at o object.0 object.2 (which o object.0 object.1) kind f function);
      heaps = λ o r root one made at kind. (let object = made_of (front ++ own) o r made in of_heap r root at o object.0 object.2 (which o object.0 object.1) one kind);
      singles = λ o q r root made_o made_q at one.
          (let a = made_of (front ++ own) o r made_o in let b = made_of (front ++ own) q r made_q in once r root at o q a.0 b.0 a.2 b.2 one (which o a.0 a.1) (which q b.0 b.1));
    }
