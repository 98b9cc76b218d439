-- The objects at the start: what their cells hold is right, in the empty context.
use Rattle.std.proofs.Common.{◌≡◌, ℕ, zero, suc, ◌<◌, ◌+◌, Bool, true, false, List, [], ◌∷◌, map, fold, length, Option, None, Some, inl, inr, refl, sym, ap, subst, ◌∙◌, ℤ, arith}
use Rattle.std.proofs.lemmas.Option.{none-some, same_Some, slice_get-map}
use Rattle.std.specs.List.{position_from}
use Rattle.std.specs.Option.{option_map, option_map_or}
use Rattle.std.specs.Prelude.{slice_get, slice_set, if◌then◌else◌, nat_eq}
use Rattle.std.proofs.lemmas.Bool.{false≢true}
use Rattle.std.proofs.lemmas.Bool.Decides.{nat_tests}
use Rattle.lk_base.specs.declared.cell.CellStep.{CellStep}
use Rattle.lk_base.specs.declared.cell.CellStep.TheVariants.{Index}
use Rattle.lk_base.specs.declared.kind.Kind.{Kind}
use Rattle.lk_birth.specs.Begins.{StartsRight}
use Rattle.lk_birth.specs.Births.{changed_at, listed}
use Rattle.lk_birth.specs.Starts.{static_object, root_of, string_object, strings_of, string_objects, object_of_kind, object_at_start, objects_below, bare_objects, first_value_of, first_in, with_first, initialised, first_objects}
use Rattle.lk_cells.specs.Cells.{form_at, int_kind, object_of_root, with_value}
use Rattle.lk_cells.specs.declared.object.Object.{Object}
use Rattle.lk_facts.specs.EdgeRules.{IsRootOf}
use Rattle.lk_facts.specs.Initials.{IsWritten}
use Rattle.lk_facts.specs.Labels.{LabelTable}
use Rattle.lk_facts.specs.Lowered.{HasPart, MayBegin}
use Rattle.lk_facts.specs.Program.{root_at, is_args}
use Rattle.lk_facts.specs.Typed.{IsForm}
use Rattle.lk_facts.specs.declared.edge.Edge.{Edge}
use Rattle.lk_facts.specs.declared.initial.Initial.{Initial}
use Rattle.lk_facts.specs.declared.initial.InitialValue.{InitialValue}
use Rattle.lk_facts.specs.declared.initial.InitialValue.TheVariants as begun
use Rattle.lk_facts.specs.declared.program.Program.{Program}
use Rattle.lk_facts.specs.declared.root.Root.{Root}
use Rattle.lk_facts.specs.declared.root.RootKind.{RootKind}
use Rattle.lk_facts.specs.declared.root.RootKind.TheVariants as sort
use Rattle.lk_right.proofs.Rooted.{position_found}
use Rattle.lk_right.proofs.Written.{written_address, written_function}
use Rattle.lk_right.specs.Contexts.{Home, home_of}
use Rattle.lk_right.specs.Laws.{IsAnalysed}
use Rattle.lk_right.specs.Right.{IsPlaceAt, IsRight}
use Rattle.lk_sound.proofs.Elements.{left_there, split, changed_cases}
use Rattle.lk_sound.proofs.StartCells.{IsGood, good_put, static_good, bytes_good, pointers_good}
use Rattle.lk_types.specs.declared.c_type.CType.{CType}
use Rattle.lk_types.specs.declared.c_type.CType.TheVariants.{Pointer as PointerType}
use Rattle.lk_values.proofs.Reasons.{mapped, chained}
use Rattle.lk_values.specs.Pointers.{pointer_to, pointer_past}
use Rattle.lk_values.specs.declared.value.Value.{Value}
use Rattle.lk_values.specs.declared.value.Value.TheVariants.{Number, Pointer, Function, Null}

-- ---- lists

-- where one passes the test, a search finds one
pub search_finds : {X : Type 0} (test : X → Bool) (n : ℕ) (xs : List X) (k : ℕ) (x : X) → slice_get xs k ≡ Some x → test x ≡ true → (i : ℕ) × (position_from test n xs ≡ Some i)
search_finds test n [] k x there passes = absurd (none-some x there)
search_finds {X} test n (y ∷ xs) k x there passes = by (test y) refl (λ j later. search_finds test (n + 1) xs j x later passes) k there
  where
    by : (b : Bool) → test y ≡ b → ((j : ℕ) → slice_get xs j ≡ Some x → (i : ℕ) × (position_from test (n + 1) xs ≡ Some i)) → (k : ℕ) → slice_get (y ∷ xs) k ≡ Some x → (i : ℕ) × ((if b then Some n else position_from test (n + 1) xs) ≡ Some i)
    by true is later k there = (n, refl)
    by false is later zero there = absurd (false≢true (sym is ∙ (ap test (same_Some y x there) ∙ passes)))
    by false is later (suc k) there = later k there

pub listed_one : {X : Type 0} (o : Option X) (k : ℕ) (x : X) → slice_get (listed o) k ≡ Some x → o ≡ Some x
listed_one None k x h = absurd (none-some x h)
listed_one (Some y) zero x h = h
listed_one (Some y) (suc k) x h = absurd (none-some x h)

-- an element that is changed, and keeps its image
map_set : {X Y : Type 0} (f : X → Y) (xs : List X) (i : ℕ) (x y : X) → slice_get xs i ≡ Some x → f y ≡ f x → map f (slice_set xs i y) ≡ map f xs
map_set f [] i x y there same = refl
map_set f (z ∷ xs) zero x y there same = ap (λ v. v ∷ map f xs) (same ∙ ap f (sym (same_Some z x there)))
map_set f (z ∷ xs) (suc i) x y there same = ap (λ vs. f z ∷ vs) (map_set f xs i x y there same)

map_changed : {X Y : Type 0} (f : X → Y) (xs : List X) (i : ℕ) (g : X → X) → ((x : X) → f (g x) ≡ f x) → map f (changed_at xs i g) ≡ map f xs
map_changed {X} f xs i g same = by (slice_get xs i) refl
  where
    by : (found : Option X) → slice_get xs i ≡ found → map f (option_map_or (λ x. slice_set xs i (g x)) found xs) ≡ map f xs
    by None is = refl
    by (Some x) is = map_set f xs i x (g x) is (same x)

-- what holds of a list as far as it is folded
fold_keeps : {X Y : Type 0} (f : X → Y → X) (P : X → Type 0) (ys : List Y) → ((i : ℕ) (y : Y) → slice_get ys i ≡ Some y → (x : X) → P x → P (f x y)) → (x : X) → P x → P (fold f x ys)
fold_keeps f P [] keeps x is = is
fold_keeps f P (y ∷ ys) keeps x is = fold_keeps f P ys (λ i z there. keeps (suc i) z there) (f x y) (keeps 0 y refl x is)

abbrev pub roots_in : List Object → List ℕ
roots_in objects = map (λ object. object.root) objects

-- ---- what initialisers put

-- they keep the roots of objects
module _ (program : Program) where
  first_root : (objects : List Object) (entry : Initial) (object : Object) → (with_first program objects entry object).root ≡ object.root
  first_root objects entry object = by (first_in program objects entry object)
    where
      by : (first : Option Value) → (option_map_or (with_value object entry.path) first object).root ≡ object.root
      by None = refl
      by (Some v) = refl

  initialised_roots : (objects : List Object) (entry : Initial) → roots_in (initialised program objects entry) ≡ roots_in objects
  initialised_roots objects entry = by (object_of_root objects entry.root)
    where
      by : (found : Option ℕ) → roots_in (option_map_or (λ o. changed_at objects o (with_first program objects entry)) found objects) ≡ roots_in objects
      by None = refl
      by (Some o) = map_changed (λ (x : Object). x.root) objects o (with_first program objects entry) (first_root objects entry)

  pub first_roots : (strings : List (List ℕ)) → roots_in (first_objects program strings) ≡ roots_in (bare_objects program strings)
  first_roots strings =
      fold_keeps (initialised program) (λ objects. roots_in objects ≡ roots_in (bare_objects program strings)) program.initials (λ i entry there objects is. initialised_roots objects entry ∙ is) (bare_objects program strings) refl

module _ (program : Program) (labels : LabelTable) (es : List Edge) (ok : IsAnalysed program labels es) (begins : StartsRight program) (homes : List Home) (roots : List ℕ) (covered : (o r : ℕ) → slice_get roots o ≡ Some r → slice_get homes o ≡ Some (home_of r [])) where
  abbrev Good : Object → Type 0
  Good object = IsGood program labels es homes object

  abbrev pub AreGood : List Object → Type 0
  AreGood objects = (o : ℕ) (object : Object) → slice_get objects o ≡ Some object → Good object

  -- an object is at home in its root
  pub at_home : (objects : List Object) → roots_in objects ≡ roots → (o : ℕ) (object : Object) → slice_get objects o ≡ Some object → slice_get homes o ≡ Some (home_of object.root [])
  at_home objects same o object there = covered o object.root (ap (λ rs. slice_get rs o) (sym same) ∙ (slice_get-map (λ (x : Object). x.root) objects o ∙ ap (λ x. option_map (λ (x : Object). x.root) x) there))

  root_equal : (a b : ℕ) → nat_eq a b ≡ true → a ≡ b
  root_equal a b h = grind (arith, nat_tests, h)

  -- the first object of a root
  pub first_home : (objects : List Object) → roots_in objects ≡ roots → (r o : ℕ) → object_of_root objects r ≡ Some o → slice_get homes o ≡ Some (home_of r [])
  first_home objects same r o h =
      let found = position_found (λ (object : Object). nat_eq object.root r) objects o h in
      at_home objects same o found.item found.there ∙ ap (λ q. Some (home_of q [])) (root_equal found.item.root r found.passes)

  abbrev IsRightIn : Initial → Value → Type 0
  IsRightIn entry v = IsRight program labels es homes v (IsPlaceAt program entry.root entry.path) []

  module _ (objects : List Object) (same : roots_in objects ≡ roots) (i : ℕ) (entry : Initial) (at : slice_get program.initials i ≡ Some entry) (o : ℕ) (lives : slice_get homes o ≡ Some (home_of entry.root [])) where
    address_in : (t u r : ℕ) (path : List CellStep) (past : Bool) (q : ℕ) → HasPart program entry.root entry.path t → IsForm program.types t (PointerType u) → IsWritten program entry (begun.Address r path past) → object_of_root objects r ≡ Some q →
        IsRightIn entry (Pointer (record { part = record { object = q; path = path }; past = past }))
    address_in t u r path past q part form written found = written_address program labels es ok homes begins entry t u part form o lives written.0 r path past written.2 written.1 q (first_home objects same r q found)

    number_in : (form : Option Kind) (n : ℤ) (v : Value) → option_map (λ kind. Number kind n) form ≡ Some v → IsRightIn entry v
    number_in None n v h = absurd (none-some v h)
    number_in (Some kind) n v h = subst (IsRightIn entry) (same_Some (Number kind n) v h) tt

    -- what a cell begins with is right for it
    value_in : (form : CType) (v : Value) (t : ℕ) → HasPart program entry.root entry.path t → (value : InitialValue) → MayBegin program t value → IsWritten program entry value → first_value_of objects form value ≡ Some v → IsRightIn entry v
    value_in form v t part (begun.Number n) may written h = number_in (int_kind form) n v h
    value_in form v t part begun.Null may written h = subst (IsRightIn entry) (same_Some Null v h) tt
    value_in form v t part (begun.Function f) may written h =
        subst (IsRightIn entry) (same_Some (Function f) v h) (written_function program labels es ok homes begins entry t may.0 part may.2 o lives written.0 f written.2 written.1)
    value_in form v t part (begun.Address r path false) may written h =
        let found = mapped (λ q. Pointer (pointer_to q path)) (object_of_root objects r) v h in
        subst (IsRightIn entry) found.2 (address_in t may.0 r path false found.0 part may.1 written found.1)
    value_in form v t part (begun.Address r path true) may written h =
        let found = mapped (λ q. Pointer (pointer_past q path)) (object_of_root objects r) v h in
        subst (IsRightIn entry) found.2 (address_in t may.0 r path true found.0 part may.1 written found.1)
    value_in form v t part begun.Ready may written h = absurd (none-some v h)

    first_right : (object : Object) (v : Value) → first_in program objects entry object ≡ Some v → IsRightIn entry v
    first_right object v h =
        let found = chained (λ form. first_value_of objects form entry.value) (form_at program.types object entry.path) v h in
        let initial = ok.lowered.initials i entry at in
        value_in found.0 v initial.0 initial.1 entry.value initial.2 (ok.lowered.written i entry at) found.2

    first_good : (object : Object) → Good object → object.root ≡ entry.root → Good (with_first program objects entry object)
    first_good object good root = by (first_in program objects entry object) refl
      where
        by : (first : Option Value) → first_in program objects entry object ≡ first → Good (option_map_or (with_value object entry.path) first object)
        by None is = good
        by (Some v) is = good_put program labels es homes object entry.path v good (subst (λ r. IsRight program labels es homes v (IsPlaceAt program r entry.path) []) (sym root) (first_right object v is))

  -- the objects as far as the initialisers are performed
  pub record AreReady (objects : List Object) : Type 0 where
    pub good : AreGood objects
    pub same : roots_in objects ≡ roots

  initialised_ready : (i : ℕ) (entry : Initial) → slice_get program.initials i ≡ Some entry → (objects : List Object) → AreReady objects → AreReady (initialised program objects entry)
  initialised_ready i entry at objects ready = by (object_of_root objects entry.root) refl
    where
      by : (found : Option ℕ) → object_of_root objects entry.root ≡ found → AreReady (option_map_or (λ o. changed_at objects o (with_first program objects entry)) found objects)
      by None is = ready
      by (Some o) is = record {
        good = λ n y there. elim (changed_cases objects o n (with_first program objects entry) y there) [
          | inl old ↦ ready.good n y old
          | inr new ↦ (
              let found = position_found (λ (object : Object). nat_eq object.root entry.root) objects o is in
              let one : found.item ≡ new.1.0 = same_Some found.item new.1.0 (sym found.there ∙ new.1.1) in
              let root : new.1.0.root ≡ entry.root = ap (λ (x : Object). x.root) (sym one) ∙ root_equal found.item.root entry.root found.passes in
              subst Good (sym new.1.2) (first_good objects ready.same i entry at o (first_home objects ready.same entry.root o is) new.1.0 (ready.good o new.1.0 new.1.1) root)
              )
        ];
        same = map_changed (λ (x : Object). x.root) objects o (with_first program objects entry) (first_root program objects entry) ∙ ready.same;
      }

  pub first_ready : (strings : List (List ℕ)) → AreReady (bare_objects program strings) → AreReady (first_objects program strings)
  first_ready strings ready = fold_keeps (initialised program) AreReady program.initials (λ i entry at objects is. initialised_ready i entry at objects is) (bare_objects program strings) ready

  -- ---- objects before the initialisers

  string_good : (r : ℕ) (root : Root) → root_at program r ≡ Some root → (text : List ℕ) → Good (string_object r root.ty text)
  string_good r root at text = bytes_good program labels es homes (static_object r root.ty (length text + 1)) text (static_good program labels es homes r (length text + 1) root at)

  strings_good : (strings : List (List ℕ)) → AreGood (string_objects program strings)
  strings_good strings o object there = by (root_of is_args program) there
    where
      by_root : (r : ℕ) (found : Option Root) → slice_get program.roots r ≡ found → slice_get (option_map_or (λ root. map (string_object r root.ty) strings) found []) o ≡ Some object → Good object
      by_root r None is h = absurd (none-some object h)
      by_root r (Some root) is h =
          let found = mapped (string_object r root.ty) (slice_get strings o) object (sym (slice_get-map (string_object r root.ty) strings o) ∙ h) in
          subst Good found.2 (string_good r root is found.0)

      by : (found : Option ℕ) → slice_get (option_map_or (strings_of program strings) found []) o ≡ Some object → Good object
      by None h = absurd (none-some object h)
      by (Some r) h = by_root r (slice_get program.roots r) refl h

  module _ (strings : List (List ℕ)) (pointers : (q : ℕ) → IsRootOf program sort.Argv q → (i : ℕ) → i < length strings → IsRight program labels es homes (Pointer (pointer_to i (Index 0 ∷ []))) (IsPlaceAt program q (Index i ∷ [])) []) where
    kind_good : (r : ℕ) (root : Root) → root_at program r ≡ Some root → (kind : RootKind) → root.kind ≡ kind → (object : Object) → object_of_kind strings r root kind ≡ Some object → Good object
    kind_good r root at sort.Global is object h = subst Good (same_Some _ object h) (static_good program labels es homes r 1 root at)
    kind_good r root at sort.Static is object h = subst Good (same_Some _ object h) (static_good program labels es homes r 1 root at)
    kind_good r root at sort.Local is object h = absurd (none-some object h)
    kind_good r root at (sort.Heap one) is object h = absurd (none-some object h)
    kind_good r root at sort.Text is object h =
        subst Good (same_Some _ object h) (bytes_good program labels es homes (static_object r root.ty (length root.bytes)) root.bytes (static_good program labels es homes r (length root.bytes) root at))
    kind_good r root at sort.Argv is object h =
        subst Good (same_Some _ object h)
        (pointers_good program labels es homes (static_object r root.ty (length strings + 1)) (length strings) (static_good program labels es homes r (length strings + 1) root at) (λ i less. pointers r (root, at, is) i less))
    kind_good r root at sort.Args is object h = absurd (none-some object h)
    kind_good r root at sort.Function is object h = absurd (none-some object h)

    at_start_good : (r : ℕ) (object : Object) → object_at_start program strings r ≡ Some object → Good object
    at_start_good r object h =
        let found = chained (λ (root : Root). object_of_kind strings r root root.kind) (slice_get program.roots r) object h in
        kind_good r found.0 found.1 found.0.kind refl object found.2

    pub below_good : (n : ℕ) → AreGood (objects_below program strings n)
    below_good zero o object there = strings_good strings o object there
    below_good (suc n) o object there = elim (split (objects_below program strings n) (listed (object_at_start program strings n)) o object there) [
      | inl first ↦ below_good n o object first
      | inr second ↦ at_start_good n object (listed_one (object_at_start program strings n) second.0 object second.2)
    ]

-- the objects of the strings come first
pub strings_first : (program : Program) (strings : List (List ℕ)) (n i : ℕ) (object : Object) → slice_get (string_objects program strings) i ≡ Some object → slice_get (objects_below program strings n) i ≡ Some object
strings_first program strings zero i object there = there
strings_first program strings (suc n) i object there = left_there (objects_below program strings n) (listed (object_at_start program strings n)) i object (strings_first program strings n i object there)
