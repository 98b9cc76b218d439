-- The places of cells in a sound state: each has an origin, which is a lock's where a mutex is there, and a location is no lock place.
use Rattle.std.proofs.Common.{◌≡◌, ◌<◌, ◌≤◌, ℕ, Bool, true, false, List, Option, Some, None, inl, inr, refl, sym, ap, subst, ◌∙◌}
use Rattle.std.proofs.lemmas.Bool.{cases_lt, false≢true}
use Rattle.std.proofs.lemmas.Option.{none-some, same_Some, slice_get_within}
use Rattle.std.specs.List.{slice_get}
use Rattle.std.specs.Option.{option_map, option_map_or, option_and_then}
use Rattle.std.specs.Prelude.{if◌then◌else◌, unwrap_or}
use Rattle.lk_base.specs.declared.cell.CellStep.{CellStep}
use Rattle.lk_cells.specs.Cells.{form_at, found_at, first_mutex, kind_at, kind_of, mutex_at}
use Rattle.lk_cells.specs.Parts.{form_of as form_in, node_along, type_along}
use Rattle.lk_cells.specs.declared.kind.CellKind.{CellKind}
use Rattle.lk_cells.specs.declared.kind.CellKind.TheVariants as cell
use Rattle.lk_cells.specs.declared.object.Object.{Object}
use Rattle.lk_cells.specs.declared.state.State.{State}
use Rattle.lk_facts.specs.Basis.{Basis}
use Rattle.lk_facts.specs.LabelRules.{form_of}
use Rattle.lk_facts.specs.Labels.{is_lock_at}
use Rattle.lk_facts.specs.Program.{IsLocation}
use Rattle.lk_facts.specs.Typed.{IsRootType}
use Rattle.lk_facts.specs.declared.edge.Edge.{Edge}
use Rattle.lk_facts.specs.declared.label_entry.LabelEntry.{LabelEntry}
use Rattle.lk_facts.specs.declared.label_entry.LabelName.{LabelName}
use Rattle.lk_facts.specs.declared.program.Program.{Program}
use Rattle.lk_facts.specs.declared.root.Root.{Root as RootOf}
use Rattle.lk_meaning.specs.Laws.{Owns}
use Rattle.lk_meaning.specs.Locations.{HasLocation, has_locations, is_value, node_in, node_at}
use Rattle.lk_right.proofs.Paths.{typed_node}
use Rattle.lk_right.specs.Contexts.{Home, Contexts}
use Rattle.lk_right.specs.Laws.{IsAnalysed}
use Rattle.lk_right.specs.Right.{IsPlaceAt}
use Rattle.lk_right.specs.Sound.{IsObjectSound, IsSound}
use Rattle.lk_safe.specs.Owners.{IsAt}
use Rattle.lk_sound.proofs.PlaceNumbers.{element_at}
use Rattle.lk_sound.specs.Soundness.{HasOrigin}
use Rattle.lk_types.specs.Nodes.{Node, node_of, first}
use Rattle.lk_types.specs.Objects.{is_mutex}
use Rattle.lk_types.specs.Table.{Table, type_at}
use Rattle.lk_types.specs.declared.c_type.CType.{CType}
use Rattle.lk_types.specs.declared.c_type.CType.TheVariants.{Void, Int, ThreadId, Mutex, Cond, Pointer, Array, Struct, Function, Opaque}
use Rattle.lk_types.specs.declared.node.Base.TheVariants.{Start}
use Rattle.lk_types.specs.declared.node.NodeId.{NodeId}
use Rattle.lk_values.proofs.Reasons.{mapped, chained}
use Rattle.lk_values.specs.declared.cell.Cell.{Cell}
use Rattle.lk_values.specs.declared.value.Mutex.{Mutex as MutexIn}
use Rattle.lk_values.specs.declared.value.Mutex.TheVariants.{Owned}

-- ---- what a cell is, by the form of its type

value_or_mutex : Some cell.Value ≡ Some cell.Mutex → ⊥
value_or_mutex h = cc

condition_or_mutex : Some cell.Condition ≡ Some cell.Mutex → ⊥
condition_or_mutex h = cc

mutex_form : (form : CType) → kind_of form ≡ Some cell.Mutex → is_mutex form ≡ true
mutex_form Void h = absurd (none-some cell.Mutex h)
mutex_form (Int k) h = absurd (value_or_mutex h)
mutex_form ThreadId h = absurd (value_or_mutex h)
mutex_form Mutex h = refl
mutex_form Cond h = absurd (condition_or_mutex h)
mutex_form (Pointer t) h = absurd (value_or_mutex h)
mutex_form (Array t n) h = absurd (none-some cell.Mutex h)
mutex_form (Struct s) h = absurd (none-some cell.Mutex h)
mutex_form (Function result params dots) h = absurd (none-some cell.Mutex h)
mutex_form (Opaque n) h = absurd (none-some cell.Mutex h)

-- a cell with a value is of no mutex's form
value_form : (form : CType) → is_value (kind_of form) ≡ true → is_mutex form ≡ true → ⊥
value_form Void h m = false≢true h
value_form (Int k) h m = false≢true m
value_form ThreadId h m = false≢true m
value_form Mutex h m = false≢true h
value_form Cond h m = false≢true h
value_form (Pointer t) h m = false≢true m
value_form (Array t n) h m = false≢true h
value_form (Struct s) h m = false≢true h
value_form (Function result params dots) h m = false≢true h
value_form (Opaque n) h m = false≢true h

module _ (table : Table) (object : Object) (path : List CellStep) where
  abbrev mutex_of : CellKind → Option MutexIn
  mutex_of cell.Value = None
  mutex_of cell.Mutex = Some (unwrap_or (found_at object.mutexes path) (first_mutex object.initial))
  mutex_of cell.Condition = None

  is_mutex_kind : (kind : CellKind) (m : MutexIn) → mutex_of kind ≡ Some m → kind ≡ cell.Mutex
  is_mutex_kind cell.Value m h = absurd (none-some m h)
  is_mutex_kind cell.Mutex m h = refl
  is_mutex_kind cell.Condition m h = absurd (none-some m h)

  -- where a mutex is, the form is a mutex's
  mutex_at_form : (m : MutexIn) → mutex_at table object path ≡ Some m → (form : CType) × (form_at table object path ≡ Some form) × (is_mutex form ≡ true)
  mutex_at_form m h =
      let kind = chained mutex_of (kind_at table object path) m h in
      let form = chained kind_of (form_at table object path) kind.0 kind.1 in
      (form.0, form.1, mutex_form form.0 (form.2 ∙ ap (λ k. Some k) (is_mutex_kind kind.0 m kind.2)))

  -- and where a value is, it isn't
  value_at_form : is_value (kind_at table object path) ≡ true → (form : CType) × (form_at table object path ≡ Some form) × (is_mutex form ≡ true → ⊥)
  value_at_form h = by (form_at table object path) refl h
    where
      by : (found : Option CType) → form_at table object path ≡ found → is_value (option_and_then kind_of found) ≡ true →
          (form : CType) × (form_at table object path ≡ Some form) × (is_mutex form ≡ true → ⊥)
      by None is h = absurd (false≢true h)
      by (Some form) is h = (form, is, λ m. value_form form h m)

-- the form of the part to which a path leads is that of the node to which it leads
form_along : (table : Table) (own t : ℕ) (path : List CellStep) (form : CType) → option_and_then (form_in table) (type_along table own path t) ≡ Some form →
    (n : Node) → node_along table (first (Start t)) path ≡ Some n → type_at table n.type ≡ form
form_along table own t path form h n leads =
    let found = chained (form_in table) (type_along table own path t) form h in
    let node = typed_node table own t path found.0 found.1 in
    ap (λ (x : Node). type_at table x.type) (same_Some n node.0 (sym leads ∙ node.1)) ∙ (ap (λ u. type_at table u) node.2 ∙ ap (λ o. unwrap_or o Void) found.2)

module _ (program : Program) where
  one_type : (r s t : ℕ) → IsRootType program r s → IsRootType program r t → s ≡ t
  one_type r s t h k = sym h.2 ∙ (ap (λ (root : RootOf). root.ty) (same_Some h.0 k.0 (sym h.1 ∙ k.1)) ∙ k.2)

  -- the form of a part is that of its place
  place_form : (object : Object) (path : List CellStep) (name : LabelName) (form : CType) → IsRootType program object.root object.ty → IsPlaceAt program object.root path name →
      form_at program.types object path ≡ Some form →
      form_of program.types name.node ≡ form
  place_form object path name form typed place h =
      let types = one_type object.root place.ty object.ty place.of typed in
      let leads = subst (λ t. node_along program.types (first (Start t)) path ≡ Some (node_of program.types name.node)) types place.leads in
      form_along program.types object.length object.ty path form h (node_of program.types name.node) leads

-- ---- in a sound state

module _ (basis : Basis) (es : List Edge) (ok : IsAnalysed basis.program basis.labels es) (contexts : Contexts) (s : State) (sound : IsSound basis.program basis.labels es contexts s) where
  -- the object at a home, and the home of an object
  record IsHoused (o : ℕ) : Type 0 where
    object : Object
    home : Home
    there : slice_get s.objects o ≡ Some object
    lives_in : slice_get contexts.homes o ≡ Some home
    is_sound : IsObjectSound basis.program basis.labels es contexts.homes home object

  object_of : (o : ℕ) (home : Home) → slice_get contexts.homes o ≡ Some home → IsHoused o
  object_of o home lives =
      let found = element_at s.objects o (subst (λ n. o < n) sound.objects_many (slice_get_within contexts.homes o home lives)) in
      record { object = found.0; home = home; there = found.1; lives_in = lives; is_sound = sound.objects o found.0 home found.1 lives }

  home_of_object : (o : ℕ) (object : Object) → slice_get s.objects o ≡ Some object → IsHoused o
  home_of_object o object there =
      let found = element_at contexts.homes o (subst (λ n. o < n) (sym sound.objects_many) (slice_get_within s.objects o object there)) in
      record { object = object; home = found.0; there = there; lives_in = found.1; is_sound = sound.objects o object found.0 there found.1 }

  -- a cell at a place has that origin
  pub origin_of : (at : Cell) (o : ℕ) (h : List ℕ) → IsAt basis contexts.homes at o h → HasOrigin basis.program basis.labels s at o
  origin_of at o h is =
      let found = object_of at.object is.home is.lives_in in
      record {
        object = found.object;
        there = found.there;
        name = is.name;
        named = is.named;
        place = subst (λ r. IsPlaceAt basis.program r at.path is.name) (sym (found.is_sound.root ∙ ap (λ (home : Home). home.root) (same_Some found.home is.home
            (sym found.lives_in ∙ is.lives_in)))) is.place;
      }

  -- and one with an origin is at that place
  pub place_of_origin : (at : Cell) (o : ℕ) → HasOrigin basis.program basis.labels s at o → (h : List ℕ) × IsAt basis contexts.homes at o h
  place_of_origin at o is =
      let found = home_of_object at.object is.object is.there in
      let root : is.object.root ≡ found.home.root = ap (λ (object : Object). object.root) (same_Some is.object found.object (sym is.there ∙ found.there)) ∙ found.is_sound.root in (
        found.home.context,
        record { home = found.home; lives_in = found.lives_in; context = refl; name = is.name; named = is.named; place = subst (λ r. IsPlaceAt basis.program r at.path is.name) root is.place },
      )

  typed_object : (o : ℕ) (object : Object) → slice_get s.objects o ≡ Some object → IsRootType basis.program object.root object.ty
  typed_object o object there =
      let found = home_of_object o object there in
      subst (λ (x : Object). IsRootType basis.program x.root x.ty) (same_Some found.object object (sym found.there ∙ there)) found.is_sound.typed

  -- the origin of a mutex that is owned is a lock
  pub lock_origin : (at : Cell) (t o : ℕ) → Owns basis.program s t at → HasOrigin basis.program basis.labels s at o → is_lock_at basis.labels o ≡ true
  lock_origin at t o owns is =
      let found = chained (λ (object : Object). mutex_at basis.program.types object at.path) (slice_get s.objects at.object) (Owned t) owns in
      let form = mutex_at_form basis.program.types found.0 at.path (Owned t) found.2 in
      let same : is.object ≡ found.0 = same_Some is.object found.0 (sym is.there ∙ found.1) in
      let place = subst (λ (object : Object). IsPlaceAt basis.program object.root at.path is.name) same is.place in
      let is_form = place_form basis.program found.0 at.path is.name form.0 (typed_object at.object found.0 found.1) place form.1 in
      let entry = element_at basis.labels.entries o (subst (λ n. o < n) ok.few_labels.named (slice_get_within basis.labels.names o is.name is.named)) in
      ap (λ x. option_map_or (λ (entry : LabelEntry). entry.is_lock) x false) entry.1
      ∙ ((ok.labelled.entries o is.name entry.0 is.named entry.1).lock ∙ (ap is_mutex is_form ∙ form.2))

  -- ---- locations

  -- the object of a cell that has a location: a value is at the cell's path, and the node of the place
  record IsValueAt (at : Cell) (node : NodeId) : Type 0 where
    object : Object
    there : slice_get s.objects at.object ≡ Some object
    value : is_value (kind_at basis.program.types object at.path) ≡ true
    leads : node_along basis.program.types (first (Start object.ty)) at.path ≡ Some (node_of basis.program.types node)

  module _ (at : Cell) (n : ℕ) (location : HasLocation basis.program s at n) where
    abbrev node : Node
    node = node_of basis.program.types location.place.node

    value_object : IsValueAt at location.place.node
    value_object =
        let found = chained (λ (object : Object). node_at basis.program object at.path) (slice_get s.objects at.object) (location.place.root, node) location.is in
        by_value found.0 found.1 (is_value (kind_at basis.program.types found.0 at.path)) refl found.2
      where
        by_kind : (object : Object) (root : RootOf) (b : Bool) → (if b then option_map {U = ℕ × Node} (λ m. (object.root, m)) (node_along basis.program.types (first
            (Start root.ty)) at.path) else None) ≡ Some (location.place.root, node) →
            node_along basis.program.types (first (Start root.ty)) at.path ≡ Some node
        by_kind object root false h = absurd (none-some (location.place.root, node) h)
        by_kind object root true h =
            let found = mapped {Y = ℕ × Node} (λ m. (object.root, m)) (node_along basis.program.types (first (Start root.ty)) at.path) (location.place.root, node) h in
            found.1 ∙ ap (λ x. Some x) (ap (λ (x : ℕ × Node). x.1) found.2)

        by_value : (object : Object) → slice_get s.objects at.object ≡ Some object → (b : Bool) → is_value (kind_at basis.program.types object at.path) ≡ b →
            (if b then option_and_then (node_in basis.program object at.path) (slice_get basis.program.roots object.root) else None) ≡ Some (location.place.root, node) →
            IsValueAt at location.place.node
        by_value object there false is h = absurd (none-some (location.place.root, node) h)
        by_value object there true is h =
            let root = chained (node_in basis.program object at.path) (slice_get basis.program.roots object.root) (location.place.root, node) h in
            let leads = by_kind object root.0 (has_locations root.0.kind) root.2 in
            let types : root.0.ty ≡ object.ty = one_type basis.program object.root root.0.ty object.ty (root.0, root.1, refl) (typed_object at.object object there) in
            record { object = object; there = there; value = is; leads = subst (λ t. node_along basis.program.types (first (Start t)) at.path ≡ Some node) types leads }

    -- the place of a cell with a value is a location
    pub is_location : IsLocation basis.program n
    is_location = elim (cases_lt n basis.program.locations) [
      | inl less ↦ less
      | inr lock ↦ absurd (no_lock lock)
    ]
      where
        no_lock : basis.program.locations ≤ n → ⊥
        no_lock lock =
            let found = value_object in
            let form = value_at_form basis.program.types found.object at.path found.value in
            let is_form = form_along basis.program.types found.object.length found.object.ty at.path form.0 form.1 node found.leads in
            let mutex = ((ok.lowered.locks location.place).0 (n, (lock, slice_get_within basis.program.places n location.place location.number), location.number)).1 in
            form.2 (ap is_mutex (sym is_form) ∙ mutex)
