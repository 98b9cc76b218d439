-- At the start no mutex is owned: no object has a mutex that was changed.
use Rattle.std.proofs.Common.{◌≡◌, ℕ, zero, suc, List, [], ◌∷◌, ◌++◌, fold, length, Option, None, Some, inl, inr, refl, sym, ap, subst}
use Rattle.std.proofs.lemmas.Option.{none-some, same_Some}
use Rattle.std.specs.List.{enumerate_from, slice_get}
use Rattle.std.specs.Option.{option_map_or}
use Rattle.std.specs.Prelude.{◌+◌, map}
use Rattle.lk_birth.specs.Births.{argument, bare_local, changed_at, is_root, listed, local_object, local_objects, locals_of, made_for}
use Rattle.lk_birth.specs.Starts.{bare_objects, first_in, first_objects, initialised, main_args, object_at_start, object_of_kind, objects_below, root_of, started, static_object, string_object, string_objects, strings_of, with_byte, with_bytes, with_first, with_main, with_pointers, without_threads}
use Rattle.lk_cells.specs.Cells.{mutex_at, object_of_root, with_value}
use Rattle.lk_cells.specs.declared.object.Object.{Object}
use Rattle.lk_facts.specs.Program.{entry_of, is_args}
use Rattle.lk_facts.specs.declared.initial.Initial.{Initial}
use Rattle.lk_facts.specs.declared.program.Program.{Program}
use Rattle.lk_facts.specs.declared.root.Root.{Root}
use Rattle.lk_facts.specs.declared.root.RootKind.{RootKind}
use Rattle.lk_facts.specs.declared.root.RootKind.TheVariants as kind
use Rattle.lk_meaning.proofs.CellLemmas.{not_owned}
use Rattle.lk_meaning.specs.Laws.{Owns}
use Rattle.lk_sound.proofs.Elements.{changed_cases, mapped_from, split}
use Rattle.lk_sound.proofs.StartObjects.{listed_one}
use Rattle.lk_values.proofs.Reasons.{chained}
use Rattle.lk_values.specs.declared.cell.Cell.{Cell}
use Rattle.lk_values.specs.declared.value.Mutex.TheVariants.{Owned}
use Rattle.lk_values.specs.declared.value.Value.{Value}

-- no mutex of the object was changed
abbrev IsFresh : Object → Type 0
IsFresh object = object.mutexes ≡ []

abbrev AreFresh : List Object → Type 0
AreFresh objects = (o : ℕ) (object : Object) → slice_get objects o ≡ Some object → IsFresh object

-- ---- one object

bytes_fresh : (entries : List (ℕ × ℕ)) (object : Object) → IsFresh object → IsFresh (fold with_byte object entries)
bytes_fresh [] object fresh = fresh
bytes_fresh (entry ∷ entries) object fresh = bytes_fresh entries (with_byte object entry) fresh

with_bytes_fresh : (bytes : List ℕ) (object : Object) → IsFresh object → IsFresh (with_bytes object bytes)
with_bytes_fresh bytes object fresh = bytes_fresh (enumerate_from 0 bytes) object fresh

pointers_fresh : (object : Object) (n : ℕ) → IsFresh object → IsFresh (with_pointers object n)
pointers_fresh object zero fresh = fresh
pointers_fresh object (suc n) fresh = pointers_fresh object n fresh

-- ---- lists of objects

both_fresh : (xs ys : List Object) → AreFresh xs → AreFresh ys → AreFresh (xs ++ ys)
both_fresh xs ys first second o object there = elim (split xs ys o object there) [
  | inl front ↦ first o object front
  | inr back ↦ second back.0 object back.2
]

none_fresh : AreFresh []
none_fresh o object there = absurd (none-some object there)

-- what holds of a list as far as it is folded
fold_keeps : {X Y : Type 0} (f : X → Y → X) (P : X → Type 0) (ys : List Y) → ((x : X) (y : Y) → P x → P (f x y)) → (x : X) → P x → P (fold f x ys)
fold_keeps f P [] keeps x is = is
fold_keeps f P (y ∷ ys) keeps x is = fold_keeps f P ys keeps (f x y) (keeps x y is)

module _ (program : Program) (strings : List (List ℕ)) where
  kind_fresh : (r : ℕ) (root : Root) (k : RootKind) (object : Object) → object_of_kind strings r root k ≡ Some object → IsFresh object
  kind_fresh r root kind.Global object is = ap (λ (x : Object). x.mutexes) (sym (same_Some (static_object r root.ty 1) object is))
  kind_fresh r root kind.Static object is = ap (λ (x : Object). x.mutexes) (sym (same_Some (static_object r root.ty 1) object is))
  kind_fresh r root kind.Local object is = absurd (none-some object is)
  kind_fresh r root (kind.Heap single) object is = absurd (none-some object is)
  kind_fresh r root kind.Text object is =
      subst IsFresh (same_Some (with_bytes (static_object r root.ty (length root.bytes)) root.bytes) object is)
      (with_bytes_fresh root.bytes (static_object r root.ty (length root.bytes)) refl)
  kind_fresh r root kind.Argv object is =
      subst IsFresh (same_Some (with_pointers (static_object r root.ty (length strings + 1)) (length strings)) object is)
      (pointers_fresh (static_object r root.ty (length strings + 1)) (length strings) refl)
  kind_fresh r root kind.Args object is = absurd (none-some object is)
  kind_fresh r root kind.Function object is = absurd (none-some object is)

  start_fresh : (r : ℕ) → AreFresh (listed (object_at_start program strings r))
  start_fresh r o object there =
      let found = chained (λ (root : Root). object_of_kind strings r root root.kind) (slice_get program.roots r) object (listed_one (object_at_start program strings r) o object there) in
      kind_fresh r found.0 found.0.kind object found.2

  strings_fresh : AreFresh (string_objects program strings)
  strings_fresh = by_root (root_of is_args program)
    where
      by : (r : ℕ) (found : Option Root) → AreFresh (option_map_or (λ (root : Root). map (string_object r root.ty) strings) found [])
      by r None = none_fresh
      by r (Some root) = λ o object there.
          let found = mapped_from (string_object r root.ty) strings o object there in
          subst IsFresh (sym found.2) (with_bytes_fresh found.0 (static_object r root.ty (length found.0 + 1)) refl)

      by_root : (found : Option ℕ) → AreFresh (option_map_or (strings_of program strings) found [])
      by_root None = none_fresh
      by_root (Some r) = by r (slice_get program.roots r)

  below_fresh : (n : ℕ) → AreFresh (objects_below program strings n)
  below_fresh zero = strings_fresh
  below_fresh (suc n) = both_fresh (objects_below program strings n) (listed (object_at_start program strings n)) (below_fresh n) (start_fresh n)

  -- initialisers put values alone
  put_fresh : (objects : List Object) (entry : Initial) (object : Object) → IsFresh object → IsFresh (with_first program objects entry object)
  put_fresh objects entry object fresh = by (first_in program objects entry object)
    where
      by : (first : Option Value) → IsFresh (option_map_or (with_value object entry.path) first object)
      by None = fresh
      by (Some v) = fresh

  initialised_fresh : (objects : List Object) (entry : Initial) → AreFresh objects → AreFresh (initialised program objects entry)
  initialised_fresh objects entry fresh = by (object_of_root objects entry.root)
    where
      by : (found : Option ℕ) → AreFresh (option_map_or (λ o. changed_at objects o (with_first program objects entry)) found objects)
      by None = fresh
      by (Some n) = λ o object there. elim (changed_cases objects n o (with_first program objects entry) object there) [
        | inl was ↦ fresh o object was
        | inr put ↦ subst IsFresh (sym put.1.2) (put_fresh objects entry put.1.0 (fresh n put.1.0 put.1.1))
      ]

  first_fresh : AreFresh (first_objects program strings)
  first_fresh = fold_keeps (initialised program) AreFresh program.initials initialised_fresh (bare_objects program strings) (below_fresh (length program.roots))

  local_fresh : (f : ℕ) (args : List Value) (r : ℕ) → IsFresh (local_object program f args r)
  local_fresh f args r = by (argument program f args (is_root r))
    where
      by : (v : Option Value) → IsFresh (option_map_or (with_value (bare_local program f args r) []) v (bare_local program f args r))
      by None = refl
      by (Some v) = refl

  locals_fresh : (f : ℕ) (args : List Value) → AreFresh (local_objects program f args)
  locals_fresh f args o object there =
      let found = mapped_from (local_object program f args) (locals_of program f) o object there in
      subst IsFresh (sym found.2) (local_fresh f args found.0)

  abbrev objects : List Object
  objects = first_objects program strings

  started_fresh : AreFresh (started program strings).objects
  started_fresh = by (entry_of program program.main)
    where
      by : (found : Option ℕ) → AreFresh (option_map_or (λ entry. with_main objects (made_for program (length objects) program.main entry (main_args program objects strings))) found (without_threads objects)).objects
      by None = first_fresh
      by (Some entry) = both_fresh objects (local_objects program program.main (main_args program objects strings)) first_fresh (locals_fresh program.main (main_args program objects strings))

  -- so nobody owns one
  pub none_owned : (t : ℕ) (cell : Cell) → Owns program (started program strings) t cell → ⊥
  none_owned t cell owns =
      let found = chained (λ (object : Object). mutex_at program.types object cell.path) (slice_get (started program strings).objects cell.object) (Owned t) owns in
      not_owned program.types found.0 cell.path t (started_fresh cell.object found.0 found.1) found.2
