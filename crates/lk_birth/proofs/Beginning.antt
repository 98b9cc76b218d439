-- What an entry of an initialiser does to the objects, and what the first state is.
use Rattle.std.proofs.Common.{◌≡◌, ℕ, ◌<◌, ◌+◌, ◌^◌, ◌++◌, List, length, get_or, None, Some, refl, sym, ap, ◌∙◌, subst, arith, length-append, add-one}
use Rattle.std.proofs.lemmas.List.{length-map}
use Rattle.std.proofs.lemmas.Option.{slice_get_read}
use Rattle.lk_facts.specs.Program.{entry_of}
use Rattle.lk_facts.specs.declared.initial.Initial.{Initial as Named}
use Rattle.lk_facts.specs.declared.program.Program.{Program}
use Rattle.lk_facts.specs.declared.root.Root.{Root}
use Rattle.lk_values.specs.declared.value.Value.{Value}
use Rattle.lk_cells.specs.Cells.{with_value, object_of_root}
use Rattle.lk_cells.specs.declared.object.Object.{Object}
use Rattle.std.specs.Prelude.{slice_get, slice_set}
use Rattle.lk_birth.specs.Births.{listed, made_for, locals_of, local_objects, local_object}
use Rattle.lk_birth.specs.Starts.{IsSmall, object_of_kind, objects_below, first_in, initialised, main_args, main_called, with_main}
use Rattle.lk_birth.proofs.Changed.{set_same}

module _ (program : Program) where
  pub initialised_put : (objects : List Object) (entry : Named) (i : ℕ) (x : Object) (v : Value) → object_of_root objects entry.root ≡ Some i → i < length objects →
      x ≡ get_or objects i x → first_in program objects entry x ≡ Some v → slice_set objects i (with_value x entry.path v) ≡ initialised program objects entry
  initialised_put objects entry i x v found within is says = rw found (rw (slice_get_read objects (length objects) i x refl within is) (rw says refl))

  pub initialised_same : (objects : List Object) (entry : Named) (i : ℕ) (x : Object) → object_of_root objects entry.root ≡ Some i → i < length objects →
      x ≡ get_or objects i x → first_in program objects entry x ≡ None → objects ≡ initialised program objects entry
  initialised_same objects entry i x found within is says =
      let there = slice_get_read objects (length objects) i x refl within is in
      rw found (rw there (rw says (sym (set_same objects i x there))))

  pub objects_next : (strings : List (List ℕ)) (r : ℕ) (root : Root) → slice_get program.roots r ≡ Some root →
      objects_below program strings r ++ listed (object_of_kind strings r root root.kind) ≡ objects_below program strings (r + 1)
  objects_next strings r root there = rw (add-one r) (rw there refl)

  pub main_begins : (strings : List (List ℕ)) (objects : List Object) (entry : ℕ) (args : List Value) → entry_of program program.main ≡ Some entry →
      args ≡ main_args program objects strings → with_main objects (made_for program (length objects) program.main entry args) ≡ main_called program strings objects
  main_begins strings objects entry args begins is = rw begins (rw is refl)

-- where the locals of main have numbers, each object and thread has one
module _ (program : Program) where
  pub few_begin : (objects : List Object) (f entry : ℕ) (args : List Value) → length objects + length (locals_of program f) < 2 ^ 32 →
      IsSmall (with_main objects (made_for program (length objects) f entry args))
  few_begin objects f entry args few = record {
    objects = subst (λ n. n < 2 ^ 32) (sym (length-append objects (local_objects program f args) ∙ ap (λ n. length objects + n) (length-map (locals_of program f) (local_object program f args)))) few;
    threads = omega arith;
  }
