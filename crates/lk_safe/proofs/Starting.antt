-- The invariant of soundness of locks and races holds at the start.
use Rattle.std.proofs.Common.{◌≡◌, ℕ, zero, suc, List, [], ◌∷◌, Bool, length, Option, None, Some, refl, sym, ap, subst, ◌∙◌, arith}
use Rattle.std.proofs.lemmas.List.{append-nil}
use Rattle.std.proofs.lemmas.Option.{none-some, same_Some}
use Rattle.std.specs.Option.{option_map_or}
use Rattle.std.specs.Prelude.{slice_get}
use Rattle.lk_birth.specs.Begins.{StartsRight}
use Rattle.lk_birth.specs.Births.{local_objects, made_for}
use Rattle.lk_birth.specs.Starts.{first_objects, main_args, with_main, without_threads, started}
use Rattle.lk_cells.specs.declared.object.Object.{Object}
use Rattle.lk_cells.specs.declared.state.State.{State}
use Rattle.lk_facts.specs.Basis.{Basis}
use Rattle.lk_facts.specs.Held.{AreClosedLockSets}
use Rattle.lk_facts.specs.LockSets.{LockSets}
use Rattle.lk_facts.specs.Lowered.{IsLowered}
use Rattle.lk_facts.specs.Program.{entry_of}
use Rattle.lk_facts.specs.declared.edge.Edge.{Edge}
use Rattle.lk_facts.specs.declared.program.Program.{Program}
use Rattle.lk_safe.proofs.StartRoots.{roots_of, none_of_main, locals_of_main, start_roots}
use Rattle.lk_safe.proofs.TrailLists.{trails_get}
use Rattle.lk_safe.specs.Owners.{own_trail, roots_in, owned_by}
use Rattle.lk_safe.specs.Safe.{IsSafe, IsCounted}
use Rattle.lk_safe.specs.Steps.{IsFollowed, StartIsSafe}
use Rattle.lk_sound.specs.Soundness.{first_contexts}
use Rattle.lk_trails.proofs.Counting.{AreFirstRoots, counts_begin}
use Rattle.lk_trails.proofs.Linking.{entry_live}
use Rattle.lk_trails.proofs.Parting.{no_creation}
use Rattle.lk_trails.specs.Counting.{AreCounted, IsFrame}
use Rattle.lk_trails.specs.Counting.IsFrame.{below, top}
use Rattle.lk_trails.specs.Counting.WasEntered.{first as entered_first}
use Rattle.lk_trails.specs.Holding.{AreHeld}
use Rattle.lk_trails.specs.Trails.{Trail, stay, trail, whole, IsBirth, IsFromMain, ArePasts}
use Rattle.lk_trails.specs.Trails.IsBirth.{first as first_birth}
use Rattle.lk_trails.specs.Trails.IsLinked.{only}
use Rattle.lk_trails.proofs.Statements.{HeldBegins}

-- what is in a list of one
only_one : {X : Type 0} → (x y : X) (k : ℕ) → slice_get (x ∷ []) k ≡ Some y → (k ≡ 0) × (y ≡ x)
only_one x y zero h = (refl, sym (same_Some x y h))
only_one x y (suc k) h = absurd (none-some y h)

-- where there is no thread, nothing was performed
counts_none : (program : Program) (roots : List ℕ) → AreFirstRoots program roots → AreCounted program [] [] roots
counts_none program roots begin = record {
  frames = λ t j x f called frame stands. absurd (no_frame frame);
  points = λ p f has stands. absurd (omega (arith, has.1));
  locals = λ o r f root made at kind function. entered_first (begin.locals_of o r f root made at kind function);
  heaps = λ o r p root one made at kind point. absurd (begin.heaps o r root one made at kind);
  alone = λ p f once stands t j x u i y a b frame frame_stands other other_stands. absurd (no_frame frame);
  beyond = λ p f t j x called has once stands frame frame_stands. absurd (omega (arith, has.1));
  one = begin.singles;
}
  where
    no_frame : {t j x : ℕ} {called : Bool} → IsFrame program [] t j x called → ⊥
    no_frame (below own l there at is) = none-some own there
    no_frame (top own there at is) = none-some own there

-- ---- the trail of the first thread

module _ (basis : Basis) (lowered : IsLowered basis.program) (entry : ℕ) (begins : entry_of basis.program basis.program.main ≡ Some entry) where
  abbrev first_trail : Trail
  first_trail = trail [] (stay entry [])

  from_main : IsFromMain basis first_trail
  from_main =
      let stands = (lowered.entries basis.program.main entry begins).stands in
      record { linked = only (stay entry []) basis.program.main (entry_live basis lowered basis.program.main entry begins) stands; main = stands; empty = refl }

  first_pasts : ArePasts basis ([] ∷ []) (first_trail ∷ [])
  first_pasts = record {
    many = refl;
    births = λ t b there. subst IsBirth (sym (only_one [] b t there).1) first_birth;
    from_main = λ t b own b_at own_at. subst (λ born. IsFromMain basis (whole born own)) (sym (only_one [] b t b_at).1) (subst (λ x. IsFromMain basis (whole [] x)) (sym
        (only_one first_trail own t own_at).1) from_main);
    own = λ t own own_at created. no_creation created (ap (λ (x : Trail). x.left) (only_one first_trail own t own_at).1);
    past = λ t u b d s v other b_at s_at d_at v_at. absurd (other ((only_one first_trail s t s_at).0 ∙ sym (only_one first_trail v u v_at).0));
  }

module _ (basis : Basis) (es : List Edge) (follows : IsFollowed basis es) (args : List (List ℕ)) where
  abbrev program : Program
  program = basis.program

  abbrev objects : List Object
  objects = first_objects program args

  -- the state without threads, where main isn't there
  abbrev bare : State
  bare = without_threads objects

  abbrev begun : ℕ → State
  begun entry = with_main objects (made_for program (length objects) program.main entry (main_args program objects args))

  abbrev begun_by : Option ℕ → State
  begun_by found = option_map_or begun found bare

  -- ---- what is made once

  bare_counted : IsCounted basis (first_contexts bare) bare
  bare_counted = (
    [],
    counts_none program (roots_in (first_contexts bare)) (subst (λ (xs : List Object). AreFirstRoots program (roots_of program args xs)) (append-nil objects)
        (start_roots program args [] (none_of_main program args))),
  )

  main_counted : (entry : ℕ) → entry_of program program.main ≡ Some entry → IsCounted basis (first_contexts (begun entry)) (begun entry)
  main_counted entry main_begins = (
    [],
    counts_begin program follows.analysed.lowered entry main_begins (roots_in (first_contexts (begun entry)))
        (start_roots program args (local_objects program program.main (main_args program objects args)) (locals_of_main program args (main_args program objects args))),
  )

  started_counted : IsCounted basis (first_contexts (started program args)) (started program args)
  started_counted = by (entry_of program program.main) refl
    where
      by : (found : Option ℕ) → entry_of program program.main ≡ found → IsCounted basis (first_contexts (begun_by found)) (begun_by found)
      by None is = bare_counted
      by (Some entry) is = main_counted entry is

  -- ---- the whole invariant

  module _ (begins_held : HeldBegins) (held : LockSets) (closed : AreClosedLockSets basis held) where
    bare_start : IsSafe basis es held (first_contexts bare) bare
    bare_start = record {
      holding = λ t thread cs there in_contexts. absurd (none-some thread there);
      pasts = (
        [],
        record {
          many = refl;
          births = λ t b there. absurd (none-some b there);
          from_main = λ t b own b_at own_at. absurd (none-some b b_at);
          own = λ t own own_at created. absurd (none-some own own_at);
          past = λ t u b d s v other b_at s_at d_at v_at. absurd (none-some b b_at);
        },
      );
      counted = bare_counted;
    }

    main_start : (entry : ℕ) → entry_of program program.main ≡ Some entry → IsSafe basis es held (first_contexts (begun entry)) (begun entry)
    main_start entry main_begins = record {
      holding = λ t thread cs there in_contexts.
          subst (λ x. AreHeld basis es held (owned_by basis (first_contexts (begun entry)) (begun entry) t) x)
          (sym (only_one (trail [] (stay entry [])) (own_trail thread cs) t (trails_get (begun entry).threads (first_contexts (begun entry)).frames t thread cs there in_contexts)).1)
          (begins_held basis es held closed (owned_by basis (first_contexts (begun entry)) (begun entry) t) program.main (stay entry []) main_begins);
      pasts = ([] ∷ [], first_pasts basis follows.analysed.lowered entry main_begins);
      counted = main_counted entry main_begins;
    }

    started_safe : IsSafe basis es held (first_contexts (started program args)) (started program args)
    started_safe = by (entry_of program program.main) refl
      where
        by : (found : Option ℕ) → entry_of program program.main ≡ found → IsSafe basis es held (first_contexts (begun_by found)) (begun_by found)
        by None is = bare_start
        by (Some entry) is = main_start entry is

-- what is made once is made once at the start
pub start_is_counted : (basis : Basis) (es : List Edge) → IsFollowed basis es → StartsRight basis.program → (args : List (List ℕ)) →
    IsCounted basis (first_contexts (started basis.program args)) (started basis.program args)
start_is_counted basis es follows begins args = started_counted basis es follows args

-- the whole invariant holds there
pub start_is_safe : HeldBegins → StartIsSafe
start_is_safe begins_held basis es follows held closed begins args = started_safe basis es follows args begins_held held closed
