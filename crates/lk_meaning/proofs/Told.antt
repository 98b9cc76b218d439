-- What is to come of a step is what the answers tell.
use Rattle.std.proofs.Common.{◌≡◌, ◌<◌, ◌^◌, ℕ, ◌+◌, Bool, true, false, Option, None, Some, length, refl, sym, ◌∙◌, subst, arith}
use Rattle.std.proofs.lemmas.Grind.{common_steps}
use Rattle.std.proofs.lemmas.Option.{slice_get_within}
use Rattle.std.specs.Option.{option_map_or}
use Rattle.std.specs.Prelude.{slice_get, ◌||◌, if◌then◌else◌}
use Rattle.lk_facts.specs.declared.program.Program.{Program}
use Rattle.lk_cells.specs.declared.state.State.{State}
use Rattle.lk_cells.specs.declared.state.Thread.{Thread}
use Rattle.lk_change.specs.declared.change.Change.{Change}
use Rattle.lk_meaning.specs.Decisions.{decision}
use Rattle.lk_birth.specs.Starts.{IsSmall}
use Rattle.lk_meaning.specs.Stepping.{WillMove, Comes, IsPerformed, Tells, event_of, next, next_of, next_by, next_or_ended}
use Rattle.lk_meaning.specs.After.{after_change}
use Rattle.lk_meaning.specs.Full.{is_full, is_past, objects_made, threads_made}
use Rattle.lk_meaning.specs.Steps.{MayGoOn}
use Rattle.lk_meaning.specs.declared.deciding.Decision.{Decision}
use Rattle.lk_meaning.specs.declared.deciding.Decision.TheVariants as decides
use Rattle.lk_meaning.specs.declared.stepping.Event.{Event}
use Rattle.lk_meaning.specs.declared.stepping.Next.{Next}
use Rattle.lk_meaning.specs.declared.stepping.Next.TheVariants as next_is
use Rattle.lk_meaning.specs.declared.stepping.Stepped.{Stepped}
use Rattle.lk_meaning.specs.declared.stepping.Stepped.TheVariants as answer
use Rattle.lk_meaning.proofs.Lengths.{objects_after, threads_after}

neither : (a b : Bool) → (a || b) ≡ false → (a ≡ false) × (b ≡ false)
neither true b e = grind (arith, e)
neither false true e = grind (arith, e)
neither false false e = (refl, refl)

-- where so many more need no number that none may have, there are few
few : (there more : ℕ) → there < 2 ^ 32 → is_past there more ≡ false → there + more < 2 ^ 32
few there more small fits = grind (arith, common_steps, small, fits)

module _ (program : Program) (s : State) (t w : ℕ) (small : IsSmall s) where
  few_made : (change : Change) → is_full program s change ≡ false →
      (length s.objects + objects_made program change < 2 ^ 32) × (length s.threads + threads_made change < 2 ^ 32)
  few_made change fits =
      let past = neither (is_past (length s.objects) (objects_made program change)) (is_past (length s.threads) (threads_made change)) fits in (
        few (length s.objects) (objects_made program change) small.objects past.0,
        few (length s.threads) (threads_made change) small.threads past.1,
      )

  by_full : (thread : Thread) → MayGoOn s t thread → (change : Change) → decision program s t thread w ≡ decides.Moves change → (b : Bool) → is_full program s change ≡ b →
      Comes program s t w (if b then next_is.Full else next_is.Moves change (event_of program s t thread))
  by_full thread may change is true full = record {
    s2 = after_change program t s change;
    step = record { thread = thread; may = may; change = change; moves = is; is = refl };
    full = full;
  }
  by_full thread may change is false fits = record {
    thread = thread;
    may = may;
    moves = is;
    fits = fits;
    tells = refl;
    within = slice_get_within s.threads t thread may.there;
    numbers = (few_made change fits).0;
  }

  by_decision : (thread : Thread) → MayGoOn s t thread → (d : Decision) → decision program s t thread w ≡ d → Comes program s t w (next_by program s t thread d)
  by_decision thread may (decides.Moves change) is = by_full thread may change is (is_full program s change) refl
  by_decision thread may decides.Waits is = record { thread = thread; may = may; is = is }
  by_decision thread may (decides.Undefined why) is = record { thread = thread; may = may; is = is }

  by_ended : (thread : Thread) → slice_get s.threads t ≡ Some thread → (b : Bool) → (thread.ended || s.ended) ≡ b →
      Comes program s t w (if b then next_is.Ended else next_of program s t w thread)
  by_ended thread there true is = record { thread = thread; there = there; ended = is }
  by_ended thread there false is =
      let both = neither thread.ended s.ended is in
      by_decision thread (record { there = there; not_ended = both.0; process = both.1 }) (decision program s t thread w) refl

  by_thread : (found : Option Thread) → slice_get s.threads t ≡ found → Comes program s t w (option_map_or (next_or_ended program s t w) found next_is.NoSuchThread)
  by_thread None is = is
  by_thread (Some thread) is = by_ended thread is (thread.ended || s.ended) refl

  -- what is to come, by its cause
  pub comes : (n : Next) → n ≡ next program s t w → Comes program s t w n
  comes n is = subst (Comes program s t w) (sym is) (by_thread (slice_get s.threads t) refl)

  -- each object and thread has a number after a change that fits
  small_after : (change : Change) → is_full program s change ≡ false → IsSmall (after_change program t s change)
  small_after change fits = record {
    objects = subst (λ n. n < 2 ^ 32) (sym (objects_after program t s change)) (few_made change fits).0;
    threads = subst (λ n. n < 2 ^ 32) (sym (threads_after program t s change)) (few_made change fits).1;
  }

  -- what performing the change of a step tells
  pub performed : (change : Change) (event : Event) (stepped : Stepped) → WillMove program s t w change event → IsPerformed program s t change event stepped → Tells program s t w stepped
  performed change event (answer.Moved s2 told) will done = record {
    step = record { thread = will.thread; may = will.may; change = change; moves = will.moves; is = done.0 };
    fits = will.fits;
    tells = done.1 ∙ will.tells;
    small = subst IsSmall (sym done.0) (small_after change will.fits);
  }
  performed change event (answer.Waits s2) will done = absurd done
  performed change event (answer.Undefined s2 why) will done = absurd done
  performed change event (answer.Ended s2) will done = absurd done
  performed change event (answer.NoSuchThread s2) will done = absurd done
  performed change event (answer.Full s2) will done = absurd done
  performed change event (answer.NoMemory s2) will done = done
