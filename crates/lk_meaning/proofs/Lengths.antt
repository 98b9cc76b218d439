-- How many objects and threads there are after a change.
use Rattle.std.proofs.Common.{◌≡◌, ℕ, ◌+◌, List, [], ◌∷◌, length, Option, None, Some, refl, ap, ◌∙◌, arith, length-append}
use Rattle.std.proofs.lemmas.List.{length-map}
use Rattle.std.specs.Option.{option_map_or}
use Rattle.std.specs.Prelude.{slice_get}
use Rattle.lk_facts.specs.declared.program.Program.{Program}
use Rattle.lk_values.specs.declared.value.Value.{Value}
use Rattle.lk_cells.specs.Cells.{after_life}
use Rattle.lk_cells.specs.declared.object.Object.{Object}
use Rattle.lk_cells.specs.declared.state.Frame.{Frame}
use Rattle.lk_cells.specs.declared.state.Local.{Local}
use Rattle.lk_cells.specs.declared.state.State.{State}
use Rattle.lk_cells.specs.declared.state.Thread.{Thread}
use Rattle.lk_change.specs.Calls.{caller_of}
use Rattle.lk_change.specs.declared.change.Change.{Change}
use Rattle.lk_change.specs.declared.change.Change.TheVariants.{Goes, Enter, Leave, EndThread, EndProcess}
use Rattle.lk_change.specs.declared.change.Effect.{Effect}
use Rattle.lk_change.specs.declared.change.Effect.TheVariants as effect
use Rattle.lk_birth.specs.Births.{changed_at, local_objects, local_object, locals_of}
use Rattle.lk_meaning.specs.After.{gone_to, after_lives, after_frames, after_change, after_effect, left, thread_ended, process_ended, finished}
use Rattle.lk_meaning.specs.Full.{objects_made, objects_by, threads_made, threads_by}
use Rattle.lk_birth.proofs.Changed.{length_changed}

length_lives : (objects : List Object) (locals : List Local) → length (after_lives objects locals) ≡ length objects
length_lives objects [] = refl
length_lives objects (local ∷ more) = length_lives (changed_at objects local.object after_life) more ∙ length_changed objects local.object after_life

length_frames : (objects : List Object) (frames : List Frame) → length (after_frames objects frames) ≡ length objects
length_frames objects [] = refl
length_frames objects (frame ∷ more) = length_frames (after_lives objects frame.locals) more ∙ length_lives objects frame.locals

plus : (n m : ℕ) → n ≡ m → n ≡ m + 0
plus n m e = omega (arith, e)

module _ (program : Program) (t : ℕ) where
  objects_by_effect : (s : State) (e : Effect) → length (after_effect program t s e).objects ≡ length s.objects + objects_by program e
  objects_by_effect s effect.Nothing = plus _ _ refl
  objects_by_effect s (effect.PutSlot slot v) = plus _ _ refl
  objects_by_effect s (effect.PutValue c v) = plus _ _ (length_changed s.objects c.object _)
  objects_by_effect s (effect.PutMutex c m) = plus _ _ (length_changed s.objects c.object _)
  objects_by_effect s (effect.PutCondition c m) = plus _ _ (length_changed s.objects c.object _)
  objects_by_effect s (effect.Begin call) = length-append s.objects (local_objects program call.function call.args) ∙ ap (λ n. length s.objects + n) (length-map (locals_of program call.function) (local_object program call.function call.args))
  objects_by_effect s (effect.Join u) = plus _ _ refl
  objects_by_effect s (effect.Detach u) = plus _ _ refl
  objects_by_effect s (effect.Bear birth) = length-append s.objects _
  objects_by_effect s (effect.End o) = plus _ _ (length_changed s.objects o after_life)

  threads_by_effect : (s : State) (e : Effect) → length (after_effect program t s e).threads ≡ length s.threads + threads_by e
  threads_by_effect s effect.Nothing = plus _ _ refl
  threads_by_effect s (effect.PutSlot slot v) = plus _ _ (length_changed s.threads t _)
  threads_by_effect s (effect.PutValue c v) = plus _ _ refl
  threads_by_effect s (effect.PutMutex c m) = plus _ _ refl
  threads_by_effect s (effect.PutCondition c m) = plus _ _ refl
  threads_by_effect s (effect.Begin call) = length-append (changed_at s.threads t _) _ ∙ ap (λ n. n + 1) (length_changed s.threads t _)
  threads_by_effect s (effect.Join u) = plus _ _ (length_changed s.threads u _)
  threads_by_effect s (effect.Detach u) = plus _ _ (length_changed s.threads u _)
  threads_by_effect s (effect.Bear birth) = plus _ _ refl
  threads_by_effect s (effect.End o) = plus _ _ refl

  objects_left : (s : State) (v : Option Value) (q : ℕ) (thread : Thread) (caller : Option Frame) → length (option_map_or (left t s v q thread) caller s).objects ≡ length s.objects
  objects_left s v q thread None = refl
  objects_left s v q thread (Some caller) = length_lives s.objects thread.frame.locals

  threads_left : (s : State) (v : Option Value) (q : ℕ) (thread : Thread) (caller : Option Frame) → length (option_map_or (left t s v q thread) caller s).threads ≡ length s.threads
  threads_left s v q thread None = refl
  threads_left s v q thread (Some caller) = length_changed s.threads t _

  objects_leaving : (s : State) (v : Option Value) (q : ℕ) (found : Option Thread) → length (option_map_or (λ thread. option_map_or (left t s v q thread) (caller_of thread) s) found s).objects ≡ length s.objects
  objects_leaving s v q None = refl
  objects_leaving s v q (Some thread) = objects_left s v q thread (caller_of thread)

  threads_leaving : (s : State) (v : Option Value) (q : ℕ) (found : Option Thread) → length (option_map_or (λ thread. option_map_or (left t s v q thread) (caller_of thread) s) found s).threads ≡ length s.threads
  threads_leaving s v q None = refl
  threads_leaving s v q (Some thread) = threads_left s v q thread (caller_of thread)

  objects_ending : (s : State) (found : Option Thread) → length (option_map_or (thread_ended t s) found s).objects ≡ length s.objects
  objects_ending s None = refl
  objects_ending s (Some thread) = length_frames s.objects (thread.frame ∷ thread.below)

  threads_ending : (s : State) (found : Option Thread) → length (option_map_or (thread_ended t s) found s).threads ≡ length s.threads
  threads_ending s None = refl
  threads_ending s (Some thread) = length_changed s.threads t finished

  objects_ended : (s : State) (found : Option Thread) → length (option_map_or (process_ended t s) found s).objects ≡ length s.objects
  objects_ended s None = refl
  objects_ended s (Some thread) = length_frames s.objects (thread.frame ∷ thread.below)

  threads_ended : (s : State) (found : Option Thread) → length (option_map_or (process_ended t s) found s).threads ≡ length s.threads
  threads_ended s None = refl
  threads_ended s (Some thread) = refl

  pub objects_after : (s : State) (change : Change) → length (after_change program t s change).objects ≡ length s.objects + objects_made program change
  objects_after s (Goes going) = objects_by_effect (gone_to s t going.gives going.turn) going.effect
  objects_after s (Enter call) = length-append s.objects (local_objects program call.function call.args) ∙ ap (λ n. length s.objects + n) (length-map (locals_of program call.function) (local_object program call.function call.args))
  objects_after s (Leave v q) = plus _ _ (objects_leaving s v q (slice_get s.threads t))
  objects_after s EndThread = plus _ _ (objects_ending s (slice_get s.threads t))
  objects_after s EndProcess = plus _ _ (objects_ended s (slice_get s.threads t))

  pub threads_after : (s : State) (change : Change) → length (after_change program t s change).threads ≡ length s.threads + threads_made change
  threads_after s (Goes going) = threads_by_effect (gone_to s t going.gives going.turn) going.effect ∙ ap (λ n. n + threads_by going.effect) (length_changed s.threads t _)
  threads_after s (Enter call) = plus _ _ (length_changed s.threads t _)
  threads_after s (Leave v q) = plus _ _ (threads_leaving s v q (slice_get s.threads t))
  threads_after s EndThread = plus _ _ (threads_ending s (slice_get s.threads t))
  threads_after s EndProcess = plus _ _ (threads_ended s (slice_get s.threads t))
