-- A change that is right keeps what a state stores right.
use Rattle.lk_facts.specs.declared.label_entry.LabelName.{LabelName}
use Rattle.std.proofs.Common.{◌≡◌, ℕ, ◌<◌, ◌+◌, ◌-◌, suc, List, [], ◌∷◌, ◌++◌, length, take, Option, None, Some, refl, sym, ap, ◌∙◌, subst, inl, inr, arith, length-append}
use Rattle.std.proofs.lemmas.List.{length-map}
use Rattle.std.proofs.lemmas.Option.{none-some, same_Some, slice_get-map, slice_get_within}
use Rattle.std.specs.Option.{option_map, option_map_or}
use Rattle.std.specs.Prelude.{slice_get, slice_set}
use Rattle.lk_birth.proofs.Changed.{length_changed}
use Rattle.lk_birth.specs.Births.{changed_at, locals_of, local_object, local_objects, new_thread, type_of_root}
use Rattle.lk_cells.specs.Cells.{after_life}
use Rattle.lk_cells.specs.Frames.{with_given}
use Rattle.lk_cells.specs.declared.object.Object.{Object}
use Rattle.lk_cells.specs.declared.state.Frame.{Frame}
use Rattle.lk_cells.specs.declared.state.State.{State}
use Rattle.lk_cells.specs.declared.state.Thread.{Thread}
use Rattle.lk_change.specs.Calls.{caller_of}
use Rattle.lk_change.specs.declared.change.Birth.{Birth}
use Rattle.lk_change.specs.declared.change.Call.{Call}
use Rattle.lk_change.specs.declared.change.Change.{Change}
use Rattle.lk_change.specs.declared.change.Change.TheVariants.{Goes, Enter, Leave, EndThread, EndProcess}
use Rattle.lk_change.specs.declared.change.Effect.{Effect}
use Rattle.lk_change.specs.declared.change.Effect.TheVariants as effect
use Rattle.lk_change.specs.declared.change.Turn.{Turn}
use Rattle.lk_change.specs.declared.change.Turn.TheVariants as turn
use Rattle.lk_facts.specs.EdgeRules.{slot, parameter}
use Rattle.lk_facts.specs.Labels.{LabelTable}
use Rattle.lk_facts.specs.Typed.{IsRootType}
use Rattle.lk_facts.specs.declared.action.Action.{Action}
use Rattle.lk_facts.specs.declared.edge.Edge.{Edge}
use Rattle.lk_facts.specs.declared.program.Program.{Program}
use Rattle.lk_facts.specs.declared.root.Root.{Root}
use Rattle.lk_meaning.specs.After.{moved_on, recorded, with_slot, with_created, joined, detached, finished, made_by, born, calling, returned, back_in, after_change, after_effect, gone_to, left, leaves, thread_ended, process_ended}
use Rattle.lk_right.specs.Changes.{IsCallRight, IsGivenRight, IsTurnRight, IsEffectRight, IsReturnRight, IsChangeRight}
use Rattle.lk_right.specs.Contexts.{Home, Contexts, home_of, frames_of, last_of, own_context, entered_context, homes_in, contexts_after, after_effect as contexts_by}
use Rattle.lk_right.specs.Laws.{IsAnalysed, Performs}
use Rattle.lk_right.specs.Right.{IsRight}
use Rattle.lk_right.specs.Sound.{IsCalling, IsFrameSound, AreFramesSound, IsObjectSound, IsSound}
use Rattle.lk_sound.proofs.Elements.{was_left, get_right, get_last, split_last, front_and_last, changed_here, set_cases}
use Rattle.lk_sound.proofs.Entered.{frame_sound, locals_sound}
use Rattle.lk_sound.proofs.FramesKept.{IsCalledBy, last_context, frame_given, frame_recorded, frame_turned, pushed, popped, top_sound, replaced, frames_later}
use Rattle.lk_sound.proofs.GrownRight.{Keeps, keeps_itself, keeps_front, right_later}
use Rattle.lk_sound.proofs.ObjectsKept.{AreObjectsSound, new_sound, objects_later, life_ended, lives_ended, frames_ended, value_put, mutex_put, condition_put, objects_added, length_lives, length_frames}
use Rattle.lk_sound.proofs.ThreadsKept.{AreThreadsSound, threads_later, other_changed, known_changed, known_both, thread_added}
use Rattle.lk_sound.specs.Soundness.{RightChangesKeep}
use Rattle.lk_values.specs.declared.value.Value.{Value}

module _ (program : Program) (labels : LabelTable) (es : List Edge) (ok : IsAnalysed program labels es) where
  abbrev Frames : List Home → List Frame → List (List ℕ) → Type 0
  Frames = AreFramesSound program labels es

  abbrev OfFrame : List Home → ℕ → List ℕ → Frame → Type 0
  OfFrame = IsFrameSound program labels es

  abbrev Right : List Home → Value → (LabelName → Type 0) → List ℕ → Type 0
  Right = IsRight program labels es

  abbrev OfObject : List Home → Home → Object → Type 0
  OfObject = IsObjectSound program labels es

  abbrev Objects : List Home → List Home → List Object → Type 0
  Objects = AreObjectsSound program labels es

  abbrev Threads : List Home → List Thread → List (List (List ℕ)) → Type 0
  Threads = AreThreadsSound program labels es

  -- ---- frames that keep something

  slots_put : (homes : List Home) (f : ℕ) (c : List ℕ) (frame : Frame) (k : ℕ) (v : Value) → OfFrame homes f c frame → Right homes v (slot program f k) c →
      OfFrame homes f c (record frame { slots = slice_set frame.slots k v })
  slots_put homes f c frame k v sound right = record { stands = sound.stands; live = sound.live; slots = slots; values = sound.values; locals = sound.locals; next = sound.next }
    where
      slots : (n : ℕ) (w : Value) → slice_get (slice_set frame.slots k v) n ≡ Some w → Right homes w (slot program f n) c
      slots n w is = elim (set_cases frame.slots k n v w is) [
        | inl was ↦ sound.slots n w was
        | inr put ↦ subst (λ m. Right homes w (slot program f m) c) (sym put.0) (subst (λ u. Right homes u (slot program f k) c) (sym put.1) right)
      ]

  created_sound : (homes : List Home) (f : ℕ) (c : List ℕ) (frame : Frame) (u : ℕ) → OfFrame homes f c frame → OfFrame homes f c (record frame { created = Some u })
  created_sound homes f c frame u sound = record { stands = sound.stands; live = sound.live; slots = sound.slots; values = sound.values; locals = sound.locals; next = sound.next }

  call_later : (homes later : List Home) → Keeps homes later → (call : Call) (d : List ℕ) → IsCallRight program labels es homes call d → IsCallRight program labels es later call d
  call_later homes later keeps call d right = record {
    begins = right.begins;
    args = λ k v is. right_later program labels es homes later keeps v (parameter program call.function (suc k)) (parameter program call.function (suc k)) d (λ x h. h) (λ has. has) (right.args k v is);
  }

  -- the locals of a call are at home behind the objects that are there
  housed : (homes : List Home) (g first : ℕ) (d : List ℕ) → length homes ≡ first → (i r : ℕ) → slice_get (locals_of program g) i ≡ Some r →
      slice_get (homes ++ homes_in program g d) (first + i) ≡ Some (home_of r d)
  housed homes g first d many i r is =
      get_right homes (homes_in program g d) (first + i) i (ap (λ n. n + i) (sym many)) ∙ (slice_get-map (λ r. home_of r d) (locals_of program g) i ∙ ap (option_map (λ r. home_of r d)) is)

  -- as many homes come as objects
  as_many_homes : (homes : List Home) (objects : List Object) (call : Call) (d : List ℕ) → length homes ≡ length objects →
      length (homes ++ homes_in program call.function d) ≡ length (objects ++ local_objects program call.function call.args)
  as_many_homes homes objects call d many =
      let one = length-append homes (homes_in program call.function d) in
      let two = length-append objects (local_objects program call.function call.args) in
      let homed = length-map (locals_of program call.function) (λ r. home_of r d) in
      let made_too = length-map (locals_of program call.function) (local_object program call.function call.args) in
      omega (arith, many, one, two, homed, made_too)

  as_many_more : {X Y : Type 0} → (xs : List X) (ys : List Y) (x : X) (y : Y) → length xs ≡ length ys → length (xs ++ x ∷ []) ≡ length (ys ++ y ∷ [])
  as_many_more xs ys x y many = let one = length-append xs (x ∷ []) in let two = length-append ys (y ∷ []) in omega (arith, many, one, two)

  -- of a thread that performs its action
  module _ (contexts : Contexts) (s : State) (sound : IsSound program labels es contexts s) (t f : ℕ) (thread : Thread) (cs : List (List ℕ)) (c : List ℕ) (action : Action)
      (performs : Performs program contexts s t thread f cs c action) where
    abbrev p : ℕ
    p = thread.frame.point

    own : Frames contexts.homes (frames_of thread) cs
    own = sound.threads t thread cs performs.there performs.in_contexts

    -- the contexts of the frames below
    abbrev below_cs : List (List ℕ)
    below_cs = take (length cs - 1) cs

    cs_are : cs ≡ below_cs ++ c ∷ []
    cs_are =
        let many = own.many in
        let framed = length-append thread.below (thread.frame ∷ []) in
        last_context cs (length thread.below) (omega (arith, many, framed)) ∙ ap (λ d. below_cs ++ d ∷ []) (sym performs.in_context)

    own_sound : Frames contexts.homes (thread.below ++ thread.frame ∷ []) (below_cs ++ c ∷ [])
    own_sound = subst (λ ds. Frames contexts.homes (frames_of thread) ds) cs_are own

    -- ---- goes on

    module _ (later : List Home) (keeps : Keeps contexts.homes later) (given : Option Value) (to : Turn) (given_right : IsGivenRight program labels es later given p c)
        (goes : IsTurnRight program labels es later p f c to) where
      abbrev gone : Thread
      gone = moved_on given to thread

      abbrev gone_threads : List Thread
      gone_threads = changed_at s.threads t (moved_on given to)

      later_sound : Frames later (thread.below ++ thread.frame ∷ []) (below_cs ++ c ∷ [])
      later_sound = frames_later program labels es contexts.homes later keeps (thread.below ++ thread.frame ∷ []) (below_cs ++ c ∷ []) own_sound

      recorded_point : (v : Option Value) (frame : Frame) → (recorded v frame).point ≡ frame.point
      recorded_point None frame = refl
      recorded_point (Some v) frame = refl

      gone_frame : OfFrame later f c gone.frame
      gone_frame =
          frame_turned program labels es later f c (recorded given thread.frame)
          (frame_recorded program labels es later f c thread.frame (top_sound program labels es later thread.below below_cs thread.frame c later_sound f performs.stands) given given_right)
          to (subst (λ q. IsTurnRight program labels es later q f c to) (sym (recorded_point given thread.frame)) goes)

      -- a frame of the same function in the place of the one that performs
      gone_to_frame : (frame : Frame) → OfFrame later f c frame → Frames later (thread.below ++ frame ∷ []) cs
      gone_to_frame frame top =
          subst (λ ds. Frames later (thread.below ++ frame ∷ []) ds) (sym cs_are) (replaced program labels es later thread.below below_cs thread.frame c later_sound f frame performs.stands top)

      gone_sound : Threads later gone_threads contexts.frames
      gone_sound =
          known_changed program labels es later s.threads contexts.frames t (threads_later program labels es contexts.homes later keeps s.threads contexts.frames sound.threads)
          thread cs performs.there performs.in_contexts (moved_on given to) (gone_to_frame gone.frame gone_frame)

      gone_there : slice_get gone_threads t ≡ Some gone
      gone_there = changed_here s.threads t (moved_on given to) thread performs.there

      -- then the frame changes once more
      gone_again : (again : Thread → Thread) (frame : Frame) → frames_of (again gone) ≡ thread.below ++ frame ∷ [] → OfFrame later f c frame →
          Threads later (changed_at gone_threads t again) contexts.frames
      gone_again again frame is top =
          known_changed program labels es later gone_threads contexts.frames t gone_sound gone cs gone_there performs.in_contexts again
          (subst (λ fs. Frames later fs cs) (sym is) (gone_to_frame frame top))

      gone_many : length contexts.frames ≡ length gone_threads
      gone_many = sound.threads_many ∙ sym (length_changed s.threads t (moved_on given to))

      objects_stay : Objects later contexts.homes s.objects
      objects_stay = objects_later program labels es contexts.homes later contexts.homes keeps s.objects sound.objects

    abbrev homes_by : Effect → List Home
    homes_by e = (contexts_by program t p c contexts e).homes

    changed_many : (objects : List Object) (i : ℕ) (g : Object → Object) → length contexts.homes ≡ length objects → length contexts.homes ≡ length (changed_at objects i g)
    changed_many objects i g many = many ∙ sym (length_changed objects i g)

    goes_kept : (given : Option Value) (to : Turn) (e : Effect) → IsGivenRight program labels es (homes_by e) given p c → IsTurnRight program labels es (homes_by e) p f c to →
        IsEffectRight program labels es (homes_by e) p f c e →
        IsSound program labels es (contexts_by program t p c contexts e) (after_effect program t (gone_to s t given to) e)
    goes_kept given to effect.Nothing given_right goes right =
        let keeps = keeps_itself contexts.homes in
        record {
          objects_many = sound.objects_many;
          objects = sound.objects;
          threads_many = gone_many contexts.homes keeps given to given_right goes;
          threads = gone_sound contexts.homes keeps given to given_right goes;
        }
    goes_kept given to (effect.PutSlot k v) given_right goes right =
        let keeps = keeps_itself contexts.homes in
        record {
          objects_many = sound.objects_many;
          objects = sound.objects;
          threads_many = gone_many contexts.homes keeps given to given_right goes ∙ sym (length_changed (changed_at s.threads t (moved_on given to)) t (with_slot k v));
          threads =
              gone_again contexts.homes keeps given to given_right goes (with_slot k v) (with_slot k v (moved_on given to thread)).frame refl
              (slots_put contexts.homes f c (moved_on given to thread).frame k v (gone_frame contexts.homes keeps given to given_right goes) right);
        }
    goes_kept given to (effect.PutValue cell v) given_right goes right =
        let keeps = keeps_itself contexts.homes in
        record {
          objects_many = changed_many s.objects cell.object _ sound.objects_many;
          objects = value_put program labels es contexts.homes s.objects cell v sound.objects right;
          threads_many = gone_many contexts.homes keeps given to given_right goes;
          threads = gone_sound contexts.homes keeps given to given_right goes;
        }
    goes_kept given to (effect.PutMutex cell m) given_right goes right =
        let keeps = keeps_itself contexts.homes in
        record {
          objects_many = changed_many s.objects cell.object _ sound.objects_many;
          objects = mutex_put program labels es contexts.homes contexts.homes s.objects cell m sound.objects;
          threads_many = gone_many contexts.homes keeps given to given_right goes;
          threads = gone_sound contexts.homes keeps given to given_right goes;
        }
    goes_kept given to (effect.PutCondition cell m) given_right goes right =
        let keeps = keeps_itself contexts.homes in
        record {
          objects_many = changed_many s.objects cell.object _ sound.objects_many;
          objects = condition_put program labels es contexts.homes contexts.homes s.objects cell m sound.objects;
          threads_many = gone_many contexts.homes keeps given to given_right goes;
          threads = gone_sound contexts.homes keeps given to given_right goes;
        }
    goes_kept given to (effect.Begin call) given_right goes right =
        let d = entered_context program p call.function c in
        let later = contexts.homes ++ homes_in program call.function d in
        let keeps = keeps_front contexts.homes (homes_in program call.function d) in
        let top = frame_sound program labels es ok later call d right (length s.objects) (housed contexts.homes call.function (length s.objects) d sound.objects_many) in
        let n = length (changed_at s.threads t (moved_on given to)) in
        record {
          objects_many = as_many_homes contexts.homes s.objects call d sound.objects_many;
          objects =
              objects_added program labels es later contexts.homes (homes_in program call.function d) s.objects (local_objects program call.function call.args) sound.objects_many
              (objects_stay later keeps given to given_right goes) (locals_sound program labels es ok later call d right);
          threads_many =
              as_many_more contexts.frames (changed_at (changed_at s.threads t (moved_on given to)) t (with_created n)) (d ∷ []) (new_thread (made_by program s call).frame)
              (gone_many later keeps given to given_right goes ∙ sym (length_changed (changed_at s.threads t (moved_on given to)) t (with_created n)));
          threads =
              thread_added program labels es later (changed_at (changed_at s.threads t (moved_on given to)) t (with_created n)) contexts.frames (made_by program s call).frame call.function d
              (gone_many later keeps given to given_right goes ∙ sym (length_changed (changed_at s.threads t (moved_on given to)) t (with_created n)))
              (gone_again later keeps given to given_right goes (with_created n) (with_created n (moved_on given to thread)).frame refl
              (created_sound later f c (moved_on given to thread).frame n (gone_frame later keeps given to given_right goes)))
              top;
        }
    goes_kept given to (effect.Join u) given_right goes right =
        let keeps = keeps_itself contexts.homes in
        record {
          objects_many = sound.objects_many;
          objects = sound.objects;
          threads_many = gone_many contexts.homes keeps given to given_right goes ∙ sym (length_changed (changed_at s.threads t (moved_on given to)) u joined);
          threads =
              other_changed program labels es contexts.homes (changed_at s.threads t (moved_on given to)) contexts.frames u (gone_sound contexts.homes keeps given to given_right goes) joined
              (λ x. refl);
        }
    goes_kept given to (effect.Detach u) given_right goes right =
        let keeps = keeps_itself contexts.homes in
        record {
          objects_many = sound.objects_many;
          objects = sound.objects;
          threads_many = gone_many contexts.homes keeps given to given_right goes ∙ sym (length_changed (changed_at s.threads t (moved_on given to)) u detached);
          threads =
              other_changed program labels es contexts.homes (changed_at s.threads t (moved_on given to)) contexts.frames u (gone_sound contexts.homes keeps given to given_right goes) detached
              (λ x. refl);
        }
    goes_kept given to (effect.Bear birth) given_right goes right =
        let home = home_of birth.root c in
        let later = contexts.homes ++ home ∷ [] in
        let keeps = keeps_front contexts.homes (home ∷ []) in
        record {
          objects_many = as_many_more contexts.homes s.objects home (born program birth) sound.objects_many;
          objects =
              objects_added program labels es later contexts.homes (home ∷ []) s.objects (born program birth ∷ []) sound.objects_many (objects_stay later keeps given to given_right goes)
              (born_sound later birth right);
          threads_many = gone_many later keeps given to given_right goes;
          threads = gone_sound later keeps given to given_right goes;
        }
      where
        root_typed : (birth : Birth) → (ty : ℕ) × IsRootType program birth.root ty → IsRootType program birth.root (type_of_root program birth.root)
        root_typed birth of = (of.1.0, of.1.1, sym (ap (λ o. option_map_or (λ (root : Root). root.ty) o 0) of.1.1))

        born_sound : (later : List Home) (birth : Birth) → (ty : ℕ) × IsRootType program birth.root ty → Objects later (home_of birth.root c ∷ []) (born program birth ∷ [])
        born_sound later birth of o object home object_is home_is = elim (split_last [] (born program birth) o object object_is) [
          | inl old ↦ absurd (none-some object old)
          | inr last ↦
              let home_there : home ≡ home_of birth.root c = same_Some home (home_of birth.root c) (sym home_is ∙ get_last [] (home_of birth.root c) o last.0) in
              subst (λ x. OfObject later home x) (sym last.1) (subst (λ h. OfObject later h (born program birth)) (sym home_there)
              (new_sound program labels es later (home_of birth.root c) birth.root (type_of_root program birth.root) birth.length birth.initial refl (root_typed birth of)))
        ]
    goes_kept given to (effect.End o) given_right goes right =
        let keeps = keeps_itself contexts.homes in
        record {
          objects_many = changed_many s.objects o after_life sound.objects_many;
          objects = life_ended program labels es contexts.homes contexts.homes s.objects o sound.objects;
          threads_many = gone_many contexts.homes keeps given to given_right goes;
          threads = gone_sound contexts.homes keeps given to given_right goes;
        }

    -- ---- enters a function

    enter_kept : (call : Call) → IsCalling program thread.frame c call.function (entered_context program p call.function c) →
        IsCallRight program labels es contexts.homes call (entered_context program p call.function c) →
        IsSound program labels es (contexts_after program t p c contexts (Enter call)) (after_change program t s (Enter call))
    enter_kept call calls right =
        let d = entered_context program p call.function c in
        let later = contexts.homes ++ homes_in program call.function d in
        let keeps = keeps_front contexts.homes (homes_in program call.function d) in
        let right_too = call_later contexts.homes later keeps call d right in
        let frame = (made_by program s call).frame in
        let top = frame_sound program labels es ok later call d right_too (length s.objects) (housed contexts.homes call.function (length s.objects) d sound.objects_many) in
        record {
          objects_many = as_many_homes contexts.homes s.objects call d sound.objects_many;
          objects =
              objects_added program labels es later contexts.homes (homes_in program call.function d) s.objects (local_objects program call.function call.args) sound.objects_many
              (objects_later program labels es contexts.homes later contexts.homes keeps s.objects sound.objects) (locals_sound program labels es ok later call d right_too);
          threads_many = length_changed contexts.frames t (λ ds. ds ++ d ∷ []) ∙ (sound.threads_many ∙ sym (length_changed s.threads t (calling frame)));
          threads =
              known_both program labels es later s.threads contexts.frames t (threads_later program labels es contexts.homes later keeps s.threads contexts.frames sound.threads)
              thread cs performs.there performs.in_contexts (calling frame) (λ ds. ds ++ d ∷ [])
              (pushed program labels es later (thread.below ++ thread.frame ∷ []) cs frame call.function d
              (frames_later program labels es contexts.homes later keeps (thread.below ++ thread.frame ∷ []) cs own) top (called_by call.function d calls));
        }
      where
        called_by : (g : ℕ) (d : List ℕ) → IsCalling program thread.frame c g d → IsCalledBy program labels es contexts.homes (thread.below ++ thread.frame ∷ []) cs g d
        called_by g d calls k caller e many caller_is e_is =
            let framed = length-append thread.below (thread.frame ∷ []) in
            let place : k ≡ length thread.below = omega (arith, many, framed) in
            let caller_there : thread.frame ≡ caller = same_Some thread.frame caller (sym (get_last thread.below thread.frame k place) ∙ caller_is) in
            let low = own.many in
            let held = length-append below_cs (c ∷ []) in
            let whole = ap length cs_are in
            let place_too : k ≡ length below_cs = omega (arith, place, low, held, framed, whole) in
            let e_there : c ≡ e = same_Some c e (sym (get_last below_cs c k place_too) ∙ (ap (λ ds. slice_get ds k) (sym cs_are) ∙ e_is)) in
            subst (λ x. IsCalling program x e g d) caller_there (subst (λ x. IsCalling program thread.frame x g d) e_there calls)

    -- ---- returns

    leave_kept : (v : Option Value) (q : ℕ) → IsReturnRight program labels es contexts.homes cs thread v q →
        IsSound program labels es (contexts_after program t p c contexts (Leave v q)) (after_change program t s (Leave v q))
    leave_kept v q right = subst (λ z. IsSound program labels es (contexts_after program t p c contexts (Leave v q)) z) (sym left_is) left_sound
      where
        left_is : leaves t s v q ≡ left t s v q thread right.caller
        left_is = ap (λ o. option_map_or (λ x. option_map_or (left t s v q x) (caller_of x) s) o s) performs.there ∙ ap (λ o. option_map_or (left t s v q thread) o s) right.calls

        below_sound : Frames contexts.homes thread.below below_cs
        below_sound = popped program labels es contexts.homes thread.below below_cs thread.frame c own_sound

        below_are : thread.below ≡ take (length thread.below - 1) thread.below ++ right.caller ∷ []
        below_are = front_and_last thread.below right.caller right.calls

        below_cs_are : below_cs ≡ take (length below_cs - 1) below_cs ++ right.context ∷ []
        below_cs_are =
            front_and_last below_cs right.context
            (ap (λ n. slice_get below_cs (n - 1)) below_sound.many
            ∙ was_left below_cs (c ∷ []) (length thread.below - 1) right.context low (ap (λ ds. slice_get ds (length thread.below - 1)) (sym cs_are) ∙ right.in_context))
          where
            low : length thread.below - 1 < length below_cs
            low = let within = slice_get_within thread.below (length thread.below - 1) right.caller right.calls in let many = below_sound.many in omega (arith, within, many)

        split_sound : Frames contexts.homes (take (length thread.below - 1) thread.below ++ right.caller ∷ []) (take (length below_cs - 1) below_cs ++ right.context ∷ [])
        split_sound =
            subst (λ ds. Frames contexts.homes (take (length thread.below - 1) thread.below ++ right.caller ∷ []) ds) below_cs_are
            (subst (λ fs. Frames contexts.homes fs below_cs) below_are below_sound)

        back_sound : Frames contexts.homes (frames_of (back_in v q right.caller thread)) below_cs
        back_sound =
            subst (λ ds. Frames contexts.homes (take (length thread.below - 1) thread.below ++ returned v q right.caller ∷ []) ds) (sym below_cs_are)
            (replaced program labels es contexts.homes (take (length thread.below - 1) thread.below) (take (length below_cs - 1) below_cs) right.caller right.context split_sound
            right.function (returned v q right.caller) right.stands
            (frame_turned program labels es contexts.homes right.function right.context (with_given right.caller right.caller.point v)
            (frame_given program labels es contexts.homes right.function right.context right.caller
            (top_sound program labels es contexts.homes (take (length thread.below - 1) thread.below) (take (length below_cs - 1) below_cs) right.caller right.context split_sound
            right.function right.stands) v right.caller.point right.given)
            (turn.To q) right.goes))

        left_sound : IsSound program labels es (contexts_after program t p c contexts (Leave v q)) (left t s v q thread right.caller)
        left_sound = record {
          objects_many = sound.objects_many ∙ sym (length_lives s.objects thread.frame.locals);
          objects = lives_ended program labels es contexts.homes contexts.homes s.objects thread.frame.locals sound.objects;
          threads_many = length_changed contexts.frames t (λ ds. take (length ds - 1) ds) ∙ (sound.threads_many ∙ sym (length_changed s.threads t (back_in v q right.caller)));
          threads =
              known_both program labels es contexts.homes s.threads contexts.frames t sound.threads thread cs performs.there performs.in_contexts (back_in v q right.caller)
              (λ ds. take (length ds - 1) ds) back_sound;
        }

    -- ---- ends

    end_thread_kept : IsSound program labels es contexts (after_change program t s EndThread)
    end_thread_kept = subst (λ z. IsSound program labels es contexts z) (sym (ap (λ o. option_map_or (thread_ended t s) o s) performs.there)) (record {
      objects_many = sound.objects_many ∙ sym (length_frames s.objects (thread.frame ∷ thread.below));
      objects = frames_ended program labels es contexts.homes contexts.homes s.objects (thread.frame ∷ thread.below) sound.objects;
      threads_many = sound.threads_many ∙ sym (length_changed s.threads t finished);
      threads = other_changed program labels es contexts.homes s.threads contexts.frames t sound.threads finished (λ x. refl);
    })

    end_process_kept : IsSound program labels es contexts (after_change program t s EndProcess)
    end_process_kept = subst (λ z. IsSound program labels es contexts z) (sym (ap (λ o. option_map_or (process_ended t s) o s) performs.there)) (record {
      objects_many = sound.objects_many ∙ sym (length_frames s.objects (thread.frame ∷ thread.below));
      objects = frames_ended program labels es contexts.homes contexts.homes s.objects (thread.frame ∷ thread.below) sound.objects;
      threads_many = sound.threads_many;
      threads = sound.threads;
    })

    -- ---- each change

    change_kept : (change : Change) → IsChangeRight program labels es contexts t thread f cs c change →
        IsSound program labels es (contexts_after program t p c contexts change) (after_change program t s change)
    change_kept (Goes going) right = goes_kept going.gives going.turn going.effect right.0 right.1 right.2
    change_kept (Enter call) right = enter_kept call right.0 right.1
    change_kept (Leave v q) right = leave_kept v q right
    change_kept EndThread right = end_thread_kept
    change_kept EndProcess right = end_process_kept

    -- the context of the thread's frame is the one that the contexts have for it
    own_is : own_context contexts t ≡ c
    own_is = ap (λ o. option_map_or last_of o []) performs.in_contexts ∙ sym performs.in_context

pub right_changes_keep : RightChangesKeep
right_changes_keep program labels es ok contexts s sound t f thread cs c action change performs right =
    subst (λ d. IsSound program labels es (contexts_after program t thread.frame.point d contexts change) (after_change program t s change))
    (sym (own_is program labels es ok contexts s sound t f thread cs c action performs))
    (change_kept program labels es ok contexts s sound t f thread cs c action performs change right)
