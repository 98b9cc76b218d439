-- Steps move the trails of threads, and make the roots of objects, as the analysis says of their points.
use Rattle.std.proofs.Common.{◌≡◌, ℕ, ◌-◌, suc, true, false, List, [], ◌∷◌, ◌++◌, length, take, Option, None, Some, refl, sym, ap, ◌∙◌, subst, arith, length-append}
use Rattle.std.proofs.lemmas.List.{append-nil}
use Rattle.std.proofs.lemmas.Option.{same_Some, slice_get_within}
use Rattle.std.specs.Option.{option_map_or}
use Rattle.std.specs.Prelude.{slice_get, slice_set, ⊤}
use Rattle.lk_birth.proofs.Changed.{length_changed}
use Rattle.lk_birth.specs.Births.{changed_at, locals_of, new_thread}
use Rattle.lk_cells.specs.declared.state.Frame.{Frame}
use Rattle.lk_cells.specs.declared.state.State.{State}
use Rattle.lk_cells.specs.declared.state.Thread.{Thread}
use Rattle.lk_change.specs.Calls.{caller_of}
use Rattle.lk_change.specs.declared.change.Birth.{Birth}
use Rattle.lk_change.specs.declared.change.Call.{Call}
use Rattle.lk_change.specs.declared.change.Change.{Change}
use Rattle.lk_change.specs.declared.change.Change.TheVariants.{Goes, Enter, Leave, EndThread, EndProcess}
use Rattle.lk_change.specs.declared.change.Effect.{Effect as Changed}
use Rattle.lk_change.specs.declared.change.Effect.TheVariants as effect
use Rattle.lk_change.specs.declared.change.Turn.{Turn}
use Rattle.lk_change.specs.declared.change.Turn.TheVariants as turn
use Rattle.lk_facts.specs.Basis.{Basis}
use Rattle.lk_facts.specs.Doing.{Frees}
use Rattle.lk_facts.specs.Effects.{effect_of}
use Rattle.lk_facts.specs.Program.{action_at, entry_of}
use Rattle.lk_facts.specs.Reach.{IsNext, IsLiveNext}
use Rattle.lk_facts.specs.Typed.{IsAllocated, IsTyped}
use Rattle.lk_facts.specs.declared.action.Action.{Action}
use Rattle.lk_facts.specs.declared.edge.Edge.{Edge}
use Rattle.lk_facts.specs.declared.effect.Effect.{Effect}
use Rattle.lk_facts.specs.declared.effect.Effect.TheVariants.{Frees as ToFrees}
use Rattle.lk_facts.specs.declared.program.Program.{Program}
use Rattle.lk_meaning.specs.After.{after_change, after_effect, moved_on, with_slot, with_created, joined, detached, finished, made_by, calling, back_in, gone_to}
use Rattle.lk_meaning.specs.After.{left as left_in, leaves, thread_ended, process_ended}
use Rattle.lk_right.proofs.Assembling.{changes_are_right}
use Rattle.lk_right.proofs.Callers.{Caller, caller_sound}
use Rattle.lk_right.proofs.Doing.{Acts, frames_sound, frame_sound, has_got, typed}
use Rattle.lk_right.specs.Changes.{IsChangeRight, IsReturnRight}
use Rattle.lk_right.specs.Contexts.{Contexts, home_of, own_context, entered_context, contexts_after, after_effect as contexts_by}
use Rattle.lk_right.specs.Sound.{IsCalling, IsFrameSound}
use Rattle.lk_safe.proofs.Entering.{NamesFunctions, call_goes, creation_goes, enters_by, begins_by, return_is, runs_none, frees_none}
use Rattle.lk_safe.proofs.Performing.{performing}
use Rattle.lk_safe.proofs.RootNumbers.{names_function}
use Rattle.lk_safe.proofs.RootsMade.{roots, roots_more, roots_called, locals_differ, local_root}
use Rattle.lk_safe.proofs.Succeeding.{RunsNot, IsAccess, IsIdle, IsMade, IsGoing, IsLeaving, IsKind, by_action}
use Rattle.lk_safe.proofs.TrailLists.{lefts_more, own_is, trails_get, trails_changed, trails_changed_both, trails_stay, trails_more}
use Rattle.lk_safe.specs.Owners.{lefts, own_trail, trails_of, trails_in}
use Rattle.lk_safe.specs.Steps.{IsFollowed, Steps, StepsMoveTrails}
use Rattle.lk_sound.proofs.Elements.{was_left, front_and_last}
use Rattle.lk_sound.proofs.FramesKept.{last_context}
use Rattle.lk_sound.specs.Soundness.{contexts_next}
use Rattle.lk_trails.specs.Counting.{MakesRoots}
use Rattle.lk_trails.specs.Trails.{Left, Trail, Moves, TrailsMove, Enters, Begins, IsReturn, stay, left_at, trail}
use Rattle.lk_trails.specs.Trails.Act.{other, onward, inward}
use Rattle.lk_values.specs.declared.cell.Pointer.{Pointer as PointerTo}
use Rattle.lk_values.specs.declared.value.Value.{Value}

-- an effect that begins no thread
abbrev BeginsNone : Changed → Type 0
BeginsNone effect.Nothing = ⊤
BeginsNone (effect.PutSlot slot v) = ⊤
BeginsNone (effect.PutValue c v) = ⊤
BeginsNone (effect.PutMutex c m) = ⊤
BeginsNone (effect.PutCondition c m) = ⊤
BeginsNone (effect.Begin call) = ⊥
BeginsNone (effect.Join u) = ⊤
BeginsNone (effect.Detach u) = ⊤
BeginsNone (effect.Bear birth) = ⊤
BeginsNone (effect.End o) = ⊤

-- an effect that begins no thread and bears no object
abbrev IsPlain : Changed → Type 0
IsPlain effect.Nothing = ⊤
IsPlain (effect.PutSlot slot v) = ⊤
IsPlain (effect.PutValue c v) = ⊤
IsPlain (effect.PutMutex c m) = ⊤
IsPlain (effect.PutCondition c m) = ⊤
IsPlain (effect.Begin call) = ⊥
IsPlain (effect.Join u) = ⊤
IsPlain (effect.Detach u) = ⊤
IsPlain (effect.Bear birth) = ⊥
IsPlain (effect.End o) = ⊤

plain_begins : (e : Changed) → IsPlain e → BeginsNone e
plain_begins effect.Nothing plain = tt
plain_begins (effect.PutSlot slot v) plain = tt
plain_begins (effect.PutValue c v) plain = tt
plain_begins (effect.PutMutex c m) plain = tt
plain_begins (effect.PutCondition c m) plain = tt
plain_begins (effect.Begin call) plain = absurd plain
plain_begins (effect.Join u) plain = tt
plain_begins (effect.Detach u) plain = tt
plain_begins (effect.Bear birth) plain = absurd plain
plain_begins (effect.End o) plain = tt

-- The thread t of a sound state performs the action in a frame of the function f; its frames are in the contexts cs.
module _ (basis : Basis) (es : List Edge) (followed : IsFollowed basis es) (names : NamesFunctions basis) (contexts : Contexts) (s : State) (t w f : ℕ)
    (thread : Thread) (cs : List (List ℕ)) (action : Action) (ch : Change)
    (acts : Acts basis.program basis.labels es contexts s t w f thread cs (own_context contexts t) action ch) where
  abbrev program : Program
  program = basis.program

  abbrev p : ℕ
  p = thread.frame.point

  abbrev c : List ℕ
  c = own_context contexts t

  at : action_at program p ≡ Some action
  at = acts.performs.at

  own : IsFrameSound program basis.labels es contexts.homes f c thread.frame
  own = frame_sound program basis.labels es contexts s t w f thread cs c action ch acts

  -- the contexts of the frames below
  abbrev below_cs : List (List ℕ)
  below_cs = take (length cs - 1) cs

  framed : length cs ≡ suc (length thread.below)
  framed =
      let many = (frames_sound program basis.labels es contexts s t w f thread cs c action ch acts).many in
      let long = length-append thread.below (thread.frame ∷ []) in
      omega (arith, many, long)

  cs_are : cs ≡ below_cs ++ c ∷ []
  cs_are = last_context cs (length thread.below) framed ∙ ap (λ (d : List ℕ). below_cs ++ d ∷ []) (sym acts.performs.in_context)

  below_many : length below_cs ≡ length thread.below
  below_many = let long = length-append below_cs (c ∷ []) in let whole = ap length cs_are in let many = framed in omega (arith, long, whole, many)

  abbrev left : List Left
  left = lefts thread.below below_cs

  abbrev before : Trail
  before = trail left (stay p c)

  abbrev trails : List Trail
  trails = trails_in contexts s

  -- the trail of a thread with these frames below is as before; of its top frame that is asked which it has
  own_as : (x : Thread) → x.below ≡ thread.below → own_trail x cs ≡ trail left (stay x.frame.point c)
  own_as x same =
      ap (λ (ds : List (List ℕ)). own_trail x ds) cs_are ∙ own_is x below_cs c (below_many ∙ ap length (sym same))
      ∙ ap (λ (frames : List Frame). trail (lefts frames below_cs) (stay x.frame.point c)) same

  got : slice_get trails t ≡ Some before
  got = trails_get s.threads contexts.frames t thread cs acts.performs.there acts.performs.in_contexts ∙ ap (λ (x : Trail). Some x) (own_as thread refl)

  abbrev Moved : Change → Type 0
  Moved change = Steps basis t contexts s (contexts_after program t p c contexts change) (after_change program t s change)

  -- ---- what effects leave

  trails_after : (e : Changed) → BeginsNone e → (now : State) → trails_of (after_effect program t now e).threads (contexts_by program t p c contexts e).frames ≡ trails_of now.threads contexts.frames
  trails_after effect.Nothing begins now = refl
  trails_after (effect.PutSlot slot v) begins now = trails_stay now.threads contexts.frames t (with_slot slot v) (λ x ds. refl)
  trails_after (effect.PutValue cell v) begins now = refl
  trails_after (effect.PutMutex cell m) begins now = refl
  trails_after (effect.PutCondition cell m) begins now = refl
  trails_after (effect.Begin call) begins now = absurd begins
  trails_after (effect.Join u) begins now = trails_stay now.threads contexts.frames u joined (λ x ds. refl)
  trails_after (effect.Detach u) begins now = trails_stay now.threads contexts.frames u detached (λ x ds. refl)
  trails_after (effect.Bear birth) begins now = refl
  trails_after (effect.End o) begins now = refl

  no_roots : roots contexts.homes ≡ roots contexts.homes ++ []
  no_roots = sym (append-nil (roots contexts.homes))

  roots_after : (e : Changed) → IsPlain e → roots (contexts_by program t p c contexts e).homes ≡ roots contexts.homes ++ []
  roots_after effect.Nothing plain = no_roots
  roots_after (effect.PutSlot slot v) plain = no_roots
  roots_after (effect.PutValue cell v) plain = no_roots
  roots_after (effect.PutMutex cell m) plain = no_roots
  roots_after (effect.PutCondition cell m) plain = no_roots
  roots_after (effect.Begin call) plain = absurd plain
  roots_after (effect.Join u) plain = no_roots
  roots_after (effect.Detach u) plain = no_roots
  roots_after (effect.Bear birth) plain = absurd plain
  roots_after (effect.End o) plain = no_roots

  -- ---- it goes on

  gone : (given : Option Value) (q : ℕ) → trails_of (changed_at s.threads t (moved_on given (turn.To q))) contexts.frames ≡ slice_set trails t (trail left (stay q c))
  gone given q =
      trails_changed s.threads contexts.frames t (moved_on given (turn.To q)) thread cs acts.performs.there acts.performs.in_contexts
      ∙ ap (λ (x : Trail). slice_set trails t x) (own_as (moved_on given (turn.To q) thread) refl)

  onward_moves : (given : Option Value) (q : ℕ) (e : Changed) → BeginsNone e → RunsNot (effect_of action) → IsLiveNext program p q → (more : List ℕ) → MakesRoots program (onward p) more →
      roots (contexts_by program t p c contexts e).homes ≡ roots contexts.homes ++ more → Moved (Goes (record { gives = given; turn = turn.To q; effect = e }))
  onward_moves given q e begins runs next more makes more_are = record {
    act = onward p;
    trails = TrailsMove.one before (trail left (stay q c)) got (Moves.goes left p q c (runs_none basis es followed p action at runs) next)
        (trails_after e begins (gone_to s t given (turn.To q)) ∙ gone given q);
    more = more;
    makes = makes;
    roots = more_are;
  }

  plain_moves : (given : Option Value) (q : ℕ) (e : Changed) → IsPlain e → RunsNot (effect_of action) → IsLiveNext program p q → Moved (Goes (record { gives = given; turn = turn.To q; effect = e }))
  plain_moves given q e plain runs next = onward_moves given q e (plain_begins e plain) runs next [] (MakesRoots.none (onward p)) (roots_after e plain)

  -- an allocation bears an object of its root
  bears_moves : (given : Option Value) (q : ℕ) (birth : Birth) → IsMade program s t thread w action (effect.Bear birth) → RunsNot (effect_of action) → IsLiveNext program p q →
      Moved (Goes (record { gives = given; turn = turn.To q; effect = effect.Bear birth }))
  bears_moves given q birth (ty, count, zero, is) runs next =
      onward_moves given q (effect.Bear birth) tt runs next (birth.root ∷ [])
      (heap count (subst (IsTyped program p f) is (typed program basis.labels es contexts s t w f thread cs c action ch acts)).1)
      (roots_more contexts.homes (home_of birth.root c ∷ []))
    where
      heap : (count : Option ℕ) → IsAllocated program p birth.root ty count → MakesRoots program (onward p) (birth.root ∷ [])
      heap None of = MakesRoots.heap p birth.root of.0 true of.1 of.2 of.3
      heap (Some n) of = MakesRoots.heap p birth.root of.0 false of.1 of.2 of.3

  -- a creation begins a thread
  creation_moves : (given : Option Value) (q : ℕ) (call : Call) → IsMade program s t thread w action (effect.Begin call) → IsLiveNext program p q → entry_of program call.function ≡ Some call.entry →
      Moved (Goes (record { gives = given; turn = turn.To q; effect = effect.Begin call }))
  creation_moves given q call (a, is) next entry = record {
    act = inward call.function;
    trails = TrailsMove.creates left p q c (stay call.entry d) got next begins all;
    more = locals_of program call.function;
    makes = MakesRoots.locals call.function (locals_of program call.function) (locals_differ program call.function) (local_root program call.function);
    roots = roots_called program contexts.homes call.function d;
  }
    where
      d : List ℕ
      d = entered_context program p call.function c

      begins : Begins basis (stay p c) true (stay call.entry d)
      begins =
          begins_by basis es followed p f call.function call.entry c d true
          (creation_goes basis es followed p f call.function a c own.live acts.performs.stands (at ∙ ap (λ (x : Action). Some x) is)) entry

      moved : List Thread
      moved = changed_at s.threads t (moved_on given (turn.To q))

      made : List Thread
      made = changed_at moved t (with_created (length moved))

      many : length contexts.frames ≡ length made
      many = acts.sound.threads_many ∙ sym (length_changed moved t (with_created (length moved)) ∙ length_changed s.threads t (moved_on given (turn.To q)))

      all : trails_of (made ++ new_thread (made_by program (gone_to s t given (turn.To q)) call).frame ∷ []) (contexts.frames ++ (d ∷ []) ∷ []) ≡
          slice_set trails t (trail left (stay q c)) ++ trail [] (stay call.entry d) ∷ []
      all =
          trails_more made contexts.frames (new_thread (made_by program (gone_to s t given (turn.To q)) call).frame) (d ∷ []) many
          ∙ ap (λ (ts : List Trail). ts ++ trail [] (stay call.entry d) ∷ []) (trails_stay moved contexts.frames t (with_created (length moved)) (λ x ds. refl) ∙ gone given q)

  -- it goes to a successor
  to_moves : (given : Option Value) (q : ℕ) (e : Changed) → IsGoing program s t thread w action (record { gives = given; turn = turn.To q; effect = e }) →
      IsChangeRight program basis.labels es contexts t thread f cs c (Goes (record { gives = given; turn = turn.To q; effect = e })) →
      Moved (Goes (record { gives = given; turn = turn.To q; effect = e }))
  to_moves given q e going right = by e going.made right
    where
      next : IsLiveNext program p q
      next = (has_got _ going.turns.0 q going.turns.1, right.1.live)

      by : (e : Changed) → IsMade program s t thread w action e → IsChangeRight program basis.labels es contexts t thread f cs c (Goes (record { gives = given; turn = turn.To q; effect = e })) →
          Moved (Goes (record { gives = given; turn = turn.To q; effect = e }))
      by effect.Nothing made right = plain_moves given q effect.Nothing tt going.runs next
      by (effect.PutSlot slot v) made right = plain_moves given q (effect.PutSlot slot v) tt going.runs next
      by (effect.PutValue cell v) made right = plain_moves given q (effect.PutValue cell v) tt going.runs next
      by (effect.PutMutex cell m) made right = plain_moves given q (effect.PutMutex cell m) tt going.runs next
      by (effect.PutCondition cell m) made right = plain_moves given q (effect.PutCondition cell m) tt going.runs next
      by (effect.Begin call) made right = creation_moves given q call made next right.2.begins
      by (effect.Join u) made right = plain_moves given q (effect.Join u) tt going.runs next
      by (effect.Detach u) made right = plain_moves given q (effect.Detach u) tt going.runs next
      by (effect.Bear birth) made right = bears_moves given q birth made going.runs next
      by (effect.End o) made right = plain_moves given q (effect.End o) tt going.runs next

  -- ---- it stays where it is

  -- a point whose action does what no Frees does frees nothing
  none_freed : (P : Effect → Type 0) → ((a : ℕ) → P (ToFrees a) → ⊥) → P (effect_of action) → (x : Trail) (g l : ℕ) → slice_get trails t ≡ Some x → Frees basis x.top.point g l → ⊥
  none_freed P none has x g l there freed = frees_none basis es followed P none p action at has g l (subst (λ (y : Trail). Frees basis y.top.point g l) (same_Some x before (sym there ∙ got)) freed)

  stays_alike : (given : Option Value) (next : PointerTo) (x : Thread) (ds : List (List ℕ)) → own_trail (moved_on given (turn.OnAt next) x) ds ≡ own_trail x ds
  stays_alike None next x ds = refl
  stays_alike (Some v) next x ds = refl

  -- what accesses cells begins no thread and bears no object
  access_plain : (e : Changed) → IsMade program s t thread w action e → IsAccess (effect_of action) → IsPlain e
  access_plain effect.Nothing made access = tt
  access_plain (effect.PutSlot slot v) made access = tt
  access_plain (effect.PutValue cell v) made access = tt
  access_plain (effect.PutMutex cell m) made access = tt
  access_plain (effect.PutCondition cell m) made access = tt
  access_plain (effect.Begin call) (a, is) access = subst (λ (x : Action). IsAccess (effect_of x)) is access
  access_plain (effect.Join u) made access = tt
  access_plain (effect.Detach u) made access = tt
  access_plain (effect.Bear birth) (ty, count, zero, is) access = subst (λ (x : Action). IsAccess (effect_of x)) is access
  access_plain (effect.End o) made access = tt

  -- it accesses a cell and comes next to another one
  on_moves : (given : Option Value) (next : PointerTo) (e : Changed) → IsAccess (effect_of action) → IsPlain e → Moved (Goes (record { gives = given; turn = turn.OnAt next; effect = e }))
  on_moves given next e access plain = record {
    act = other;
    trails = TrailsMove.still
        (trails_after e (plain_begins e plain) (gone_to s t given (turn.OnAt next)) ∙ trails_stay s.threads contexts.frames t (moved_on given (turn.OnAt next)) (stays_alike given next))
        (none_freed IsAccess (λ a h. h) access);
    more = [];
    makes = MakesRoots.none other;
    roots = roots_after e plain;
  }

  end_thread_moves : IsIdle (effect_of action) → Moved EndThread
  end_thread_moves idle = record {
    act = other;
    trails = TrailsMove.still
        (ap (λ (o : Option Thread). trails_of (option_map_or (thread_ended t s) o s).threads contexts.frames) acts.performs.there ∙ trails_stay s.threads contexts.frames t finished (λ x ds. refl))
        (none_freed IsIdle (λ a h. h) idle);
    more = [];
    makes = MakesRoots.none other;
    roots = no_roots;
  }

  end_process_moves : IsIdle (effect_of action) → Moved EndProcess
  end_process_moves idle = record {
    act = other;
    trails = TrailsMove.still (ap (λ (o : Option Thread). trails_of (option_map_or (process_ended t s) o s).threads contexts.frames) acts.performs.there) (none_freed IsIdle (λ a h. h) idle);
    more = [];
    makes = MakesRoots.none other;
    roots = no_roots;
  }

  -- ---- it enters a function

  enter_moves : (call : Call) → IsCalling program thread.frame c call.function (entered_context program p call.function c) → entry_of program call.function ≡ Some call.entry → Moved (Enter call)
  enter_moves call calls entry = record {
    act = inward call.function;
    trails = TrailsMove.one before after got (Moves.calls left (stay p c) (stay call.entry d) begins) all;
    more = locals_of program call.function;
    makes = MakesRoots.locals call.function (locals_of program call.function) (locals_differ program call.function) (local_root program call.function);
    roots = roots_called program contexts.homes call.function d;
  }
    where
      d : List ℕ
      d = entered_context program p call.function c

      after : Trail
      after = trail (left ++ left_at (stay p c) false ∷ []) (stay call.entry d)

      begins : Begins basis (stay p c) false (stay call.entry d)
      begins = begins_by basis es followed p f call.function call.entry c d false (call_goes basis es followed names contexts.homes thread.frame f call.function c d own calls) entry

      inside : Thread
      inside = calling (made_by program s call).frame thread

      own_after : own_trail inside (cs ++ d ∷ []) ≡ after
      own_after =
          let many = framed in
          let long = length-append thread.below (thread.frame ∷ []) in
          own_is inside cs d (omega (arith, many, long))
          ∙ ap (λ (ls : List Left). trail ls (stay call.entry d))
          (ap (λ (ds : List (List ℕ)). lefts (thread.below ++ thread.frame ∷ []) ds) cs_are ∙ lefts_more thread.below below_cs thread.frame c below_many)

      all : trails_of (changed_at s.threads t (calling (made_by program s call).frame)) (changed_at contexts.frames t (λ ds. ds ++ d ∷ [])) ≡ slice_set trails t after
      all =
          trails_changed_both s.threads contexts.frames t (calling (made_by program s call).frame) (λ ds. ds ++ d ∷ []) thread cs acts.performs.there acts.performs.in_contexts
          ∙ ap (λ (x : Trail). slice_set trails t x) own_after

  -- ---- it returns

  leave_moves : (v : Option Value) (q : ℕ) → IsLeaving program s t thread w action q → IsReturnRight program basis.labels es contexts.homes cs thread v q → Moved (Leave v q)
  leave_moves v q leaving right = record {
    act = other;
    trails = TrailsMove.one (trail (lower ++ left_at (stay caller.point d) false ∷ []) (stay p c)) (trail lower (stay q d)) got_too
        (Moves.returns lower (stay caller.point d) (stay p c) q enters returns next) all;
    more = [];
    makes = MakesRoots.none other;
    roots = no_roots;
  }
    where
      caller : Frame
      caller = right.caller

      below : Caller program basis.labels es contexts s t w f thread cs c action ch acts right.caller
      below = caller_sound program basis.labels es contexts s t w f thread cs c action ch acts right.caller right.calls

      d : List ℕ
      d = below.context

      lower_frames : List Frame
      lower_frames = take (length thread.below - 1) thread.below

      lower_cs : List (List ℕ)
      lower_cs = take (length below_cs - 1) below_cs

      lower : List Left
      lower = lefts lower_frames lower_cs

      frames_are : thread.below ≡ lower_frames ++ caller ∷ []
      frames_are = front_and_last thread.below caller right.calls

      held_below : slice_get below_cs (length below_cs - 1) ≡ Some d
      held_below =
          let within = slice_get_within thread.below (length thread.below - 1) caller right.calls in
          let many = below_many in
          ap (λ n. slice_get below_cs (n - 1)) below_many
          ∙ was_left below_cs (c ∷ []) (length thread.below - 1) d (omega (arith, within, many))
          (ap (λ (ds : List (List ℕ)). slice_get ds (length thread.below - 1)) (sym cs_are) ∙ below.in_context)

      contexts_are : below_cs ≡ lower_cs ++ d ∷ []
      contexts_are = front_and_last below_cs d held_below

      lower_many : length lower_cs ≡ length lower_frames
      lower_many =
          let one = length-append lower_cs (d ∷ []) in
          let two = length-append lower_frames (caller ∷ []) in
          let cs_whole = ap length contexts_are in
          let frames_whole = ap length frames_are in
          let many = below_many in
          omega (arith, one, two, cs_whole, frames_whole, many)

      left_are : left ≡ lower ++ left_at (stay caller.point d) false ∷ []
      left_are =
          ap (λ (frames : List Frame). lefts frames below_cs) frames_are ∙ ap (λ (ds : List (List ℕ)). lefts (lower_frames ++ caller ∷ []) ds) contexts_are
          ∙ lefts_more lower_frames lower_cs caller d lower_many

      got_too : slice_get trails t ≡ Some (trail (lower ++ left_at (stay caller.point d) false ∷ []) (stay p c))
      got_too = got ∙ ap (λ (ls : List Left). Some (trail ls (stay p c))) left_are

      enters : Enters basis (stay caller.point d) false (stay p c)
      enters =
          enters_by basis es followed caller.point below.function f p d c false
          (call_goes basis es followed names contexts.homes caller below.function f d c below.sound below.called) acts.performs.stands

      returns : IsReturn basis p
      returns = return_is basis es followed p f leaving.operand_ own.live acts.performs.stands (at ∙ ap (λ (x : Action). Some x) leaving.is)

      next : IsLiveNext program caller.point q
      next =
          let same : leaving.caller ≡ caller = same_Some leaving.caller caller (sym leaving.below ∙ right.calls) in
          (subst (λ (x : Frame). IsNext program x.point q) same (has_got _ 0 q leaving.next), right.goes.live)

      left_is : leaves t s v q ≡ left_in t s v q thread caller
      left_is =
          ap (λ o. option_map_or (λ x. option_map_or (left_in t s v q x) (caller_of x) s) o s) acts.performs.there ∙ ap (λ o. option_map_or (left_in t s v q thread) o s) right.calls

      own_after : own_trail (back_in v q caller thread) below_cs ≡ trail lower (stay q d)
      own_after = ap (λ (ds : List (List ℕ)). own_trail (back_in v q caller thread) ds) contexts_are ∙ own_is (back_in v q caller thread) lower_cs d lower_many

      all : trails_of (leaves t s v q).threads (changed_at contexts.frames t (λ ds. take (length ds - 1) ds)) ≡ slice_set trails t (trail lower (stay q d))
      all =
          ap (λ (x : State). trails_of x.threads (changed_at contexts.frames t (λ ds. take (length ds - 1) ds))) left_is
          ∙ trails_changed_both s.threads contexts.frames t (back_in v q caller) (λ ds. take (length ds - 1) ds) thread cs acts.performs.there acts.performs.in_contexts
          ∙ ap (λ (x : Trail). slice_set trails t x) own_after

  -- ---- each change

  by_turn : (given : Option Value) (to : Turn) (e : Changed) → IsGoing program s t thread w action (record { gives = given; turn = to; effect = e }) →
      IsChangeRight program basis.labels es contexts t thread f cs c (Goes (record { gives = given; turn = to; effect = e })) → Moved (Goes (record { gives = given; turn = to; effect = e }))
  by_turn given (turn.To q) e going right = to_moves given q e going right
  by_turn given (turn.OnAt next) e going right = on_moves given next e going.turns (access_plain e going.made going.turns)

  by_change : (change : Change) → IsKind program s t thread w action change → IsChangeRight program basis.labels es contexts t thread f cs c change → Moved change
  by_change (Goes going) kind right = by_turn going.gives going.turn going.effect kind right
  by_change (Enter call) kind right = enter_moves call right.0 right.1.begins
  by_change (Leave v q) kind right = leave_moves v q kind right
  by_change EndThread kind right = end_thread_moves kind
  by_change EndProcess kind right = end_process_moves kind

pub steps_move_trails : StepsMoveTrails
steps_move_trails basis es followed contexts s s2 t w sound step =
    let found = performing basis.program basis.labels es followed.analysed contexts s s2 t w sound step in
    let acts = found.acts in
    let right =
    changes_are_right basis.program basis.labels es followed.analysed contexts s sound t w found.function step.thread found.frames (own_context contexts t)
    found.action step.change acts.performs acts.defined acts.does in
    let kind = by_action basis.program s t step.thread w step.change found.action acts.does in
    subst (λ (x : State). Steps basis t contexts s (contexts_next basis.program contexts t step.thread step.change) x) (sym step.is)
    (by_change basis es followed (names_function basis es followed.analysed) contexts s t w found.function step.thread found.frames found.action step.change acts step.change kind right)
