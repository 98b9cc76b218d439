-- Lists of threads and objects with one of them changed.
use Rattle.std.proofs.Common.{◌≡◌, ℕ, ◌<◌, ◌≤◌, ◌-◌, zero, suc, Bool, List, [], ◌∷◌, ◌++◌, length, take, Option, Some, refl, ap, sym, ◌∙◌, arith, length-append}
use Rattle.std.proofs.lemmas.Option.{slice_get_past}
use Rattle.std.specs.Prelude.{slice_get, slice_set}
use Rattle.lk_values.specs.declared.value.Value.{Value}
use Rattle.lk_cells.specs.Cells.{after_life}
use Rattle.lk_cells.specs.declared.object.Object.{Object}
use Rattle.lk_cells.specs.declared.state.Frame.{Frame}
use Rattle.lk_cells.specs.declared.state.State.{State}
use Rattle.lk_cells.specs.declared.state.Thread.{Thread}
use Rattle.lk_facts.specs.declared.program.Program.{Program}
use Rattle.lk_change.specs.declared.change.Call.{Call}
use Rattle.lk_birth.specs.Births.{changed_at, made_for, new_thread}
use Rattle.lk_birth.specs.declared.births.Made.{Made}
use Rattle.lk_birth.proofs.Changed.{set_back, set_changed, set_twice, take_set, changed_twice, length_changed}
use Rattle.lk_meaning.specs.After.{after_lives, back_in, calling, entered, leaves, made_by, returned, with_begun, with_created}

-- nothing is put past the end
pub set_past : {X : Type 0} → (xs : List X) (i : ℕ) (x : X) → length xs ≤ i → slice_set xs i x ≡ xs
set_past [] i x past = refl
set_past (y ∷ xs) zero x past = absurd (omega (arith, past))
set_past (y ∷ xs) (suc i) x past = ap (λ zs. y ∷ zs) (set_past xs i x (omega (arith, past)))

-- the life of an object that is there ends
pub life_ended : (objects now : List Object) (i : ℕ) (a x : Object) → slice_get objects i ≡ Some x → now ≡ slice_set objects i a →
    slice_set now i (after_life x) ≡ changed_at objects i after_life
life_ended objects now i a x there put = ap (λ xs. slice_set xs i (after_life x)) put ∙ set_changed objects i a x (after_life x) after_life there refl

-- a thread goes on and keeps a number, with another thread put behind all
pub threads_begun : (xs : List Thread) (y : Thread) (t : ℕ) (f : Thread → Thread) → t < length xs →
    changed_at (changed_at (xs ++ y ∷ []) t f) t (with_created (length xs)) ≡ changed_at (changed_at xs t f) t (with_created (length (changed_at xs t f))) ++ y ∷ []
threads_begun xs y t f within =
    changed_twice xs (y ∷ []) t f (with_created (length xs)) within ∙ ap (λ n. changed_at (changed_at xs t f) t (with_created n) ++ y ∷ []) (sym (length_changed xs t f))

pub begun_is : (xs pushed gone : List Thread) (frame : Frame) (t count : ℕ) (f : Thread → Thread) → t < length xs → count ≡ length xs → pushed ≡ xs ++ new_thread frame ∷ [] → gone ≡ changed_at pushed t f →
    changed_at gone t (with_created count) ≡ with_begun t frame (changed_at xs t f)
begun_is xs pushed gone frame t count f within count_is pushed_is gone_is =
    ap (λ ys. changed_at ys t (with_created count)) (gone_is ∙ ap (λ ys. changed_at ys t f) pushed_is)
    ∙ ap (λ n. changed_at (changed_at (xs ++ new_thread frame ∷ []) t f) t (with_created n)) count_is ∙ threads_begun xs (new_thread frame) t f within

-- a thread that is there is there still
pub still_within : (xs ys : List Thread) (t : ℕ) (f : Thread → Thread) → t < length xs → t < length (changed_at (xs ++ ys) t f)
still_within xs ys t f within = let longer = length_changed (xs ++ ys) t f in let more = length-append xs ys in omega (arith, within, longer, more)

-- a thread in another frame, with other frames below
abbrev thread_of : Frame → List Frame → Thread → Thread
thread_of frame below x = record x { frame = frame; below = below }

-- a thread goes into a frame
pub called : (xs : List Thread) (i : ℕ) (a x : Thread) (frame : Frame) (below : List Frame) → slice_get xs i ≡ Some x → below ≡ x.below ++ x.frame ∷ [] →
    slice_set (slice_set xs i a) i (record { frame = frame; below = below; ended = x.ended; joined = x.joined; detached = x.detached }) ≡ changed_at xs i (calling frame)
called xs i a x frame below there is = set_changed xs i a x (thread_of frame below x) (calling frame) there (ap (λ bs. thread_of frame bs x) is)

abbrev state_of : List Object → List Thread → Bool → State
state_of objects threads ended = record { objects = objects; threads = threads; ended = ended }

-- a thread enters a function
pub entered_is : (program : Program) (s : State) (t : ℕ) (call : Call) (made : Made) (objects : List Object) (threads : List Thread) (first : ℕ) (args : List Value) →
    made ≡ made_for program first call.function call.entry args → first ≡ length s.objects → args ≡ call.args → objects ≡ s.objects ++ made.objects → threads ≡ changed_at s.threads t (calling made.frame) →
    state_of objects threads s.ended ≡ entered t s (made_by program s call)
entered_is program s t call made objects threads first args is first_is args_is objects_is threads_is =
    let made_is : made ≡ made_by program s call =
    is ∙ ap (λ n. made_for program n call.function call.entry args) first_is ∙ ap (λ xs. made_for program (length s.objects) call.function call.entry xs) args_is in
    ap (λ os. state_of os threads s.ended) objects_is ∙ ap (λ ts. state_of (s.objects ++ made.objects) ts s.ended) threads_is ∙ ap (λ m. entered t s m) made_is

module _ (s : State) (t : ℕ) (v : Option Value) (q : ℕ) (a x : Thread) (there : slice_get s.threads t ≡ Some x) where
  -- a thread without a caller stays as it is
  pub left_none : length x.below ≡ 0 → state_of s.objects (slice_set (slice_set s.threads t a) t x) s.ended ≡ leaves t s v q
  left_none none = rw there (rw (slice_get_past x.below (length x.below - 1) (omega (arith, none))) (ap (λ xs. state_of s.objects xs s.ended) (set_back s.threads t a x there)))

  -- a thread goes back to its caller
  pub left_some : (k : ℕ) (b caller now : Frame) (below : List Frame) (objects : List Object) → k ≡ length x.below - 1 → slice_get x.below k ≡ Some caller →
      now ≡ returned v q caller → below ≡ take k (slice_set x.below k b) → objects ≡ after_lives s.objects x.frame.locals →
      state_of objects (slice_set (slice_set s.threads t a) t (thread_of now below x)) s.ended ≡ leaves t s v q
  left_some k b caller now below objects last found now_is below_is objects_is =
      let caller_there : slice_get x.below (length x.below - 1) ≡ Some caller = ap (λ n. slice_get x.below n) (sym last) ∙ found in
      let cut : below ≡ take (length x.below - 1) x.below = below_is ∙ take_set x.below k b ∙ ap (λ n. take n x.below) last in
      let thread_is : thread_of now below x ≡ back_in v q caller x = ap (λ f. thread_of f below x) now_is ∙ ap (λ bs. thread_of (returned v q caller) bs x) cut in
      let threads_is : slice_set (slice_set s.threads t a) t (thread_of now below x) ≡ slice_set s.threads t (back_in v q caller x) =
      set_twice s.threads t a (thread_of now below x) ∙ ap (λ y. slice_set s.threads t y) thread_is in
      rw there (rw caller_there (rw there
      (ap (λ os. state_of os (slice_set (slice_set s.threads t a) t (thread_of now below x)) s.ended) objects_is ∙ ap (λ xs. state_of (after_lives s.objects x.frame.locals) xs s.ended) threads_is)))
