-- What is read from the objects of a state after a change.
use Rattle.std.proofs.Common.{◌≡◌, ℕ, ◌<◌, zero, suc, List, [], ◌∷◌, ◌++◌, length, Option, None, Some, refl, sym, ap, ◌∙◌, subst, inl, inr, ◌⊎◌, arith}
use Rattle.std.proofs.lemmas.Option.{none-some}
use Rattle.std.specs.Option.{option_and_then, option_map_or}
use Rattle.std.specs.Prelude.{slice_get, slice_set}
use Rattle.lk_facts.specs.declared.program.Program.{Program}
use Rattle.lk_base.specs.declared.cell.CellStep.{CellStep}
use Rattle.lk_values.specs.declared.cell.Cell.{Cell}
use Rattle.lk_values.specs.declared.value.Value.{Value}
use Rattle.lk_cells.specs.Cells.{after_life}
use Rattle.lk_cells.specs.declared.object.Object.{Object}
use Rattle.lk_cells.specs.declared.state.Frame.{Frame}
use Rattle.lk_cells.specs.declared.state.Local.{Local}
use Rattle.lk_cells.specs.declared.state.State.{State}
use Rattle.lk_cells.specs.declared.state.Thread.{Thread}
use Rattle.lk_change.specs.Calls.{caller_of}
use Rattle.lk_change.specs.declared.change.Change.{Change}
use Rattle.lk_change.specs.declared.change.Change.TheVariants.{Goes, Enter, Leave, EndThread, EndProcess}
use Rattle.lk_change.specs.declared.change.Effect.{Effect}
use Rattle.lk_change.specs.declared.change.Effect.TheVariants as effect
use Rattle.lk_birth.specs.Births.{changed_at}
use Rattle.lk_meaning.specs.After.{with_put, after_change, after_effect, after_lives, after_frames, gone_to, left, thread_ended, process_ended}
use Rattle.lk_meaning.specs.declared.applying.Put.{Put}
use Rattle.lk_meaning.specs.declared.applying.Put.TheVariants as put
use Rattle.lk_meaning.proofs.CellLemmas.{IsReader}

-- ---- lists

pub get_set_same : {X : Type 0} → (xs : List X) (i : ℕ) (x y : X) → slice_get xs i ≡ Some x → slice_get (slice_set xs i y) i ≡ Some y
get_set_same [] i x y there = absurd (none-some x there)
get_set_same (z ∷ xs) zero x y there = refl
get_set_same (z ∷ xs) (suc i) x y there = get_set_same xs i x y there

pub get_set_other : {X : Type 0} → (xs : List X) (i n : ℕ) (y : X) → (n ≡ i → ⊥) → slice_get (slice_set xs i y) n ≡ slice_get xs n
get_set_other [] i n y other = refl
get_set_other (z ∷ xs) zero zero y other = absurd (other refl)
get_set_other (z ∷ xs) zero (suc n) y other = refl
get_set_other (z ∷ xs) (suc i) zero y other = refl
get_set_other (z ∷ xs) (suc i) (suc n) y other = get_set_other xs i n y (λ same. other (ap suc same))

pub is_same : (n i : ℕ) → (n ≡ i) ⊎ (n ≡ i → ⊥)
is_same zero zero = inl refl
is_same zero (suc i) = inr (λ h. absurd (omega (arith, h)))
is_same (suc n) zero = inr (λ h. absurd (omega (arith, h)))
is_same (suc n) (suc i) = elim (is_same n i) [ inl same ↦ inl (ap suc same) | inr other ↦ inr (λ h. other (omega (arith, h))) ]

pub get_left : {X : Type 0} → (xs ys : List X) (i : ℕ) → i < length xs → slice_get (xs ++ ys) i ≡ slice_get xs i
get_left [] ys i within = absurd (omega (arith, within))
get_left (x ∷ xs) ys zero within = refl
get_left (x ∷ xs) ys (suc i) within = get_left xs ys i (omega (arith, within))

-- an element changed, and how it is read
module _ {X Y : Type 0} (read : X → Option Y) where
  abbrev pub read_at : List X → ℕ → Option Y
  read_at xs n = option_and_then read (slice_get xs n)

  -- where the change isn't read
  kept_by : (xs : List X) (i n : ℕ) (f : X → X) → ((x : X) → read (f x) ≡ read x) → (found : Option X) → slice_get xs i ≡ found →
      read_at (option_map_or (λ x. slice_set xs i (f x)) found xs) n ≡ read_at xs n
  kept_by xs i n f kept None is = refl
  kept_by xs i n f kept (Some x) is = elim (is_same n i) [
    | inl same ↦ subst (λ k. read_at (slice_set xs i (f x)) k ≡ read_at xs k) (sym same) (rw (get_set_same xs i x (f x) is) (rw is (kept x)))
    | inr other ↦ ap (λ o. option_and_then read o) (get_set_other xs i n (f x) other)
  ]

  pub kept_changed : (xs : List X) (i n : ℕ) (f : X → X) → ((x : X) → read (f x) ≡ read x) → read_at (changed_at xs i f) n ≡ read_at xs n
  kept_changed xs i n f kept = kept_by xs i n f kept (slice_get xs i) refl

  other_by : (xs : List X) (i n : ℕ) (f : X → X) → (n ≡ i → ⊥) → (found : Option X) → read_at (option_map_or (λ x. slice_set xs i (f x)) found xs) n ≡ read_at xs n
  other_by xs i n f other None = refl
  other_by xs i n f other (Some x) = ap (λ o. option_and_then read o) (get_set_other xs i n (f x) other)

  pub other_changed : (xs : List X) (i n : ℕ) (f : X → X) → (n ≡ i → ⊥) → read_at (changed_at xs i f) n ≡ read_at xs n
  other_changed xs i n f other = other_by xs i n f other (slice_get xs i)

  same_by : (xs : List X) (i : ℕ) (f : X → X) (found : Option X) → slice_get xs i ≡ found →
      read_at (option_map_or (λ x. slice_set xs i (f x)) found xs) i ≡ option_and_then (λ x. read (f x)) found
  same_by xs i f None is = rw is refl
  same_by xs i f (Some x) is = rw (get_set_same xs i x (f x) is) refl

  -- where the changed element is read
  pub same_changed : (xs : List X) (i : ℕ) (f : X → X) → read_at (changed_at xs i f) i ≡ option_and_then (λ x. read (f x)) (slice_get xs i)
  same_changed xs i f = same_by xs i f (slice_get xs i) refl

  pub kept_left : (xs ys : List X) (n : ℕ) → n < length xs → read_at (xs ++ ys) n ≡ read_at xs n
  kept_left xs ys n within = ap (λ o. option_and_then read o) (get_left xs ys n within)

-- ---- states

-- what the effect of a change is
abbrev pub effect_of : Change → Effect
effect_of (Goes going) = going.effect
effect_of (Enter call) = effect.Nothing
effect_of (Leave v q) = effect.Nothing
effect_of EndThread = effect.Nothing
effect_of EndProcess = effect.Nothing

-- the effect that puts a thing into a cell
abbrev pub putting : Cell → Put → Effect
putting c (put.Value v) = effect.PutValue c v
putting c (put.Mutex m) = effect.PutMutex c m
putting c (put.Condition k) = effect.PutCondition c k

module _ {X : Type 0} (read : Object → List CellStep → Option X) (Kind : Put → Type 0) (reads : IsReader read Kind) where
  abbrev pub at : List Object → Cell → Option X
  at objects c = option_and_then (λ object. read object c.path) (slice_get objects c.object)

  lives_kept : (objects : List Object) (locals : List Local) (c : Cell) → at (after_lives objects locals) c ≡ at objects c
  lives_kept objects [] c = refl
  lives_kept objects (local ∷ more) c =
      lives_kept (changed_at objects local.object after_life) more c ∙ kept_changed (λ object. read object c.path) objects local.object c.object after_life (λ object. reads.life object c.path)

  frames_kept : (objects : List Object) (frames : List Frame) (c : Cell) → at (after_frames objects frames) c ≡ at objects c
  frames_kept objects [] c = refl
  frames_kept objects (frame ∷ more) c = frames_kept (after_lives objects frame.locals) more c ∙ lives_kept objects frame.locals c

  -- what a cell holds after an effect: what it held, or the effect puts something into it
  abbrev pub KeptOrPut : List Object → List Object → Effect → Cell → Type 0
  KeptOrPut before after e c = (at after c ≡ at before c) ⊎ ((item : Put) × (e ≡ putting c item) × Kind item)

  abbrev cell_at : ℕ → List CellStep → Cell
  cell_at object path = record { object = object; path = path }

  one_cell : (c d : Cell) → c.object ≡ d.object → c.path ≡ d.path → c ≡ d
  one_cell c d object path = ap (λ o. cell_at o c.path) object ∙ ap (λ p. cell_at d.object p) path

  put_by : (objects : List Object) (c d : Cell) (item : Put) (found : Option Object) → slice_get objects d.object ≡ found → c.object ≡ d.object →
      (option_and_then (λ x. read (with_put d.path item x) c.path) found ≡ option_and_then (λ x. read x c.path) found) ⊎ ((d ≡ c) × Kind item)
  put_by objects c d item None is same = inl refl
  put_by objects c d item (Some x) is same = elim (reads.puts x d.path c.path item) [
    | inl kept ↦ inl kept
    | inr there ↦ inr (one_cell d c (sym same) there.0, there.1)
  ]

  put_kept : (objects : List Object) (c d : Cell) (item : Put) → KeptOrPut objects (changed_at objects d.object (with_put d.path item)) (putting d item) c
  put_kept objects c d item = elim (is_same c.object d.object) [
    | inl same ↦ elim (put_by objects c d item (slice_get objects d.object) refl same) [
      | inl kept ↦ inl (subst (λ n. option_and_then (λ x. read x c.path) (slice_get (changed_at objects d.object (with_put d.path item)) n) ≡ option_and_then (λ x. read x c.path) (slice_get objects n)) (sym same)
          (same_changed (λ x. read x c.path) objects d.object (with_put d.path item) ∙ kept))
      | inr there ↦ inr (item, ap (λ e. putting e item) there.0, there.1)
    ]
    | inr other ↦ inl (other_changed (λ x. read x c.path) objects d.object c.object (with_put d.path item) other)
  ]

  module _ (program : Program) (t : ℕ) where
    effect_kept : (s : State) (e : Effect) (c : Cell) → c.object < length s.objects → KeptOrPut s.objects (after_effect program t s e).objects e c
    effect_kept s effect.Nothing c there = inl refl
    effect_kept s (effect.PutSlot slot v) c there = inl refl
    effect_kept s (effect.PutValue d v) c there = put_kept s.objects c d (put.Value v)
    effect_kept s (effect.PutMutex d m) c there = put_kept s.objects c d (put.Mutex m)
    effect_kept s (effect.PutCondition d k) c there = put_kept s.objects c d (put.Condition k)
    effect_kept s (effect.Begin call) c there = inl (kept_left (λ x. read x c.path) s.objects _ c.object there)
    effect_kept s (effect.Join u) c there = inl refl
    effect_kept s (effect.Detach u) c there = inl refl
    effect_kept s (effect.Bear birth) c there = inl (kept_left (λ x. read x c.path) s.objects _ c.object there)
    effect_kept s (effect.End o) c there = inl (kept_changed (λ x. read x c.path) s.objects o c.object after_life (λ x. reads.life x c.path))

    left_kept : (s : State) (v : Option Value) (q : ℕ) (thread : Thread) (c : Cell) (caller : Option Frame) → at (option_map_or (left t s v q thread) caller s).objects c ≡ at s.objects c
    left_kept s v q thread c None = refl
    left_kept s v q thread c (Some caller) = lives_kept s.objects thread.frame.locals c

    leaving_kept : (s : State) (v : Option Value) (q : ℕ) (c : Cell) (found : Option Thread) →
        at (option_map_or (λ thread. option_map_or (left t s v q thread) (caller_of thread) s) found s).objects c ≡ at s.objects c
    leaving_kept s v q c None = refl
    leaving_kept s v q c (Some thread) = left_kept s v q thread c (caller_of thread)

    ending_kept : (s : State) (c : Cell) (found : Option Thread) → at (option_map_or (thread_ended t s) found s).objects c ≡ at s.objects c
    ending_kept s c None = refl
    ending_kept s c (Some thread) = frames_kept s.objects (thread.frame ∷ thread.below) c

    ended_kept : (s : State) (c : Cell) (found : Option Thread) → at (option_map_or (process_ended t s) found s).objects c ≡ at s.objects c
    ended_kept s c None = refl
    ended_kept s c (Some thread) = frames_kept s.objects (thread.frame ∷ thread.below) c

    -- what a cell of an object that was there holds after a change
    pub change_kept : (s : State) (change : Change) (c : Cell) → c.object < length s.objects → KeptOrPut s.objects (after_change program t s change).objects (effect_of change) c
    change_kept s (Goes going) c there = effect_kept (gone_to s t going.gives going.turn) going.effect c there
    change_kept s (Enter call) c there = inl (kept_left (λ x. read x c.path) s.objects _ c.object there)
    change_kept s (Leave v q) c there = inl (leaving_kept s v q c (slice_get s.threads t))
    change_kept s EndThread c there = inl (ending_kept s c (slice_get s.threads t))
    change_kept s EndProcess c there = inl (ended_kept s c (slice_get s.threads t))
