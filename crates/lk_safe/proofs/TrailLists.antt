-- The trails of a state's threads, as one of these is changed, gets a frame, or comes.
use Rattle.std.proofs.Common.{◌≡◌, ℕ, ◌-◌, zero, suc, false, List, [], ◌∷◌, ◌++◌, length, Option, None, Some, refl, sym, ap, ◌∙◌, arith, length-append}
use Rattle.std.proofs.lemmas.Option.{none-some, same_Some}
use Rattle.std.specs.Option.{option_map_or}
use Rattle.std.specs.Prelude.{slice_get, slice_set, unwrap_or}
use Rattle.lk_birth.specs.Births.{changed_at}
use Rattle.lk_cells.specs.declared.state.Frame.{Frame}
use Rattle.lk_cells.specs.declared.state.Thread.{Thread}
use Rattle.lk_right.specs.Contexts.{last_of}
use Rattle.lk_safe.specs.Owners.{lefts, own_trail, trails_of}
use Rattle.lk_sound.proofs.Elements.{get_last}
use Rattle.lk_trails.specs.Trails.{Left, Trail, stay, left_at, trail}

-- ---- the frames of a thread that called others

-- contexts behind those of the frames don't count
pub lefts_front : (below : List Frame) (cs more : List (List ℕ)) → length cs ≡ length below → lefts below (cs ++ more) ≡ lefts below cs
lefts_front [] cs more many = refl
lefts_front (frame ∷ below) [] more many = absurd (omega (arith, many))
lefts_front (frame ∷ below) (c ∷ cs) more many = ap (λ (ls : List Left). left_at (stay frame.point c) false ∷ ls) (lefts_front below cs more (omega (arith, many)))

-- one more frame that called
pub lefts_more : (below : List Frame) (cs : List (List ℕ)) (frame : Frame) (c : List ℕ) → length cs ≡ length below →
    lefts (below ++ frame ∷ []) (cs ++ c ∷ []) ≡ lefts below cs ++ left_at (stay frame.point c) false ∷ []
lefts_more [] [] frame c many = refl
lefts_more [] (d ∷ cs) frame c many = absurd (omega (arith, many))
lefts_more (x ∷ below) [] frame c many = absurd (omega (arith, many))
lefts_more (x ∷ below) (d ∷ cs) frame c many = ap (λ (ls : List Left). left_at (stay x.point d) false ∷ ls) (lefts_more below cs frame c (omega (arith, many)))

-- the last context is that of the frame in which the thread is
pub last_is : (cs : List (List ℕ)) (c : List ℕ) → last_of (cs ++ c ∷ []) ≡ c
last_is cs c = let long = length-append cs (c ∷ []) in ap (λ o. unwrap_or o []) (get_last cs c (length (cs ++ c ∷ []) - 1) (omega (arith, long)))

pub own_is : (thread : Thread) (cs : List (List ℕ)) (c : List ℕ) → length cs ≡ length thread.below → own_trail thread (cs ++ c ∷ []) ≡ trail (lefts thread.below cs) (stay thread.frame.point c)
own_is thread cs c many =
    ap (λ (ls : List Left). trail ls (stay thread.frame.point (last_of (cs ++ c ∷ [])))) (lefts_front thread.below cs (c ∷ []) many)
    ∙ ap (λ (d : List ℕ). trail (lefts thread.below cs) (stay thread.frame.point d)) (last_is cs c)

-- ---- the trails of all threads

pub trails_many : (threads : List Thread) (frames : List (List (List ℕ))) → length frames ≡ length threads → length (trails_of threads frames) ≡ length threads
trails_many [] frames many = refl
trails_many (x ∷ threads) [] many = absurd (omega (arith, many))
trails_many (x ∷ threads) (cs ∷ frames) many = ap suc (trails_many threads frames (omega (arith, many)))

-- the trail of a thread
pub trails_get : (threads : List Thread) (frames : List (List (List ℕ))) (t : ℕ) (thread : Thread) (cs : List (List ℕ)) → slice_get threads t ≡ Some thread → slice_get frames t ≡ Some cs →
    slice_get (trails_of threads frames) t ≡ Some (own_trail thread cs)
trails_get [] frames t thread cs there held = absurd (none-some thread there)
trails_get (x ∷ threads) [] t thread cs there held = absurd (none-some cs held)
trails_get (x ∷ threads) (ds ∷ frames) zero thread cs there held =
    ap (λ (y : Thread). Some (own_trail y ds)) (same_Some x thread there) ∙ ap (λ (es : List (List ℕ)). Some (own_trail thread es)) (same_Some ds cs held)
trails_get (x ∷ threads) (ds ∷ frames) (suc t) thread cs there held = trails_get threads frames t thread cs there held

-- a trail that is there is that of a thread
pub record OfThread (threads : List Thread) (frames : List (List (List ℕ))) (t : ℕ) (own : Trail) : Type 0 where
  pub thread : Thread
  pub contexts : List (List ℕ)
  pub there : slice_get threads t ≡ Some thread
  pub in_contexts : slice_get frames t ≡ Some contexts
  pub is : own ≡ own_trail thread contexts

pub trails_from : (threads : List Thread) (frames : List (List (List ℕ))) (t : ℕ) (own : Trail) → slice_get (trails_of threads frames) t ≡ Some own → OfThread threads frames t own
trails_from [] frames t own h = absurd (none-some own h)
trails_from (x ∷ threads) [] t own h = absurd (none-some own h)
trails_from (x ∷ threads) (cs ∷ frames) zero own h = record { thread = x; contexts = cs; there = refl; in_contexts = refl; is = same_Some own (own_trail x cs) (sym h) }
trails_from (x ∷ threads) (cs ∷ frames) (suc t) own h =
    let rest = trails_from threads frames t own h in
    record { thread = rest.thread; contexts = rest.contexts; there = rest.there; in_contexts = rest.in_contexts; is = rest.is }

-- another thread is put in the place of one; and so with its contexts
pub trails_set : (threads : List Thread) (frames : List (List (List ℕ))) (t : ℕ) (thread : Thread) (cs : List (List ℕ)) → slice_get frames t ≡ Some cs →
    trails_of (slice_set threads t thread) frames ≡ slice_set (trails_of threads frames) t (own_trail thread cs)
trails_set [] frames t thread cs held = refl
trails_set (x ∷ threads) [] t thread cs held = absurd (none-some cs held)
trails_set (x ∷ threads) (ds ∷ frames) zero thread cs held = ap (λ (es : List (List ℕ)). own_trail thread es ∷ trails_of threads frames) (same_Some ds cs held)
trails_set (x ∷ threads) (ds ∷ frames) (suc t) thread cs held = ap (λ (ts : List Trail). own_trail x ds ∷ ts) (trails_set threads frames t thread cs held)

pub trails_set_both : (threads : List Thread) (frames : List (List (List ℕ))) (t : ℕ) (thread : Thread) (cs : List (List ℕ)) →
    trails_of (slice_set threads t thread) (slice_set frames t cs) ≡ slice_set (trails_of threads frames) t (own_trail thread cs)
trails_set_both [] frames t thread cs = refl
trails_set_both (x ∷ threads) [] zero thread cs = refl
trails_set_both (x ∷ threads) [] (suc t) thread cs = refl
trails_set_both (x ∷ threads) (ds ∷ frames) zero thread cs = refl
trails_set_both (x ∷ threads) (ds ∷ frames) (suc t) thread cs = ap (λ (ts : List Trail). own_trail x ds ∷ ts) (trails_set_both threads frames t thread cs)

-- one that has the same frames
set_alike : (threads : List Thread) (frames : List (List (List ℕ))) (t : ℕ) (x y : Thread) → slice_get threads t ≡ Some x → ((cs : List (List ℕ)) → own_trail y cs ≡ own_trail x cs) →
    trails_of (slice_set threads t y) frames ≡ trails_of threads frames
set_alike [] frames t x y there alike = refl
set_alike (z ∷ threads) [] zero x y there alike = refl
set_alike (z ∷ threads) [] (suc t) x y there alike = refl
set_alike (z ∷ threads) (cs ∷ frames) zero x y there alike = ap (λ (own : Trail). own ∷ trails_of threads frames) (alike cs ∙ ap (λ (u : Thread). own_trail u cs) (same_Some x z (sym there)))
set_alike (z ∷ threads) (cs ∷ frames) (suc t) x y there alike = ap (λ (ts : List Trail). own_trail z cs ∷ ts) (set_alike threads frames t x y there alike)

-- one thread is changed; and so with its contexts
pub trails_changed : (threads : List Thread) (frames : List (List (List ℕ))) (t : ℕ) (f : Thread → Thread) (thread : Thread) (cs : List (List ℕ)) →
    slice_get threads t ≡ Some thread → slice_get frames t ≡ Some cs → trails_of (changed_at threads t f) frames ≡ slice_set (trails_of threads frames) t (own_trail (f thread) cs)
trails_changed threads frames t f thread cs there held =
    ap (λ (o : Option Thread). trails_of (option_map_or (λ x. slice_set threads t (f x)) o threads) frames) there ∙ trails_set threads frames t (f thread) cs held

pub trails_changed_both : (threads : List Thread) (frames : List (List (List ℕ))) (t : ℕ) (f : Thread → Thread) (g : List (List ℕ) → List (List ℕ)) (thread : Thread) (cs : List (List ℕ)) →
    slice_get threads t ≡ Some thread → slice_get frames t ≡ Some cs →
    trails_of (changed_at threads t f) (changed_at frames t g) ≡ slice_set (trails_of threads frames) t (own_trail (f thread) (g cs))
trails_changed_both threads frames t f g thread cs there held =
    ap (λ (o : Option Thread). trails_of (option_map_or (λ x. slice_set threads t (f x)) o threads) (changed_at frames t g)) there
    ∙ ap (λ (o : Option (List (List ℕ))). trails_of (slice_set threads t (f thread)) (option_map_or (λ ds. slice_set frames t (g ds)) o frames)) held
    ∙ trails_set_both threads frames t (f thread) (g cs)

-- a change that leaves the frames where they are
pub trails_stay : (threads : List Thread) (frames : List (List (List ℕ))) (t : ℕ) (f : Thread → Thread) → ((x : Thread) (cs : List (List ℕ)) → own_trail (f x) cs ≡ own_trail x cs) →
    trails_of (changed_at threads t f) frames ≡ trails_of threads frames
trails_stay threads frames t f alike = by (slice_get threads t) refl
  where
    by : (found : Option Thread) → slice_get threads t ≡ found → trails_of (option_map_or (λ x. slice_set threads t (f x)) found threads) frames ≡ trails_of threads frames
    by None there = refl
    by (Some x) there = set_alike threads frames t x (f x) there (alike x)

-- a thread comes
pub trails_more : (threads : List Thread) (frames : List (List (List ℕ))) (thread : Thread) (cs : List (List ℕ)) → length frames ≡ length threads →
    trails_of (threads ++ thread ∷ []) (frames ++ cs ∷ []) ≡ trails_of threads frames ++ own_trail thread cs ∷ []
trails_more [] [] thread cs many = refl
trails_more [] (ds ∷ frames) thread cs many = absurd (omega (arith, many))
trails_more (x ∷ threads) [] thread cs many = absurd (omega (arith, many))
trails_more (x ∷ threads) (ds ∷ frames) thread cs many = ap (λ (ts : List Trail). own_trail x ds ∷ ts) (trails_more threads frames thread cs (omega (arith, many)))
