-- What a step must do so that what is made once stays made once: one frame of one thread moves, frames may begin, in functions that weren't
-- entered before where they are entered once, and points are performed.
use Rattle.std.proofs.Common.{◌≡◌, ◌⊎◌, ◌+◌, ℕ, Bool, List, ◌++◌, length, Some, Contains, inl, inr, sym, ap, subst, subst₂, ◌∙◌}
use Rattle.std.specs.Prelude.{slice_get}
use Rattle.lk_facts.specs.Many.{IsOnce, IsOneOfKind}
use Rattle.lk_facts.specs.Places.{AreDifferent}
use Rattle.lk_facts.specs.Program.{function_at, root_at}
use Rattle.lk_facts.specs.declared.program.Program.{Program}
use Rattle.lk_facts.specs.declared.root.Root.{Root}
use Rattle.lk_facts.specs.declared.root.RootKind.TheVariants.{Local, Heap}
use Rattle.lk_trails.specs.Counting.{WasEntered, IsFrame, IsBeyond, IsMade, AreCounted}
use Rattle.lk_trails.specs.Counting.WasEntered.{first, by_site, by_value}
use Rattle.lk_trails.specs.Trails.{Trail}
use Rattle.lk_types.proofs.PlaceLemmas.{get-either}

module _ (program : Program) where
  -- Where a frame after a step comes from: it was there, and isn't the one that moved, the frame k of the thread u; it is the one that moved,
  -- which is now at x1; or it began.
  pub data Comes (old : List Trail) (u k x1 : ℕ) (c1 : Bool) (Begun : ℕ → ℕ → ℕ → Type 0) (t j x : ℕ) (called : Bool) : Type 0 where
    stays : IsFrame program old t j x called → (t ≡ u → j ≡ k → ⊥) → Comes old u k x1 c1 Begun t j x called
    moved : t ≡ u → j ≡ k → x ≡ x1 → called ≡ c1 → Comes old u k x1 c1 Begun t j x called
    begins : Begun t j x → Comes old u k x1 c1 Begun t j x called

  -- what must be so of the roots of the objects that a step makes
  pub record NewRoots (done later : List ℕ) (roots more : List ℕ) : Type 0 where
    pub different : AreDifferent more
    pub locals : (i r f : ℕ) (root : Root) → slice_get more i ≡ Some r → root_at program r ≡ Some root → root.kind ≡ Local → root.function ≡ Some f → WasEntered program later f
    pub heaps : (i r p : ℕ) (root : Root) (one : Bool) → slice_get more i ≡ Some r → root_at program r ≡ Some root → root.kind ≡ Heap one → root.point ≡ Some p → Contains later p
    pub first_one : (o i r : ℕ) (root : Root) → IsMade program roots o r → slice_get more i ≡ Some r → root_at program r ≡ Some root → IsOneOfKind program root.kind root → ⊥

  -- what a step does to frames, to the points that were performed and to the roots of objects
  pub record Changes (done later : List ℕ) (old new : List Trail) (roots more : List ℕ) : Type 1 where
    -- the frame k of the thread u goes from x0 to x1 in its function
    pub u : ℕ
    pub k : ℕ
    pub x0 : ℕ
    pub c0 : Bool
    pub x1 : ℕ
    pub c1 : Bool
    pub was : IsFrame program old u k x0 c0
    pub same : function_at program x1 ≡ function_at program x0
    pub on : (p : ℕ) → IsBeyond program p x0 c0 → IsBeyond program p x1 c1
    -- others begin: each in a function that is entered now, and wasn't before, if it has a point that is performed once
    pub Begun : ℕ → ℕ → ℕ → Type 0
    pub each : (t j x : ℕ) (called : Bool) → IsFrame program new t j x called → Comes old u k x1 c1 Begun t j x called
    pub single : (t j x s i y : ℕ) → Begun t j x → Begun s i y → (t ≡ s) × (j ≡ i)
    pub entered : (t j x g : ℕ) → Begun t j x → function_at program x ≡ Some g → WasEntered program later g
    pub fresh : (t j x g p : ℕ) → Begun t j x → function_at program x ≡ Some g → IsOnce program p → function_at program p ≡ Some g → WasEntered program done g → ⊥
    -- the point of the frame is performed, if any
    pub keeps : (p : ℕ) → Contains done p → Contains later p
    pub split : (p : ℕ) → Contains later p → Contains done p ⊎ ((p ≡ x0) × IsBeyond program p x1 c1)
    pub objects : NewRoots done later roots more

  module _ (done later : List ℕ) (old new : List Trail) (roots more : List ℕ) (counted : AreCounted program done old roots) (step : Changes done later old new roots more) where
    -- a function that was entered was entered
    still : {f : ℕ} → WasEntered program done f → WasEntered program later f
    still (first is) = first is
    still (by_site q at has) = by_site q at (step.keeps q has)
    still (by_value i at) = by_value i at

    -- the frame j of the thread t was in the function f before the step
    record WasFrame (t j f : ℕ) : Type 0 where
      at : ℕ
      called : Bool
      frame : IsFrame program old t j at called
      of : function_at program at ≡ Some f

    moving : (f : ℕ) → function_at program step.x1 ≡ Some f → WasFrame step.u step.k f
    moving f of = record { at = step.x0; called = step.c0; frame = step.was; of = sym step.same ∙ of }

    -- a frame in a function was there, or began
    earlier : (t j x f : ℕ) (called : Bool) → IsFrame program new t j x called → function_at program x ≡ Some f → WasFrame t j f ⊎ step.Begun t j x
    earlier t j x f called frame of = by (step.each t j x called frame)
      where
        by : Comes old step.u step.k step.x1 step.c1 step.Begun t j x called → WasFrame t j f ⊎ step.Begun t j x
        by (stays was apart) = inl (record { at = x; called = called; frame = was; of = of })
        by (moved thread number at how) = inl (subst₂ (λ s i. WasFrame s i f) (sym thread) (sym number) (moving f (subst (λ y. function_at program y ≡ Some f) at of)))
        by (begins new) = inr new

    -- the function of the point that is performed was entered
    performing : (p f : ℕ) → p ≡ step.x0 → function_at program p ≡ Some f → WasEntered program done f
    performing p f is of = counted.frames step.u step.k step.x0 f step.c0 step.was (subst (λ y. function_at program y ≡ Some f) is of)

    frames_on : (t j x f : ℕ) (called : Bool) → IsFrame program new t j x called → function_at program x ≡ Some f → WasEntered program later f
    frames_on t j x f called frame of = elim (earlier t j x f called frame of) [
      | inl was ↦ still (counted.frames t j was.at f was.called was.frame was.of)
      | inr new ↦ step.entered t j x f new of
    ]

    points_on : (p f : ℕ) → Contains later p → function_at program p ≡ Some f → WasEntered program later f
    points_on p f has of = elim (step.split p has) [
      | inl was ↦ still (counted.points p f was of)
      | inr now ↦ still (performing p f now.0 of)
    ]

    alone_on : (p f : ℕ) → IsOnce program p → function_at program p ≡ Some f → (t j x s i y : ℕ) (a b : Bool) → IsFrame program new t j x a → function_at program x ≡ Some f →
        IsFrame program new s i y b → function_at program y ≡ Some f →
        (t ≡ s) × (j ≡ i)
    alone_on p f once of t j x s i y a b frame_x of_x frame_y of_y = by (earlier t j x f a frame_x of_x) (earlier s i y f b frame_y of_y)
      where
        by : WasFrame t j f ⊎ step.Begun t j x → WasFrame s i f ⊎ step.Begun s i y → (t ≡ s) × (j ≡ i)
        by (inl v) (inl w) = counted.alone p f once of t j v.at s i w.at v.called w.called v.frame v.of w.frame w.of
        by (inl v) (inr new) = absurd (step.fresh s i y f p new of_y once of (counted.frames t j v.at f v.called v.frame v.of))
        by (inr new) (inl w) = absurd (step.fresh t j x f p new of_x once of (counted.frames s i w.at f w.called w.frame w.of))
        by (inr one) (inr other) = step.single t j x s i y one other

    abbrev Split : ℕ → Type 0
    Split p = Contains done p ⊎ ((p ≡ step.x0) × IsBeyond program p step.x1 step.c1)

    beyond_on : (p f t j x : ℕ) (called : Bool) → Contains later p → IsOnce program p → function_at program p ≡ Some f → IsFrame program new t j x called → function_at program x ≡ Some f →
        IsBeyond program p x called
    beyond_on p f t j x called has once of frame of_x = by (step.each t j x called frame) (step.split p has)
      where
        in_place : Split p → function_at program step.x1 ≡ Some f → IsBeyond program p step.x1 step.c1
        in_place (inl was) of_x1 = step.on p (counted.beyond p f step.u step.k step.x0 step.c0 was once of step.was (sym step.same ∙ of_x1))
        in_place (inr now) of_x1 = now.1

        by : Comes old step.u step.k step.x1 step.c1 step.Begun t j x called → Split p → IsBeyond program p x called
        by (stays was apart) (inl before) = counted.beyond p f t j x called before once of was of_x
        by (stays was apart) (inr now) =
            let own = counted.alone p f once of t j x step.u step.k step.x0 called step.c0 was of_x step.was (subst (λ y. function_at program y ≡ Some f) now.0 of) in
            absurd (apart own.0 own.1)
        by (moved thread number at how) which =
            subst₂ (λ y c. IsBeyond program p y c) (sym at) (sym how) (in_place which (subst (λ y. function_at program y ≡ Some f) at of_x))
        by (begins new) (inl before) = absurd (step.fresh t j x f p new of_x once of (counted.points p f before of))
        by (begins new) (inr now) = absurd (step.fresh t j x f p new of_x once of (performing p f now.0 of))

    -- an object was there, or is one of those that are made
    abbrev Made : ℕ → ℕ → Type 0
    Made o r = IsMade program roots o r ⊎ ((i : ℕ) × (o ≡ length roots + i) × (slice_get more i ≡ Some r))

    made : (o r : ℕ) → IsMade program (roots ++ more) o r → Made o r
    made o r is = get-either roots more o r is

    one_on : (o q r : ℕ) (root : Root) → IsMade program (roots ++ more) o r → IsMade program (roots ++ more) q r → root_at program r ≡ Some root → IsOneOfKind program root.kind root → o ≡ q
    one_on o q r root is_o is_q at kind = by (made o r is_o) (made q r is_q)
      where
        by : Made o r → Made q r → o ≡ q
        by (inl a) (inl b) = counted.one o q r root a b at kind
        by (inl a) (inr new) = absurd (step.objects.first_one o new.0 r root a new.2 at kind)
        by (inr new) (inl b) = absurd (step.objects.first_one q new.0 r root b new.2 at kind)
        by (inr new) (inr other) = let same = step.objects.different new.0 other.0 r new.2 other.2 in new.1 ∙ ap (λ i. length roots + i) same ∙ sym other.1

    -- so what is counted stays so
    pub counted_on : AreCounted program later new (roots ++ more)
    counted_on = record {
      frames = frames_on;
      points = points_on;
      locals = λ o r f root is at kind of. elim (made o r is) [
        | inl was ↦ still (counted.locals o r f root was at kind of)
        | inr new ↦ step.objects.locals new.0 r f root new.2 at kind of
      ];
      heaps = λ o r p root one is at kind of. elim (made o r is) [
        | inl was ↦ step.keeps p (counted.heaps o r p root one was at kind of)
        | inr new ↦ step.objects.heaps new.0 r p root one new.2 at kind of
      ];
      alone = alone_on;
      beyond = beyond_on;
      one = one_on;
    }
