-- Trails: from the first frame of `main` through calls and creations to the frame in which a thread is
-- (LOCKSMITH: what a thread does, and what its creator does afterwards).
use Rattle.std.specs.Prelude.{◌≡◌, ℕ, Bool, true, false, List, [], ◌∷◌, ◌++◌, Some, length, slice_get, slice_set}
use Rattle.lk_facts.specs.Basis.{Basis}
use Rattle.lk_facts.specs.Doing.{Frees, Runs, Starts}
use Rattle.lk_facts.specs.Held.{RunsNone}
use Rattle.lk_facts.specs.Program.{entry_of, exit_of, function_at, live_at, effect_at}
use Rattle.lk_facts.specs.Reach.{IsNext, IsLiveNext, After}
use Rattle.lk_facts.specs.declared.effect.Effect.TheVariants.{Nothing}
use Rattle.lk_facts.specs.declared.program.Program.{Program}
use Rattle.lk_facts.specs.declared.way.Way.{Way}
use Rattle.lk_facts.specs.declared.way.Way.TheVariants.{Through, AsValue}

-- where a frame stands, and its context
pub record Stay : Type 0 where
  pub point : ℕ
  pub context : List ℕ

abbrev pub stay : ℕ → List ℕ → Stay
stay p c = record { point = p; context = c }

-- a frame from which control went into another, by a creation of a thread, or by a call
pub record Left : Type 0 where
  pub at : Stay
  pub created : Bool

abbrev pub left_at : Stay → Bool → Left
left_at s created = record { at = s; created = created }

-- the frames that were left, the oldest first, and the frame to which they lead
pub record Trail : Type 0 where
  pub left : List Left
  pub top : Stay

abbrev pub trail : List Left → Stay → Trail
trail left top = record { left = left; top = top }

-- where the trail begins
abbrev pub first_of : List Left → Stay → Stay
first_of [] top = top
first_of (x ∷ rest) top = x.at

-- one of them was left by a creation
pub data HasCreation : List Left → Type 0 where
  here : (x : Left) (rest : List Left) → x.created ≡ true → HasCreation (x ∷ rest)
  beyond : (x : Left) (rest : List Left) → HasCreation rest → HasCreation (x ∷ rest)

-- the context of a function that is entered by a way from the context c
abbrev pub inside_of : Way → List ℕ → List ℕ
inside_of (Through i) c = i ∷ c
inside_of (AsValue i) c = i ∷ []

-- what a step does: it goes on from the point p, or goes into the function g; of any other nothing is said
pub data Act : Type 0 where
  other : Act
  onward : (p : ℕ) → Act
  inward : (g : ℕ) → Act

module _ (basis : Basis) where
  -- the live point p of f goes into g by the way: it runs it, or starts a thread there
  pub data GoesInto (p f : ℕ) (way : Way) (g : ℕ) : Bool → Type 0 where
    run : Runs basis p f way g → GoesInto p f way g false
    start : Starts basis p f way g → GoesInto p f way g true

  -- from the one stay control went into the function of the other
  pub record Enters (out : Stay) (created : Bool) (to : Stay) : Type 0 where
    pub f : ℕ
    pub g : ℕ
    pub way : Way
    pub goes : GoesInto out.point f way g created
    pub stands : function_at basis.program to.point ≡ Some g
    pub inside : to.context ≡ inside_of way out.context

  -- each frame of a trail is entered from the one before it
  pub data IsLinked : List Left → Stay → Type 0 where
    only : (top : Stay) (f : ℕ) → live_at basis.program top.point ≡ true →
        function_at basis.program top.point ≡ Some f → IsLinked [] top
    more : (x : Left) (rest : List Left) (top : Stay) → Enters x.at x.created (first_of rest top) →
        IsLinked rest top → IsLinked (x ∷ rest) top

  -- the trail begins in `main`, in which no site was entered
  pub record IsFromMain (t : Trail) : Type 0 where
    pub linked : IsLinked t.left t.top
    pub main : function_at basis.program (first_of t.left t.top).point ≡ Some basis.program.main
    pub empty : (first_of t.left t.top).context ≡ []

  -- ---- what becomes of the trails of threads by a step of one of them

  -- a return: its exit is what comes next, and it does nothing else
  pub record IsReturn (r : ℕ) : Type 0 where
    pub g : ℕ
    pub exit : ℕ
    pub stands : function_at basis.program r ≡ Some g
    pub exits : exit_of basis.program g ≡ Some exit
    pub next : IsNext basis.program r exit
    pub live : live_at basis.program r ≡ true
    pub idle : effect_at basis.program r ≡ Some Nothing

  -- a function is entered where it begins
  pub record Begins (at : Stay) (created : Bool) (to : Stay) : Type 0 where
    pub enters : Enters at created to
    pub entry : entry_of basis.program enters.g ≡ Some to.point

  -- the trail of a thread by its own step
  pub data Moves : Act → Trail → Trail → Type 0 where
    goes : (left : List Left) (p q : ℕ) (c : List ℕ) → RunsNone basis p → IsLiveNext basis.program p q →
        Moves (onward p) (trail left (stay p c)) (trail left (stay q c))
    calls : (left : List Left) (top to : Stay) (begins : Begins top false to) →
        Moves (inward begins.enters.g) (trail left top) (trail (left ++ left_at top false ∷ []) to)
    returns : (left : List Left) (caller top : Stay) (q : ℕ) → Enters caller false top → IsReturn top.point →
        IsLiveNext basis.program caller.point q →
        Moves other (trail (left ++ left_at caller false ∷ []) top) (trail left (stay q caller.context))

  -- The trails of all threads, in the order of these, by a step of the thread t: none moves, and
  -- no mutex is freed; its own moves; or it begins another one, and goes on. Of a thread the
  -- trail has its own frames alone.
  pub data TrailsMove (t : ℕ) (old new : List Trail) : Act → Type 0 where
    still : new ≡ old → ((own : Trail) (f x : ℕ) → slice_get old t ≡ Some own →
        Frees basis own.top.point f x → ⊥) → TrailsMove t old new other
    one : {act : Act} (before after : Trail) → slice_get old t ≡ Some before → Moves act before after →
        new ≡ slice_set old t after → TrailsMove t old new act
    creates : (left : List Left) (p q : ℕ) (c : List ℕ) (to : Stay) →
        slice_get old t ≡ Some (trail left (stay p c)) → IsLiveNext basis.program p q →
        (begins : Begins (stay p c) true to) →
        new ≡ slice_set old t (trail left (stay q c)) ++ trail [] to ∷ [] →
        TrailsMove t old new (inward begins.enters.g)

-- ---- trails that part

module _ (program : Program) where
  -- The earlier trail has the frames of the later one up to a frame that both left, the earlier one first, by
  -- a creation or through one below: since then that frame has gone on.
  pub data Parts : (earlier later : List Left) (top : Stay) → Type 0 where
    same : (x : Left) (earlier later : List Left) (top : Stay) → Parts earlier later top →
        Parts (x ∷ earlier) (x ∷ later) top
    apart : (x : Left) (earlier later : List Left) (top : Stay) →
        (first_of later top).context ≡ x.at.context → After program x.at.point (first_of later top).point →
        HasCreation (x ∷ earlier) → Parts (x ∷ earlier) later top

  -- one of the two parted from the other
  pub data ArePast (s t : Trail) : Type 0 where
    first : Parts s.left t.left t.top → ArePast s t
    second : Parts t.left s.left s.top → ArePast s t

-- ---- the whole trails of threads

-- the trail of a thread with that to its creation before it
abbrev pub whole : List Left → Trail → Trail
whole born own = trail (born ++ own.left) own.top

-- the first thread isn't created; of any other the last frame of the trail to its creation was left by that
pub data IsBirth : List Left → Type 0 where
  first : IsBirth []
  later : (before : List Left) (x : Left) → x.created ≡ true → IsBirth (before ++ x ∷ [])

-- `born` has, for each thread, the trail to its creation: all trails begin in `main`, and any two have parted
pub record ArePasts (basis : Basis) (born : List (List Left)) (trails : List Trail) : Type 0 where
  pub many : length born ≡ length trails
  pub births : (t : ℕ) (b : List Left) → slice_get born t ≡ Some b → IsBirth b
  pub from_main : (t : ℕ) (b : List Left) (own : Trail) → slice_get born t ≡ Some b →
      slice_get trails t ≡ Some own → IsFromMain basis (whole b own)
  pub own : (t : ℕ) (own : Trail) → slice_get trails t ≡ Some own → HasCreation own.left → ⊥
  pub past : (t u : ℕ) (b d : List Left) (s v : Trail) → (t ≡ u → ⊥) → slice_get born t ≡ Some b →
      slice_get trails t ≡ Some s → slice_get born u ≡ Some d → slice_get trails u ≡ Some v →
      ArePast basis.program (whole b s) (whole d v)
