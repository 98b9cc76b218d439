-- What is made once: functions that are entered once, points that are performed once, roots that have one
-- object (LOCKSMITH: linearity).
use Rattle.std.specs.Prelude.{◌≡◌, ◌⊎◌, ℕ, Bool, true, false, List, [], ◌∷◌, Some, Contains, length, slice_get}
use Rattle.lk_facts.specs.Many.{IsSiteOf, IsOnce, IsOneOfKind}
use Rattle.lk_facts.specs.Places.{AreDifferent}
use Rattle.lk_facts.specs.Program.{function_at, value_site_of, root_at}
use Rattle.lk_facts.specs.Reach.{After}
use Rattle.lk_facts.specs.declared.program.Program.{Program}
use Rattle.lk_facts.specs.declared.root.Root.{Root}
use Rattle.lk_facts.specs.declared.root.RootKind.TheVariants.{Local, Heap}
use Rattle.lk_trails.specs.Trails.{Act, Left, Trail}
use Rattle.lk_trails.specs.Trails.Act.{onward, inward}

module _ (program : Program) where
  -- the function has been entered, where these points were performed: it is main, or one of its sites
  -- was performed, or it is a value
  pub data WasEntered (done : List ℕ) (f : ℕ) : Type 0 where
    first : f ≡ program.main → WasEntered done f
    by_site : (q : ℕ) → IsSiteOf program f q → Contains done q → WasEntered done f
    by_value : (i : ℕ) → value_site_of program f ≡ Some i → WasEntered done f

  -- a frame at the point x of a thread, which called another one from there or is on top
  pub data IsFrame (trails : List Trail) (t j x : ℕ) : (called : Bool) → Type 0 where
    below : (own : Trail) (l : Left) → slice_get trails t ≡ Some own → slice_get own.left j ≡ Some l →
        l.at.point ≡ x → IsFrame trails t j x true
    top : (own : Trail) → slice_get trails t ≡ Some own → j ≡ length own.left → own.top.point ≡ x →
        IsFrame trails t j x false

  -- where a frame of the function stands after it performed p: p comes before it, or it is still
  -- in the function that p called
  abbrev pub IsBeyond : ℕ → ℕ → Bool → Type 0
  IsBeyond p x called = After program p x ⊎ ((x ≡ p) × (called ≡ true))

  -- an object of the root was made
  abbrev pub IsMade : List ℕ → ℕ → ℕ → Type 0
  IsMade roots o r = slice_get roots o ≡ Some r

  -- `done` has the points from which threads went on or into functions, `roots` the root of each object
  pub record AreCounted (done : List ℕ) (trails : List Trail) (roots : List ℕ) : Type 0 where
    pub frames : (t j x f : ℕ) (called : Bool) → IsFrame trails t j x called →
        function_at program x ≡ Some f → WasEntered done f
    pub points : (p f : ℕ) → Contains done p → function_at program p ≡ Some f → WasEntered done f
    pub locals : (o r f : ℕ) (root : Root) → IsMade roots o r → root_at program r ≡ Some root →
        root.kind ≡ Local → root.function ≡ Some f → WasEntered done f
    pub heaps : (o r p : ℕ) (root : Root) (one : Bool) → IsMade roots o r → root_at program r ≡ Some root →
        root.kind ≡ Heap one → root.point ≡ Some p → Contains done p
    -- a function that is entered once has one frame, which has gone on from what it performed
    pub alone : (p f : ℕ) → IsOnce program p → function_at program p ≡ Some f →
        (t j x u i y : ℕ) (a b : Bool) → IsFrame trails t j x a → function_at program x ≡ Some f →
        IsFrame trails u i y b → function_at program y ≡ Some f → (t ≡ u) × (j ≡ i)
    pub beyond : (p f t j x : ℕ) (called : Bool) → Contains done p → IsOnce program p →
        function_at program p ≡ Some f → IsFrame trails t j x called → function_at program x ≡ Some f →
        IsBeyond p x called
    -- so a root that may have one object at most has no other
    pub one : (o q r : ℕ) (root : Root) → IsMade roots o r → IsMade roots q r →
        root_at program r ≡ Some root → IsOneOfKind program root.kind root → o ≡ q

  -- the objects that a step makes: the locals of the function that it enters, each once;
  -- one of an allocation; or none
  pub data MakesRoots : Act → List ℕ → Type 0 where
    none : (act : Act) → MakesRoots act []
    locals : (g : ℕ) (more : List ℕ) → AreDifferent more →
        ((i r : ℕ) → slice_get more i ≡ Some r →
        (root : Root) × (root_at program r ≡ Some root) × (root.kind ≡ Local)
        × (root.function ≡ Some g)) → MakesRoots (inward g) more
    heap : (p r : ℕ) (root : Root) (one : Bool) → root_at program r ≡ Some root → root.kind ≡ Heap one →
        root.point ≡ Some p → MakesRoots (onward p) (r ∷ [])
