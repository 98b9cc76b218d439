-- Which locks are held at which points (LOCKSMITH: lock state; the rules are this project's own).
use Rattle.std.specs.Prelude.{◌≡◌, ℕ, Bool, true, false, Some, ◌⊎◌, length}
use Rattle.lk_facts.specs.Basis.{Basis}
use Rattle.lk_facts.specs.Doing.{Takes, Frees, Runs}
use Rattle.lk_facts.specs.Flow.{Over, IsHeldAs, RisesAs, Clash}
use Rattle.lk_facts.specs.Labels.{is_lock_at}
use Rattle.lk_facts.specs.LockSets.{LockSets, at_of, keep_of, out_of, released_of}
use Rattle.lk_facts.specs.Program.{live_at, entry_of, exit_of}
use Rattle.lk_facts.specs.Reach.{IsNext}
use Rattle.lk_facts.specs.declared.way.Way.{Way}
use Rattle.lk_sets.specs.Ids.{has_id}

-- f may release x, for functions f and labels x; x is held at p, for points p and lock labels x
abbrev pub ReleaseTest : Type 0
ReleaseTest = ℕ → ℕ → Bool

abbrev pub PointTest : Type 0
PointTest = ℕ → ℕ → Bool

module _ (basis : Basis) where
  -- f may release x, itself or in what it runs
  pub data Released : ℕ → ℕ → Type 0 where
    itself : {p f x : ℕ} → Frees basis p f x → Released f x
    callee : {p f g y x : ℕ} {way : Way} → Runs basis p f way g → Released g y →
        Over basis.flow way y x → Released f x

  -- p releases x: it frees it, or runs a function that releases it, as the relation says
  pub data Drops (releases : ℕ → ℕ → Type 0) (p x : ℕ) : Type 0 where
    itself : {f : ℕ} → Frees basis p f x → Drops releases p x
    callee : {f g y : ℕ} {way : Way} → Runs basis p f way g → releases g y → Over basis.flow way y x →
        Drops releases p x

  -- what p drops may be x
  abbrev pub MayDrop : (ℕ → ℕ → Type 0) → ℕ → ℕ → Type 0
  MayDrop releases p x = (d : ℕ) × Drops releases p d × Clash basis.flow x d

  -- p takes no lock that is x
  abbrev pub NotTaken : ℕ → ℕ → Type 0
  NotTaken p x = (f y : ℕ) → Takes basis p f y → IsHeldAs basis.flow y x → ⊥

  -- p runs no function
  abbrev pub RunsNone : ℕ → Type 0
  RunsNone p = (f g : ℕ) (way : Way) → Runs basis p f way g → ⊥

  mutual
    -- x isn't held on some way to p. Nothing is held at an entry, and nothing at a point that isn't live.
    pub data NotHeld : ℕ → ℕ → Type 0 where
      dead : {p x : ℕ} → live_at basis.program p ≡ false → NotHeld p x
      entry : {p x : ℕ} (f : ℕ) → entry_of basis.program f ≡ Some p → NotHeld p x
      still : {p q x : ℕ} → live_at basis.program p ≡ true → IsNext basis.program p q → NotAdded p x →
          NotHeld p x → NotHeld q x
      dropped : {p q x : ℕ} → live_at basis.program p ≡ true → IsNext basis.program p q → NotAdded p x →
          MayDrop Released p x → NotHeld q x

    -- p doesn't add x: it takes no lock that is x, and some function that it runs, if any,
    -- returns without a lock that is x
    pub data NotAdded : ℕ → ℕ → Type 0 where
      runs_none : {p x : ℕ} → NotTaken p x → RunsNone p → NotAdded p x
      not_from : {p f g x : ℕ} {way : Way} → NotTaken p x → Runs basis p f way g →
          ((y e : ℕ) → is_lock_at basis.labels y ≡ true → RisesAs basis.flow way y x →
          exit_of basis.program g ≡ Some e → NotHeld e y) → NotAdded p x

  -- by the table g returns with a lock that is x outside
  abbrev pub IsBrought : PointTest → Way → ℕ → ℕ → Type 0
  IsBrought at way g x =
      (y e : ℕ) × (at e y ≡ true) × RisesAs basis.flow way y x × (exit_of basis.program g ≡ Some e)

  -- by the table p adds x: it takes it, or it runs some function, and each that it runs returns with it
  pub data Adds (at : PointTest) (p x : ℕ) : Type 0 where
    taken : {f y : ℕ} → Takes basis p f y → IsHeldAs basis.flow y x → Adds at p x
    brought : {f g : ℕ} {way : Way} → Runs basis p f way g →
        ((f g : ℕ) (way : Way) → Runs basis p f way g → IsBrought at way g x) → Adds at p x

  -- by the table p holds x, and keeps it
  abbrev pub Keeps : (ℕ → ℕ → Type 0) → PointTest → ℕ → ℕ → Type 0
  Keeps releases at p x = (at p x ≡ true) × (MayDrop releases p x → ⊥)

  -- a table of locks that the rules allow: what it says is held at q was added by each point
  -- before, or held and kept there
  pub record IsHeldTable (releases : ℕ → ℕ → Type 0) (at : PointTest) : Type 0 where
    pub locks : (p x : ℕ) → at p x ≡ true → is_lock_at basis.labels x ≡ true
    pub live : (p x : ℕ) → at p x ≡ true → live_at basis.program p ≡ true
    pub entries : (f p x : ℕ) → entry_of basis.program f ≡ Some p → at p x ≡ false
    pub steps : (p q x : ℕ) → live_at basis.program p ≡ true → IsNext basis.program p q → at q x ≡ true →
        Adds at p x ⊎ Keeps releases at p x

  -- x is held at p by some table that the rules allow
  abbrev pub IsHeld : ℕ → ℕ → Type 0
  IsHeld p x = (at : PointTest) × IsHeldTable Released at × (at p x ≡ true)

  -- a table of what functions may release that the rules close
  pub record IsReleaseTable (releases : ReleaseTest) : Type 0 where
    pub itself : (p f x : ℕ) → Frees basis p f x → releases f x ≡ true
    pub callee : (p f g y x : ℕ) (way : Way) → Runs basis p f way g → releases g y ≡ true →
        Over basis.flow way y x → releases f x ≡ true

-- the tests of lock sets
abbrev pub at_test : LockSets → PointTest
at_test held p x = has_id (at_of held p) x

abbrev pub keep_test : LockSets → PointTest
keep_test held p x = has_id (keep_of held p) x

abbrev pub release_test : LockSets → ReleaseTest
release_test held f x = has_id (released_of held f) x

-- what the test says
abbrev pub says : ReleaseTest → ℕ → ℕ → Type 0
says releases f x = releases f x ≡ true

module _ (basis : Basis) (held : LockSets) where
  -- the sets are those of this program
  pub record AreSetsOf : Type 0 where
    pub labels : held.labels ≡ length basis.labels.entries
    pub points : length held.at ≡ length basis.program.points
    pub functions : length held.out ≡ length basis.program.functions

  -- Lock sets that the rules allow: what is released is closed under them, and what is
  -- held and kept is within them.
  pub record AreClosedLockSets : Type 0 where
    pub released : IsReleaseTable basis (release_test held)
    pub at : IsHeldTable basis (says (release_test held)) (at_test held)
    pub keep : (p x : ℕ) → keep_test held p x ≡ true →
        Keeps basis (says (release_test held)) (at_test held) p x
    pub out : (f e x : ℕ) → exit_of basis.program f ≡ Some e → has_id (out_of held f) x ≡ true →
        at_test held e x ≡ true

  -- Nothing is released that the rules don't ask for, and nothing is missing that
  -- they allow to be held and kept.
  pub record AreExactLockSets : Type 0 where
    pub released : (f x : ℕ) → release_test held f x ≡ true → Released basis f x
    pub at : (p x : ℕ) → is_lock_at basis.labels x ≡ true → at_test held p x ≡ false → NotHeld basis p x
    pub keep : (p x : ℕ) → Keeps basis (says (release_test held)) (at_test held) p x →
        keep_test held p x ≡ true
    pub out : (f e x : ℕ) → exit_of basis.program f ≡ Some e → at_test held e x ≡ true →
        has_id (out_of held f) x ≡ true

  -- Held: the lock sets of a program. At has the lock labels that aren't NotHeld, which are those of the
  -- greatest table that the rules allow.
  pub record AreLockSets : Type 0 where
    pub sizes : AreSetsOf
    pub closed : AreClosedLockSets
    pub exact : AreExactLockSets
