-- What the rules say of a location.
use Rattle.std.specs.Prelude.{◌≡◌, ℕ, Bool, true, List, [], map, length, slice_get, Some, All}
use Rattle.lk_facts.specs.Basis.{Basis}
use Rattle.lk_facts.specs.Flow.{MeansOnly}
use Rattle.lk_facts.specs.Items.{ItemTest, LockTest}
use Rattle.lk_facts.specs.Lists.{Lists}
use Rattle.lk_facts.specs.Program.{IsLockPlace}
use Rattle.lk_facts.specs.declared.verdict.Racing.{Racing}
use Rattle.lk_facts.specs.declared.verdict.Verdict.{Verdict}
use Rattle.lk_facts.specs.declared.verdict.VerdictState.{VerdictState}
use Rattle.lk_facts.specs.declared.verdict.VerdictState.TheVariants.{Guarded, Unshared, Suspect}

module _ (basis : Basis) (races : ItemTest) (locks : LockTest) where
  -- the access is one of the racing accesses of main for o
  abbrev pub IsRacing : ℕ → ℕ → Type 0
  IsRacing o a = (child : Bool) × (races basis.program.main child o a ≡ true)

  -- each racing item of main for o and the access has a lock that can only be at the place q
  abbrev pub IsLockedBy : ℕ → ℕ → ℕ → Type 0
  IsLockedBy o a q = (child : Bool) → races basis.program.main child o a ≡ true →
      (x : ℕ) × (locks basis.program.main child o a x ≡ true) × MeansOnly basis.flow x q

  module _ (linear : ℕ → Bool) where
    -- LockSet: the linear lock places by which a racing access is locked
    pub record InLockSet (o a q : ℕ) : Type 0 where
      pub is_place : IsLockPlace basis.program q
      pub is_linear : linear q ≡ true
      pub is_locked : IsLockedBy o a q

    -- q is in the lock sets of all racing accesses for o
    abbrev pub Guards : ℕ → ℕ → Type 0
    Guards o q = (a : ℕ) → IsRacing o a → InLockSet o a q

    pub data IsVerdict (o : ℕ) : VerdictState → Type 0 where
      unshared : ((a : ℕ) → IsRacing o a → ⊥) → IsVerdict o Unshared
      guarded : {a q : ℕ} → IsRacing o a → Guards o q → IsVerdict o Guarded
      suspect : {a : ℕ} → IsRacing o a → ((q : ℕ) → Guards o q → ⊥) → IsVerdict o Suspect

    -- the list has just the racing accesses of main for o, in ascending order, each with its lock set
    pub record AreRacing (o : ℕ) (accesses : List Racing) : Type 0 where
      pub each : Lists (IsRacing o) (map (λ r. r.access) accesses)
      pub sets : All (λ r. Lists (InLockSet o r.access) r.locks) accesses

    -- the locks that a verdict for o names: those that guard it where it is guarded, else none
    abbrev pub AreNamed : ℕ → VerdictState → List ℕ → Type 0
    AreNamed o Guarded locks = Lists (Guards o) locks
    AreNamed o Unshared locks = locks ≡ []
    AreNamed o Suspect locks = locks ≡ []

    pub record IsVerdictOf (o : ℕ) (verdict : Verdict) : Type 0 where
      pub location : verdict.location ≡ o
      pub racing : AreRacing o verdict.accesses
      pub state : IsVerdict o verdict.state
      pub named : AreNamed o verdict.state verdict.locks

    -- a verdict for each location, in their order
    pub record AreVerdicts (verdicts : List Verdict) : Type 0 where
      pub each : length verdicts ≡ basis.program.locations
      pub are : (o : ℕ) (verdict : Verdict) → slice_get verdicts o ≡ Some verdict → IsVerdictOf o verdict
