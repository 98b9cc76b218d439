-- What the definitions imply. Each law is the contract of a public function.
use Rattle.std.specs.Prelude.{◌≡◌, ◌↔◌, ℕ, Bool, true, false, List, Some, ◌⊎◌}
use Rattle.lk_facts.specs.Analysis.{AreVerdictsOf}
use Rattle.lk_facts.specs.Basis.{Basis}
use Rattle.lk_facts.specs.Doing.{Runs}
use Rattle.lk_facts.specs.Flow.{Over, Clash, MeansOnly}
use Rattle.lk_facts.specs.Held.{PointTest, Released, NotHeld, NotAdded, MayDrop, Keeps, IsHeld, AreLockSets, at_test}
use Rattle.lk_facts.specs.Items.{ItemTest, LockTest}
use Rattle.lk_facts.specs.Labels.{is_lock_at}
use Rattle.lk_facts.specs.LockSets.{LockSets}
use Rattle.lk_facts.specs.Program.{live_at, entry_of, writes_at}
use Rattle.lk_facts.specs.Racing.{Setting, Races, AreRaces}
use Rattle.lk_facts.specs.Reach.{IsNext}
use Rattle.lk_facts.specs.Verdicts.{InLockSet, Guards, IsVerdict}
use Rattle.lk_facts.specs.declared.verdict.Verdict.{Verdict}
use Rattle.lk_facts.specs.declared.verdict.VerdictState.{VerdictState}
use Rattle.lk_facts.specs.declared.verdict.VerdictState.TheVariants.{Guarded, Suspect}
use Rattle.lk_facts.specs.declared.way.Way.{Way}

-- no lock is both held, by some table that the rules allow, and not held on some way
abbrev pub HeldIsNeverNotHeld : Type 0
HeldIsNeverNotHeld = (basis : Basis) (p x : ℕ) → IsHeld basis p x → NotHeld basis p x → ⊥

-- the lock sets have just the lock labels that some table holds, and lack just those
-- that aren't held on some way
abbrev pub LockSetsAreExact : Type 0
LockSetsAreExact =
    (basis : Basis) (held : LockSets) → AreLockSets basis held → (p x : ℕ) →
    is_lock_at basis.labels x ≡ true →
    ((at_test held p x ≡ true) ↔ IsHeld basis p x) × ((at_test held p x ≡ false) ↔ NotHeld basis p x)

-- nothing is held where a function begins
abbrev pub NothingIsHeldAtEntries : Type 0
NothingIsHeldAtEntries = (basis : Basis) (f p x : ℕ) → entry_of basis.program f ≡ Some p →
    IsHeld basis p x → ⊥

-- a way on which some point may drop x, and neither it nor a later one adds x
pub data IsDroppedBefore (basis : Basis) (x : ℕ) : ℕ → Type 0 where
  here : {p q : ℕ} → live_at basis.program p ≡ true → IsNext basis.program p q → NotAdded basis p x →
      MayDrop basis (Released basis) p x → IsDroppedBefore basis x q
  before : {p q : ℕ} → IsDroppedBefore basis x p → live_at basis.program p ≡ true → IsNext basis.program p q →
      NotAdded basis p x → IsDroppedBefore basis x q

-- a lock that is released on some way isn't held at its end
abbrev pub ReleasedIsNotHeld : Type 0
ReleasedIsNotHeld = (basis : Basis) (x p : ℕ) → IsDroppedBefore basis x p → IsHeld basis p x → ⊥

-- a caller's lock that the callee may release isn't kept while it runs
abbrev pub CalleesLockIsNotKept : Type 0
CalleesLockIsNotKept =
    (basis : Basis) (at : PointTest) (p f g y d x : ℕ) (way : Way) → Runs basis p f way g →
    Released basis g y → Over basis.flow way y d → Clash basis.flow x d →
    Keeps basis (Released basis) at p x → ⊥

-- f has a racing item for the location beside this one; one of the two is of a thread that was
-- started, and one of them writes
pub record HasPartner (basis : Basis) (setting : Setting) (f : ℕ) (child : Bool) (o a : ℕ) : Type 0 where
  pub other_child : Bool
  pub other : ℕ
  pub races : Races basis setting f other_child o other
  pub started : (child ≡ true) ⊎ (other_child ≡ true)
  pub writes : (writes_at basis.program a ≡ true) ⊎ (writes_at basis.program other ≡ true)

-- racing accesses come in pairs
abbrev pub RacesComeInPairs : Type 0
RacesComeInPairs = (basis : Basis) (setting : Setting) (f : ℕ) (child : Bool) (o a : ℕ) →
    Races basis setting f child o a → HasPartner basis setting f child o a

-- a lock place that guards a location is in the lock set of each racing access, and each racing item for it
-- has a lock at that place alone
abbrev pub GuardIsInLockSets : Type 0
GuardIsInLockSets =
    (basis : Basis) (races : ItemTest) (locks : LockTest) (linear : ℕ → Bool) (o a q : ℕ) (child : Bool) →
    Guards basis races locks linear o q → races basis.program.main child o a ≡ true →
    InLockSet basis races locks linear o a q
    × ((x : ℕ) × (locks basis.program.main child o a x ≡ true) × MeansOnly basis.flow x q)

-- a location has one verdict at most
abbrev pub VerdictIsOne : Type 0
VerdictIsOne =
    (basis : Basis) (races : ItemTest) (locks : LockTest) (linear : ℕ → Bool) (o : ℕ) (v w : VerdictState) →
    IsVerdict basis races locks linear o v → IsVerdict basis races locks linear o w → v ≡ w

-- each fact of the first test is one of the second
abbrev pub IsWithin : PointTest → PointTest → Type 0
IsWithin r s = (a b : ℕ) → r a b ≡ true → s a b ≡ true

-- more points come after one another, there are more items, and fewer locks
pub record IsWorse (less more : Setting) : Type 0 where
  pub after : IsWithin less.after more.after
  pub has : (f : ℕ) (child : Bool) (s a : ℕ) → less.has f child s a ≡ true → more.has f child s a ≡ true
  pub at : IsWithin more.held.at less.held.at
  pub keep : IsWithin more.held.keep less.held.keep
  pub locks : (f : ℕ) (child : Bool) (s a x : ℕ) → more.locks f child s a x ≡ true →
      less.locks f child s a x ≡ true

-- more points after one another, more items, fewer locks and fewer linear places never turn a
-- suspect location into a guarded one
abbrev pub SuspectStaysUnguarded : Type 0
SuspectStaysUnguarded =
    (basis : Basis) (less more : Setting) → IsWorse less more →
    (races races' : ItemTest) (locks locks' : LockTest) → AreRaces basis less races locks →
    AreRaces basis more races' locks' →
    (linear linear' : ℕ → Bool) → ((q : ℕ) → linear' q ≡ true → linear q ≡ true) →
    (o : ℕ) → IsVerdict basis races locks linear o Suspect →
    IsVerdict basis races' locks' linear' o Guarded → ⊥

-- the analysis says one thing of a program
abbrev pub VerdictsAreOne : Type 0
VerdictsAreOne = (basis : Basis) (vs ws : List Verdict) → AreVerdictsOf basis vs →
    AreVerdictsOf basis ws → vs ≡ ws
