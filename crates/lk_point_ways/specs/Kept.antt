-- What is asked of one point, of one function and of one root, so that control goes as `KeepWays` says. Only
-- the private calls of this crate speak of it.
use Rattle.std.specs.Prelude.{◌≡◌, ◌<◌, ℕ, [], ◌∷◌, Option, Some, length}
use Rattle.lk_facts.specs.InRange.{AllOperands}
use Rattle.lk_facts.specs.Lowered.{IsExit, named_function, ways_of}
use Rattle.lk_facts.specs.Program.{action_at, next_of, function_at, entry_of, exit_of, root_of_function, function_of_root}
use Rattle.lk_facts.specs.Reach.{IsNext}
use Rattle.lk_facts.specs.declared.action.Action.{Action}
use Rattle.lk_facts.specs.declared.action.Action.TheVariants.{Release, Retake, Return, Skip}
use Rattle.lk_facts.specs.declared.program.Program.{Program}

module _ (program : Program) where
  -- ---- of a point

  abbrev pub HasOwnOperands : ℕ → Type 0
  HasOwnOperands p = (action : Action) → action_at program p ≡ Some action →
      AllOperands (λ a. function_at program a ≡ function_at program p) action

  abbrev pub HasOwnSuccessors : ℕ → Type 0
  HasOwnSuccessors p = (q : ℕ) → IsNext program p q → function_at program q ≡ function_at program p

  -- it doesn't lead to the entry of the function
  abbrev pub AvoidsEntry : (f p : ℕ) → Type 0
  AvoidsEntry f p = (e : ℕ) → entry_of program f ≡ Some e → IsNext program p e → ⊥

  -- a Return leads to the exit of the function
  abbrev pub ReturnsToExit : (f p : ℕ) → Type 0
  ReturnsToExit f p = (e : ℕ) (a : Option ℕ) → action_at program p ≡ Some (Return a) →
      exit_of program f ≡ Some e → next_of program p ≡ e ∷ []

  -- unless it is the exit of the function it has as many successors as its action asks for
  abbrev pub HasWays : (f p : ℕ) → Type 0
  HasWays f p = (e : ℕ) (action : Action) → action_at program p ≡ Some action → exit_of program f ≡ Some e →
      (p ≡ e → ⊥) → length (next_of program p) ≡ ways_of action

  -- a wait takes the mutex again that it gave back, before anything else (POSIX pthread_cond_wait)
  abbrev pub Retakes : ℕ → Type 0
  Retakes p = (q cond mutex : ℕ) → action_at program p ≡ Some (Release cond mutex) → IsNext program p q →
      action_at program q ≡ Some (Retake mutex)

  -- it doesn't call main, start a thread there, or take its address
  abbrev pub AvoidsMain : ℕ → Type 0
  AvoidsMain p = (action : Action) → action_at program p ≡ Some action →
      named_function action ≡ Some program.main → ⊥

  -- from a point of the function
  pub record GoesOn (f p : ℕ) : Type 0 where
    pub entry : AvoidsEntry f p
    pub returns : ReturnsToExit f p
    pub ways : HasWays f p

  pub record KeepsPoint (p : ℕ) : Type 0 where
    pub operands : HasOwnOperands p
    pub successors : HasOwnSuccessors p
    pub waits : Retakes p
    pub mains : AvoidsMain p
    pub goes : (f : ℕ) → function_at program p ≡ Some f → f < length program.functions → GoesOn f p

  -- ---- of a function and of a root

  pub record IsSkipIn (f p : ℕ) : Type 0 where
    pub stands : function_at program p ≡ Some f
    pub skips : action_at program p ≡ Some Skip

  -- its root stands for it
  abbrev pub HasOwnRoot : ℕ → Type 0
  HasOwnRoot f = (r : ℕ) → root_of_function program f ≡ Some r → function_of_root program r ≡ Some f

  abbrev pub HasEntry : ℕ → Type 0
  HasEntry f = (e : ℕ) → entry_of program f ≡ Some e → IsSkipIn f e

  abbrev pub HasExit : ℕ → Type 0
  HasExit f = (e : ℕ) → exit_of program f ≡ Some e → IsExit program f e

  pub record KeepsFunction (f : ℕ) : Type 0 where
    pub root_ : HasOwnRoot f
    pub entry : HasEntry f
    pub exit : HasExit f

  abbrev pub KeepsRoot : ℕ → Type 0
  KeepsRoot r = (f : ℕ) → function_of_root program r ≡ Some f → root_of_function program f ≡ Some r

  -- ---- of all of them

  abbrev pub KeepPoints : Type 0
  KeepPoints = (p : ℕ) → p < length program.points → KeepsPoint p

  abbrev pub KeepFunctions : Type 0
  KeepFunctions = (f : ℕ) → f < length program.functions → KeepsFunction f

  abbrev pub KeepRoots : Type 0
  KeepRoots = (r : ℕ) → r < length program.roots → KeepsRoot r
