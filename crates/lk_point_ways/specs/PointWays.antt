-- How control goes through the points of a program: each function by itself, from its entry to its exit.
use Rattle.std.specs.Prelude.{◌≡◌, ◌↔◌, ◌<◌, ℕ, [], ◌∷◌, Option, Some, length}
use Rattle.lk_facts.specs.InRange.{AllOperands}
use Rattle.lk_facts.specs.Lowered.{IsEntry, IsExit, IsExitOfOne, named_function, ways_of}
use Rattle.lk_facts.specs.Program.{action_at, next_of, function_at, entry_of, exit_of, root_of_function, function_of_root}
use Rattle.lk_facts.specs.Reach.{IsNext}
use Rattle.lk_facts.specs.declared.action.Action.{Action}
use Rattle.lk_facts.specs.declared.action.Action.TheVariants.{Release, Retake, Return}
use Rattle.lk_facts.specs.declared.program.Program.{Program}

pub record KeepWays (program : Program) : Type 0 where
  -- operands and successors of a point stand in its function
  pub operands : (p : ℕ) (action : Action) → action_at program p ≡ Some action →
      AllOperands (λ a. function_at program a ≡ function_at program p) action
  pub successors : (p q : ℕ) → IsNext program p q → function_at program q ≡ function_at program p
  -- the root of a function stands for it
  pub function_roots : (f r : ℕ) → (root_of_function program f ≡ Some r)
      ↔ (function_of_root program r ≡ Some f)
  -- functions begin at their entries, and their returns lead to their exits
  pub entries : (f e : ℕ) → entry_of program f ≡ Some e → IsEntry program f e
  pub exits : (f e : ℕ) → exit_of program f ≡ Some e → IsExit program f e
  pub returns : (p f e : ℕ) (a : Option ℕ) → action_at program p ≡ Some (Return a) →
      function_at program p ≡ Some f → exit_of program f ≡ Some e → next_of program p ≡ e ∷ []
  -- each other point of a function has as many successors as its action asks for
  pub ways : (p f : ℕ) (action : Action) → action_at program p ≡ Some action →
      function_at program p ≡ Some f → f < length program.functions → (IsExitOfOne program p → ⊥) →
      length (next_of program p) ≡ ways_of action
  -- a wait takes the mutex again that it gave back, before anything else (POSIX pthread_cond_wait)
  pub waits : (p q cond mutex : ℕ) → action_at program p ≡ Some (Release cond mutex) → IsNext program p q →
      action_at program q ≡ Some (Retake mutex)
  -- `main` begins at the start of the program alone: no point calls it, starts a
  -- thread there, or takes its address
  pub mains : (p : ℕ) (action : Action) → action_at program p ≡ Some action →
      named_function action ≡ Some program.main → ⊥
