-- Runs: the states to which a program comes (C99 5.1.2.3; POSIX Base Definitions 4.11).
use Rattle.std.specs.Prelude.{ℕ, List, [], ◌∷◌}
use Rattle.lk_facts.specs.declared.program.Program.{Program}
use Rattle.lk_cells.specs.declared.state.State.{State}
use Rattle.lk_birth.specs.Begins.{StartsRight}
use Rattle.lk_birth.specs.Starts.{started}
use Rattle.lk_meaning.specs.Steps.{Step}

-- one step of a run: the thread that performs its point, and the word that makes its free choices
pub record Choice : Type 0 where
  pub thread : ℕ
  pub word : ℕ

-- the choices lead from one state to another
pub data Leads (program : Program) : State → List Choice → State → Type 0 where
  stays : {s : State} → Leads program s [] s
  goes : {s s2 s3 : State} {t w : ℕ} {choices : List Choice} → Step program s t w s2 →
      Leads program s2 choices s3 → Leads program s (record { thread = t; word = w } ∷ choices) s3

-- Run: with these strings as its arguments the program comes by the choices to s
abbrev pub Run : Program → List (List ℕ) → List Choice → State → Type 0
Run program args choices s = Leads program (started program args) choices s

-- Reached: some arguments and some choices lead to s. Static initialisers are performed before the program
-- begins (C99 5.1.2), and one that makes a pointer to another type of a `void *` has no defined step, as in a
-- function; so such a program has no run.
pub record Reached (program : Program) (s : State) : Type 0 where
  pub begins : StartsRight program
  pub args : List (List ℕ)
  pub choices : List Choice
  pub run : Run program args choices s
