-- How many steps each node has, by the list of them.
use Rattle.std.specs.Prelude.{◌≡◌, ◌<◌, ◌≤◌, ◌⊎◌, ℕ, suc, List, get_or}
use Rattle.std.specs.List.{Contains}
use Rattle.lk_lower_unit.specs.declared.standing.StandingStep.{StandingStep}

-- a node counts one more than the last of its steps among these, and nothing where there is none
pub record CountsSteps (steps : List StandingStep) (counts : List ℕ) : Type 0 where
  pub above : (x : StandingStep) → Contains steps x → x.step.step < get_or counts x.step.node 0
  pub reached : (o k : ℕ) → suc k ≡ get_or counts o 0 →
      (x : StandingStep) × Contains steps x × (x.step.node ≡ o) × (x.step.step ≡ k)

-- what a node counts is raised to a number, where it is less
pub record Raises (old new : List ℕ) (node number : ℕ) : Type 0 where
  pub there : number ≤ get_or new node 0
  pub kept : (o : ℕ) → get_or old o 0 ≤ get_or new o 0
  pub only : (o : ℕ) → (get_or new o 0 ≡ get_or old o 0) ⊎ ((o ≡ node) × (get_or new o 0 ≡ number))
