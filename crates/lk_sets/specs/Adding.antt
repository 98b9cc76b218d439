-- Lists to which elements are added, in whatever order and however often.
use Rattle.std.specs.Prelude.{List, Contains, ◌↔◌, ◌⊎◌}

-- the new list has what the old one has, and what the property says
pub record Adds {X : Type 0} (P : X → Type 0) (old new : List X) : Type 0 where
  pub members : (x : X) → Contains new x ↔ (Contains old x ⊎ P x)

-- what some element of the list gives
abbrev pub IsGiven : {E X : Type 0} → (E → X → Type 0) → List E → X → Type 0
IsGiven {E} Gives es x = (e : E) × Contains es e × Gives e x
