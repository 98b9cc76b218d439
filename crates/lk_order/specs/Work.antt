-- Lists of what is found, each once, in the order in which it is found and followed.
use Rattle.std.specs.Prelude.{◌≡◌, ◌<◌, ℕ, List, Some, Contains, slice_get}
use Rattle.lk_sets.specs.Adding.{Adds}

-- more is found, just what the property says; what was found keeps its place
pub record Finds {X : Type 0} (P : X → Type 0) (old new : List X) : Type 0 where
  pub places : (i : ℕ) (x : X) → slice_get old i ≡ Some x → slice_get new i ≡ Some x
  pub adds : Adds P old new

-- what is found where the first k were followed
pub record IsWork {X : Type 0} (Seed : X → Type 0) (Follows : X → X → Type 0) (found : List X)
    (k : ℕ) : Type 0 where
  pub seeds : (x : X) → Seed x → Contains found x
  pub followed : (i : ℕ) (x y : X) → i < k → slice_get found i ≡ Some x → Follows x y → Contains found y
