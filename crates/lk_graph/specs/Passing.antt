-- Rows that are passed on along the arrows of a graph, as far as they have been. Only the private
-- calls of this crate speak of it.
use Rattle.std.specs.Prelude.{◌≡◌, ◌⊎◌, ℕ, Bool, true, false, List, ⊤, length}
use Rattle.lk_facts.specs.Reach.{Plus}
use Rattle.lk_graph.specs.Search.{IsArrow}
use Rattle.lk_sets.specs.Closing.{Going}
use Rattle.lk_sets.specs.Marks.{is_marked}
use Rattle.lk_sets.specs.Rows.{Rows, has}

-- what stands with a number is what the arrows lead to, the other way round, by one or more
abbrev pub AreReached : List (List ℕ) → Rows → Type 0
AreReached graph rows = (a b : ℕ) → has rows a b ≡ true → Plus (λ x y. IsArrow graph y x) a b

-- what stands with one number stands with the other
abbrev pub IsPassed : Rows → ℕ → ℕ → Type 0
IsPassed rows from into = (b : ℕ) → has rows from b ≡ true → has rows into b ≡ true

-- each row is passed on along each arrow
abbrev pub ArePassed : List (List ℕ) → Rows → Type 0
ArePassed graph rows = (a b : ℕ) → IsArrow graph a b → IsPassed rows a b

-- or is marked
abbrev pub ArePassedOrMarked : List (List ℕ) → List Bool → Rows → Type 0
ArePassedOrMarked graph marks rows =
    (a b : ℕ) → IsArrow graph a b → IsPassed rows a b ⊎ (is_marked marks a ≡ true)

-- a marked row was passed on, and isn't marked any more
pub record IsRowPassed (graph : List (List ℕ)) (a : ℕ) (old new : Rows) (before now : List Bool)
    (changed : Bool) : Type 0 where
  pub going : Going (AreReached graph) (λ _. ⊤) old new changed
  pub long : length now ≡ length before
  pub waits : ArePassedOrMarked graph before old → ArePassedOrMarked graph now new
  pub fewer : changed ≡ false → (x : ℕ) → is_marked now x ≡ true → is_marked before x ≡ true
  pub done : changed ≡ false → is_marked now a ≡ false
