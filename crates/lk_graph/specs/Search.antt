-- What arrows lead to, through some numbers alone. Only the private calls of this crate speak of it.
use Rattle.std.specs.Prelude.{◌≡◌, ℕ, Bool, true, List, length}
use Rattle.lk_facts.specs.Reach.{Plus}
use Rattle.lk_graph.specs.Graph.{leads}
use Rattle.lk_sets.specs.Marks.{is_marked}

-- an arrow leads from a to b
abbrev pub IsArrow : List (List ℕ) → ℕ → ℕ → Type 0
IsArrow graph a b = leads graph a b ≡ true

-- an arrow leads from a to b, which is marked
abbrev pub LeadsInto : List (List ℕ) → List Bool → ℕ → ℕ → Type 0
LeadsInto graph marks a b = IsArrow graph a b × (is_marked marks b ≡ true)

-- Arrows lead from a to b and back to a, through marked numbers alone. The other graph has the same arrows
-- the other way round, and is followed from a first.
abbrev pub IsOnRound : (graph back : List (List ℕ)) → List Bool → ℕ → ℕ → Type 0
IsOnRound graph back marks a = Plus (λ x y. IsArrow graph x y × Plus (LeadsInto back marks) a y) a

-- the other graph has the same arrows the other way round
pub record IsTurned (graph back : List (List ℕ)) : Type 0 where
  pub size : length back ≡ length graph
  pub arrows : (a b : ℕ) → leads back a b ≡ leads graph b a

-- arrows lead from a back to it
abbrev pub IsInCycle : List (List ℕ) → ℕ → Type 0
IsInCycle graph a = Plus (IsArrow graph) a a
