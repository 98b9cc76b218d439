-- Arrows between the numbers below a size, for each number a list of those to which its arrows lead.
use Rattle.std.specs.Prelude.{◌≡◌, ◌<◌, ◌↔◌, ℕ, Bool, true, List, [], All, length, slice_index_or}
use Rattle.lk_sets.specs.Ids.{has_id}

-- the numbers to which arrows lead from a, none past the end
abbrev pub ends_of : List (List ℕ) → ℕ → List ℕ
ends_of graph a = slice_index_or graph a []

-- whether an arrow leads from a to b
abbrev pub leads : List (List ℕ) → ℕ → ℕ → Bool
leads graph a b = has_id (ends_of graph a) b

-- the list has each number below n, and no other
abbrev pub AreAllBelow : ℕ → List ℕ → Type 0
AreAllBelow n order = (x : ℕ) → (has_id order x ≡ true) ↔ (x < n)

-- the lists are those of the numbers below the size, and lead to such numbers alone
pub record IsGraph (size : ℕ) (graph : List (List ℕ)) : Type 0 where
  pub all : length graph ≡ size
  pub within : All (All (λ b. b < size)) graph
