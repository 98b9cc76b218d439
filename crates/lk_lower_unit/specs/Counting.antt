-- How the nodes of sources are numbered: in the order of the sources and of their nodes, each node with
-- as many numbers as it counts.
use Rattle.std.specs.Prelude.{◌≡◌, ◌<◌, ◌≤◌, ◌+◌, ℕ, List}
use Rattle.std.specs.List.{sum, sum_by}
use Rattle.lk_lower_expr.specs.Lowering.{Counts}
use Rattle.lk_lower_parts.specs.Givens.{at_node}
use Rattle.lk_lower_unit.specs.declared.bases.Bases.{Bases}

-- the thing `k` of a node is there, where a list says of each source how many things each node has
abbrev pub Has : List (List ℕ) → (s o k : ℕ) → Type 0
Has counts s o k = k < at_node counts s o

abbrev pub total : List (List ℕ) → ℕ
total counts = sum_by sum counts

-- the number of a thing of a node, by that of the node's first
abbrev pub number_by : List (List ℕ) → (s o k : ℕ) → ℕ
number_by bases s o k = at_node bases s o + k

-- all things that are counted have numbers from `first` on, none of them above `most`
pub record AreBases (counts : List (List ℕ)) (first most : ℕ) (found : Bases) : Type 0 where
  pub order : Counts (Has counts) first found.count (number_by found.bases)
  pub all : found.count ≡ total counts
  pub few : first + total counts ≤ most
  pub bases : (s o : ℕ) → at_node found.bases s o ≤ most
