-- Which numbers stand in an order as far as it has come. Only the private calls of this crate speak of it.
use Rattle.std.specs.Prelude.{◌≡◌, ◌<◌, ℕ, Bool, false, List, All, length, slice_index_or}
use Rattle.lk_graph.specs.declared.walk.Turn.{Turn}
use Rattle.lk_graph.specs.declared.walk.Turn.TheVariants.{Enter, Leave}
use Rattle.lk_graph.specs.declared.walk.Walk.{Walk}
use Rattle.lk_sets.specs.Ids.{has_id}

-- a number is in the order just where it is marked
abbrev pub AreMarked : List Bool → List ℕ → Type 0
AreMarked seen order = (p : ℕ) → has_id order p ≡ slice_index_or seen p false

-- the number that a walk comes to or leaves
abbrev pub turn_number : Turn → ℕ
turn_number (Enter a) = a
turn_number (Leave a) = a

-- a walk along arrows between the numbers below n
pub record IsWalk (n : ℕ) (walk : Walk) : Type 0 where
  pub entered : length walk.entered.items ≡ n
  pub left : length walk.left.items ≡ n
  pub marked : AreMarked walk.left.items walk.order.items
  pub pending : All (λ turn. turn_number turn < n) walk.pending.items
