-- What the readers of `Order` tell.
use Rattle.std.specs.Prelude.{◌≡◌, ◌<◌, ◌⊎◌, ◌↔◌, ℕ, Bool, true, false, if◌then◌else◌, List, Option, Some, None, Contains, slice_get, slice_index_or}
use Rattle.lk_facts.specs.Basis.{Basis}
use Rattle.lk_order.specs.Order.{Precedes, LiesOnCycle, AreRanks}
use Rattle.lk_order.specs.declared.order.Pair.{Pair}

-- the pairs of places of which one may be locked while the other is owned; for each number of a place
-- whether it lies on a cycle, whether any does, and its rank
pub record OrderTable : Type 0 where
  pub pairs : List Pair
  pub cycles : List Bool
  pub cyclic : Bool
  pub ranks : List ℕ

abbrev pub table_of : List Pair → List Bool → Bool → List ℕ → OrderTable
table_of pairs cycles cyclic ranks =
    record { pairs = pairs; cycles = cycles; cyclic = cyclic; ranks = ranks }

-- whether a place lies on a cycle; past the end none does
abbrev pub on_cycle : OrderTable → ℕ → Bool
on_cycle order q = slice_index_or order.cycles q false

-- the rank of a place, which is 0 past the end
abbrev pub rank_at : OrderTable → ℕ → ℕ
rank_at order q = slice_index_or order.ranks q 0

-- there is none where some place lies on a cycle
abbrev pub rank_of : OrderTable → ℕ → Option ℕ
rank_of order q = if order.cyclic then None else Some (rank_at order q)

abbrev pub pair_of : (held wanted : ℕ) → Pair
pair_of held wanted = record { held = held; wanted = wanted }

-- pairs stand in the order of what is held, then of what is wanted
abbrev pub StandsBefore : Pair → Pair → Type 0
StandsBefore a b = (a.held < b.held) ⊎ ((a.held ≡ b.held) × (a.wanted < b.wanted))

-- pairs in ascending order without repeats
abbrev pub AreAscending : List Pair → Type 0
AreAscending pairs =
    (i j : ℕ) (a b : Pair) → slice_get pairs i ≡ Some a → slice_get pairs j ≡ Some b → i < j →
    StandsBefore a b

-- the order of the mutexes of a program: its pairs, the places on cycles, whether there is one, and
-- the rank of each place where none lies on a cycle
pub record IsOrder (basis : Basis) (linear : ℕ → Bool) (order : OrderTable) : Type 0 where
  pub ascending : AreAscending order.pairs
  pub pairs : (q r : ℕ) → Contains order.pairs (pair_of q r) ↔ Precedes basis linear q r
  pub cycles : (q : ℕ) → (on_cycle order q ≡ true) ↔ LiesOnCycle basis linear q
  pub cyclic : (order.cyclic ≡ true) ↔ ((q : ℕ) × LiesOnCycle basis linear q)
  pub ranks : order.cyclic ≡ false → AreRanks basis linear (rank_at order)
