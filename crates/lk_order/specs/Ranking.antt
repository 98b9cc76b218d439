-- Pairs of places: what leads where, and ranks as they rise.
use Rattle.std.specs.Prelude.{◌≡◌, ◌<◌, ◌≤◌, ◌-◌, ◌↔◌, ℕ, true, false, All, List, Contains, length, slice_index_or, suc, sum_by}
use Rattle.lk_facts.specs.Reach.{Plus}
use Rattle.lk_order.specs.Table.{pair_of}
use Rattle.lk_order.specs.declared.order.Pair.{Pair}
use Rattle.lk_sets.specs.Rows.{IsSquare, Rows, has, row_of}

-- a pair leads from one place to the other
abbrev pub Leads : List Pair → ℕ → ℕ → Type 0
Leads pairs q r = Contains pairs (pair_of q r)

-- the places of a pair are below the size
abbrev pub IsPairWithin : ℕ → Pair → Type 0
IsPairWithin size pair = (pair.held < size) × (pair.wanted < size)

-- row q has the places from which pairs lead to q, by one or more
pub record AreBefore (pairs : List Pair) (count : ℕ) (before : Rows) : Type 0 where
  pub size : before.size ≡ count
  pub members : (q o : ℕ) → (has before q o ≡ true) ↔ Plus (Leads pairs) o q

abbrev pub rank_in : List ℕ → ℕ → ℕ
rank_in ranks q = slice_index_or ranks q 0

-- Ranks that rise: each is 0, or at most one more than that of some place that leads there, and at most
-- the number of places before it.
pub record AreRising (pairs : List Pair) (before : Rows) (ranks : List ℕ) : Type 0 where
  pub size : length ranks ≡ before.size
  pub reason : (r : ℕ) → 0 < rank_in ranks r →
      (q : ℕ) × Leads pairs q r × (rank_in ranks r ≤ suc (rank_in ranks q))
  pub bounded : (r : ℕ) → rank_in ranks r ≤ length (row_of before r)

-- what the pairs and the places before others are: no place comes before itself
pub record AreOrdered (pairs : List Pair) (before : Rows) : Type 0 where
  pub square : IsSquare before
  pub first : AreBefore pairs before.size before
  pub acyclic : (q : ℕ) → has before q q ≡ false
  pub within : All (IsPairWithin before.size) pairs

-- the ranks still rise
abbrev pub Rises : List Pair → Rows → (old new : List ℕ) → Type 0
Rises pairs before old new = AreRising pairs before old → AreRising pairs before new

-- how much ranks may still rise, up to the number of places
unfoldable pub to_rise : ℕ → List ℕ → ℕ
to_rise size ranks = sum_by (λ rank. size - rank) ranks

-- the pair's rank has risen
abbrev pub HasRisen : Pair → List ℕ → Type 0
HasRisen pair ranks = rank_in ranks pair.held < rank_in ranks pair.wanted

-- the ranks of places by pairs
pub record AreRanksBy (pairs : List Pair) (ranks : List ℕ) : Type 0 where
  pub above : (q r : ℕ) → Leads pairs q r → rank_in ranks q < rank_in ranks r
  pub next : (r : ℕ) → 0 < rank_in ranks r →
      (q : ℕ) × Leads pairs q r × (rank_in ranks r ≡ suc (rank_in ranks q))
