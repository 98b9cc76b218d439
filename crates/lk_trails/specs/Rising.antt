-- The tables of an analysis after its flow, and that they are closed under the rules: lock
-- sets, items and racing items.
use Rattle.std.specs.Prelude.{◌≡◌, ℕ, Bool, true}
use Rattle.lk_facts.specs.Analysis.{held_table}
use Rattle.lk_facts.specs.Basis.{Basis}
use Rattle.lk_facts.specs.Held.{PointTest, AreClosedLockSets}
use Rattle.lk_facts.specs.Items.{ItemTest, LockTest, AreClosedItems}
use Rattle.lk_facts.specs.LockSets.{LockSets}
use Rattle.lk_facts.specs.Many.{IsLinear}
use Rattle.lk_facts.specs.Racing.{Setting, AreClosedRaces}
use Rattle.lk_facts.specs.Reach.{After}

-- the tables of an analysis after its flow
pub record Tables : Type 0 where
  pub held : LockSets
  pub after : PointTest
  pub has : ItemTest
  pub item_locks : LockTest
  pub races : ItemTest
  pub race_locks : LockTest
  pub linear : ℕ → Bool

abbrev pub setting_of : Tables → Setting
setting_of tables =
    record { after = tables.after; has = tables.has; held = held_table tables.held; locks = tables.item_locks }

-- They are closed under the rules, and stay within what the rules allow: they may have more than the least,
-- and fewer locks than the greatest.
pub record AreClosedTables (basis : Basis) (tables : Tables) : Type 0 where
  pub lock_sets : AreClosedLockSets basis tables.held
  pub order : (p q : ℕ) → After basis.program p q → tables.after p q ≡ true
  pub items : AreClosedItems basis (held_table tables.held) tables.has tables.item_locks
  pub racing : AreClosedRaces basis (setting_of tables) tables.races tables.race_locks
  pub linear : (q : ℕ) → tables.linear q ≡ true → IsLinear basis.program q
