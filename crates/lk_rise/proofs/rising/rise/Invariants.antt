use Rattle.std.proofs.Common.{◌≡◌, ◌+◌, ◌<◌, ℕ, true, Contains, length}
use Rattle.lk_rise.specs.Correlations.{has_item}
use Rattle.lk_rise.specs.Tables.{setting, weight, IsSound, HasBased, HasPassed, IsSettled}
use Rattle.lk_rise.specs.declared.correlations.Correlation.{Correlation}
use Rattle.lk_rise.proofs.rising.rise.Given as goal

abbrev pub invariant-loop-rising : goal.invariant-loop-rising
invariant-loop-rising l = record {
  sound : IsSound (setting l.rising) l.table;
  based : (i : ℕ) → i < length l.based → HasBased (setting l.rising) i l.table;
  there : (item : Correlation) → Contains l.again.items item → has_item l.table item ≡ true;
  passed : (item : Correlation) → has_item l.table item ≡ true → HasPassed (setting l.rising) l.into.items item l.table;
  settled : (item : Correlation) → has_item l.table item ≡ true → IsSettled (setting l.rising) l.into.items l.again.items item l.table;
}

abbrev pub decreases-loop-rising : goal.decreases-loop-rising
decreases-loop-rising l = weight l.table + length l.again.items
