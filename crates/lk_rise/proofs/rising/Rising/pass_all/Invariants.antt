use Rattle.std.proofs.Common.{◌≡◌, ◌≤◌, true, Contains}
use Rattle.lk_rise.specs.Correlations.{has_item}
use Rattle.lk_rise.specs.Tables.{setting, Grows}
use Rattle.lk_rise.specs.declared.correlations.Correlation.{Correlation}
use Rattle.lk_rise.proofs.PassLemmas.{AreSettledBelow}
use Rattle.lk_rise.proofs.rising.Rising.pass_all.Given as goal

abbrev pub invariant-loop-k : goal.invariant-loop-k
invariant-loop-k l = record {
  grows : Grows (setting l.self) l.initial.table l.table;
  there : (item : Correlation) → Contains l.again.items item → has_item l.table item ≡ true;
  settled : AreSettledBelow (setting l.self) l.into l.k l.again.items l.table;
  small : l.k ≤ 9223372036854775808;
}
