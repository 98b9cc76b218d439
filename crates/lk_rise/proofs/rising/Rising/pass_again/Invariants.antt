use Rattle.std.proofs.Common.{ℕ, ◌<◌, []}
use Rattle.lk_rise.specs.Tables.{setting, Steps}
use Rattle.lk_rise.proofs.PassLemmas.{PassedAt, AreSettledOf}
use Rattle.lk_rise.proofs.rising.Rising.pass_again.Given as goal

abbrev pub invariant-loop-item : goal.invariant-loop-item
invariant-loop-item l = record {
  steps : Steps (setting l.self) (λ e. (i : ℕ) → i < l.item-index → PassedAt (setting l.self) l.into l.items i e) l.initial.table l.table [] l.again.items;
  settled : AreSettledOf (setting l.self) l.into l.items l.item-index l.again.items l.table;
}
