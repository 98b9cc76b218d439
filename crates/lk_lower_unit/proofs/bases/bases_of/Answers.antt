use Rattle.std.proofs.Common.{refl}
use Rattle.lk_lower_unit.proofs.Sums.{all_numbered}
use Rattle.lk_lower_unit.proofs.bases.bases_of.Goals as goal

pub returns-clause-ok : goal.returns-clause-ok
returns-clause-ok c = all_numbered _ _ c.loop-row.next _ c.loop-row.row-index _ _ c.loop-row-test.false c.loop-row.invariant.rows c.loop-row.invariant.sum c.loop-row.invariant.few c.new.ensures refl
