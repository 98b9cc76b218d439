use Rattle.std.proofs.Common.{subst}
use Rattle.lk_sets.specs.Rows.{IsSquare}
use Rattle.lk_sets.proofs.Square.{square-seen}
use Rattle.lk_sets.proofs.bit_rows.BitRows.size.Goals as goal

pub returns-clause-square : goal.returns-clause-square
returns-clause-square c = subst IsSquare c.self.view_is (square-seen _ _ c.self.invariant)
