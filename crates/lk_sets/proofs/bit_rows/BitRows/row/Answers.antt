use Rattle.std.proofs.Common.{subst}
use Rattle.lk_sets.specs.Rows.{IsSquare}
use Rattle.lk_sets.proofs.Square.{row_from-zero, square-seen}
use Rattle.lk_sets.proofs.bit_rows.BitRows.row.Goals as goal

pub returns-clause-row : goal.returns-clause-row
returns-clause-row c = row_from-zero c.args.self.now c.args.a

pub returns-clause-square : goal.returns-clause-square
returns-clause-square c = subst IsSquare c.self.view_is (square-seen _ _ c.self.invariant)
