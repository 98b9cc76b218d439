use Rattle.std.proofs.Common.{subst}
use Rattle.lk_sets.specs.Rows.{IsSquare}
use Rattle.lk_sets.proofs.Square.{none_in_row, next_in_row, square-seen}
use Rattle.lk_sets.proofs.bit_rows.BitRows.next_in_row.Goals as goal

pub returns-then-b-self-clause-square : goal.returns-then-b-self-clause-square
returns-then-b-self-clause-square c = subst IsSquare c.self.view_is (square-seen _ _ c.self.invariant)

pub returns-in_err-bit-clause-next : goal.returns-in_err-bit-clause-next
returns-in_err-bit-clause-next c =
    rw c.from_residual.ensures
    (none_in_row _ _ c.self.inside.words.items _ _ c.width-width.result c.self.view_is c.self.invariant c.requires.a c.width-width.ensures (rw c.deref.ensures.value at c.in_err-bit.ensures))

pub returns-in_err-bit-clause-square : goal.returns-in_err-bit-clause-square
returns-in_err-bit-clause-square c = subst IsSquare c.self.view_is (square-seen _ _ c.self.invariant)

pub returns-clause-next : goal.returns-clause-next
returns-clause-next c =
    next_in_row _ _ c.self.inside.words.items _ _ c.width-width.result _ c.self.view_is c.self.invariant c.requires.a c.width-width.ensures (rw c.deref.ensures.value at c.in_ok-bit.ensures)

pub returns-clause-square : goal.returns-clause-square
returns-clause-square c = subst IsSquare c.self.view_is (square-seen _ _ c.self.invariant)
