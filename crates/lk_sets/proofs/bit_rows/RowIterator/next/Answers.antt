use Rattle.std.proofs.Common.{◌≡◌, ◌+◌, ◌∷◌, [], ◌∙◌, sym, ap, length, arith}
use Rattle.std.proofs.lemmas.Grind.{common_steps}
use Rattle.lk_sets.specs.Rows.{row_from}
use Rattle.lk_sets.proofs.Square.{row_from-none, row_from-next}
use Rattle.lk_sets.proofs.bit_rows.RowIterator.next.Goals as goal
use Rattle.lk_sets.proofs.bit_rows.RowIterator.next.Goals.{In_ok-next}

first : (c : In_ok-next) → c.args.self.now ≡ c.in_ok-next.next ∷ row_from c.self.inside.rows.now c.self.inside.row (c.in_ok-next.next + 1)
first c = sym c.self.view_is ∙ row_from-next _ _ _ _ c.in_ok-next.ensures.square c.in_ok-next.ensures.next

pub returns-in_err-next-clause-steps : goal.returns-in_err-next-clause-steps
returns-in_err-next-clause-steps c =
    let none : c.args.self.now ≡ [] = sym c.self.view_is ∙ row_from-none _ _ _ c.in_err-next.ensures.square c.in_err-next.ensures.next in
    rw c.from_residual.ensures (none, none)

pub returns-clause-steps : goal.returns-clause-steps
returns-clause-steps c = first (goal.at.returns-clause-steps c).In_ok-next

pub returns-clause-goes : goal.returns-clause-goes
returns-clause-goes c = let e = ap length (first (goal.at.returns-clause-goes c).In_ok-next) in grind (arith, common_steps)
