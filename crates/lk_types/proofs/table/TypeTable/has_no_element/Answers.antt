use Rattle.std.proofs.Common.{◌≡◌, refl, arith, subst}
use Rattle.lk_types.proofs.ElementLemmas.{IsLeft, none_left}
use Rattle.lk_types.proofs.table.TypeTable.has_no_element.Goals as goal

pub returns : goal.returns
returns c =
    let now = c.args.self.now in
    let zero : c.loop-number.number ≡ 0 = omega (arith, c.loop-number-test.false) in
    let none = none_left now c.is_table.ensures c.args.n c.loop-number.t (subst (IsLeft now c.args.n c.loop-number.t) zero c.loop-number.invariant) in
    ((λ _. none), (λ _. refl))
