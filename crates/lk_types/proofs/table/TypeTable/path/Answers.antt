use Rattle.std.proofs.Common.{◌≡◌, ◌-◌, suc, arith, subst}
use Rattle.lk_types.proofs.LeftPath.{IsAhead, none_ahead, step_ahead}
use Rattle.lk_types.proofs.table.TypeTable.path.Goals as goal

pub loop-number-preserved : goal.loop-number-preserved
loop-number-preserved c =
    let now = c.args.self.now in
    let sel = c.part_at-sel.result.0 in
    let number : c.loop-number.number ≡ suc (c.loop-number.number - 1) = omega (arith, c.loop-number-test.true) in
    let ahead = subst (IsAhead now c.args.n c.loop-number.path.items c.loop-number.t) number c.loop-number.invariant in
    rw (c.in_ok-push.ensures.items) (step_ahead now c.args.n c.loop-number.path.items c.loop-number.t (c.loop-number.number - 1) sel c.part_at-sel.result.1 c.part_at-sel.result.2 ahead c.part_at-sel.ensures)

pub returns : goal.returns
returns c =
    let zero : c.loop-number.number ≡ 0 = omega (arith, c.loop-number-test.false) in
    none_ahead c.args.self.now c.is_table.ensures c.args.n c.loop-number.path.items c.loop-number.t (subst (IsAhead c.args.self.now c.args.n c.loop-number.path.items c.loop-number.t) zero c.loop-number.invariant)
