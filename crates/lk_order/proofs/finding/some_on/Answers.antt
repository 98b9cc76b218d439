use Rattle.std.proofs.Common.{◌∙◌, false, length, refl, sym, inl, inr, arith}
use Rattle.std.proofs.lemmas.Bool.{both_ways, cases_lt, false≢true}
use Rattle.std.proofs.lemmas.List.{get_or_past}
use Rattle.lk_order.proofs.finding.some_on.Goals as goal

pub returns-then-on : goal.returns-then-on
returns-then-on c = (λ yes. (c.loop-on.on-index, c.if-on.true), λ found. refl)

pub returns : goal.returns
returns c = (
  λ yes. absurd (false≢true yes),
  λ found. absurd (elim (cases_lt found.0 (length c.args.cycles.now)) [
    | inl within ↦ both_ways _ (c.loop-on.invariant found.0 (omega (arith, within, c.loop-on-test.false))) found.1
    | inr past ↦ false≢true (sym (get_or_past c.args.cycles.now found.0 false past) ∙ found.1)
  ]),
)
