use Rattle.std.proofs.Common.{◌≡◌, sym, ◌∙◌, refl, arith}
use Rattle.std.proofs.lemmas.List.{at_drop_all}
use Rattle.lk_lex.specs.Numbers.{value_of, value_from}
use Rattle.lk_lex.proofs.Counts.{too_great}
use Rattle.lk_lex.proofs.base.Base.value_of.Goals as goal

pub loop-digit-init : goal.loop-digit-init
unfolding value_of
loop-digit-init c = record { rest = refl; fits = omega arith }

pub returns-in_err-value : goal.returns-in_err-value
returns-in_err-value c =
    rw c.from_residual.ensures (too_great c.args.self c.loop-digit.value (value_of c.args.self c.args.digits.now) c.args.digits.now c.loop-digit.digit-index
    c.loop-digit-test.true c.loop-digit.invariant.rest c.in_err-value.ensures)

pub returns : goal.returns
returns c =
    let same : c.loop-digit.value ≡ value_of c.args.self c.args.digits.now =
    sym (at_drop_all (value_from c.args.self c.loop-digit.value) c.args.digits.now c.loop-digit.digit-index c.loop-digit-test.false) ∙ c.loop-digit.invariant.rest in
    (omega (arith, same), same)
