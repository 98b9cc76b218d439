use Rattle.std.proofs.Common.{sym, ◌∙◌, arith}
use Rattle.lk_lex.proofs.Counts.{number_len-on, number_len-stop, number_len-end}
use Rattle.lk_lex.proofs.number.number_len.Goals as goal

pub returns-then-not-goes_on-clause-value : goal.returns-then-not-goes_on-clause-value
returns-then-not-goes_on-clause-value c =
    let stop = number_len-stop c.loop-len.before c.args.bytes.now c.loop-len.len (omega arith) (sym c.goes_on.ensures ∙ c.if-not-goes_on.true) in
    omega (arith, stop, c.loop-len.invariant)

pub loop-len-preserved : goal.loop-len-preserved
loop-len-preserved c =
    let on = number_len-on c.loop-len.before c.args.bytes.now c.loop-len.len (omega arith) (sym c.goes_on.ensures ∙ c.if-not-goes_on.false) in
    omega (arith, on, c.loop-len.invariant)

pub returns-clause-value : goal.returns-clause-value
returns-clause-value c =
    let end = number_len-end c.loop-len.before c.args.bytes.now c.loop-len.len (omega arith) in omega (arith, end, c.loop-len.invariant)
