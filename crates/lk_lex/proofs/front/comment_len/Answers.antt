use Rattle.std.proofs.Common.{refl, sym, ◌∙◌, arith}
use Rattle.lk_lex.proofs.Quoting.{more-zero}
use Rattle.lk_lex.proofs.Fronts.{comment_len-close, comment_len-on, comment_len-end}
use Rattle.lk_lex.proofs.front.comment_len.Goals as goal

pub loop-len-init : goal.loop-len-init
loop-len-init c = more-zero _

pub returns-then-closes-clause-value : goal.returns-then-closes-clause-value
returns-then-closes-clause-value c =
    rw (c.loop-len.invariant, comment_len-close c.loop-len.before c.args.bytes.now c.loop-len.len (omega arith) (sym c.closes.ensures ∙ c.if-closes.true)) refl

pub loop-len-preserved : goal.loop-len-preserved
loop-len-preserved c = c.loop-len.invariant ∙ comment_len-on c.loop-len.before c.args.bytes.now c.loop-len.len (omega arith) (sym c.closes.ensures ∙ c.if-closes.false)

pub returns-clause-value : goal.returns-clause-value
returns-clause-value c =
    rw (c.loop-len.invariant, comment_len-end c.loop-len.before c.args.bytes.now c.loop-len.len (omega arith)) refl
