use Rattle.std.proofs.Common.{refl}
use Rattle.lk_lex.specs.Numbers.{constant_of}
use Rattle.lk_lex.proofs.Counts.{kind_of-none}
use Rattle.lk_lex.proofs.number.constant_of.Goals as goal

pub returns-then-is_empty : goal.returns-then-is_empty
unfolding constant_of
returns-then-is_empty c = rw (← c.is_empty.ensures, c.if-is_empty.true) refl

pub returns-in_err-suffix : goal.returns-in_err-suffix
unfolding constant_of
returns-in_err-suffix c = rw (c.from_residual.ensures, ← c.is_empty.ensures, c.if-is_empty.false, ← c.suffix_of.ensures, c.in_err-suffix.was) refl

pub returns-in_err-value : goal.returns-in_err-value
unfolding constant_of
returns-in_err-value c =
    rw (c.from_residual-in_err-value.ensures, ← c.is_empty.ensures, c.if-is_empty.false, ← c.suffix_of.ensures, c.in_ok-suffix.was, kind_of-none c.args.base c.in_ok-suffix.suffix _ c.in_err-value.ensures) refl

pub returns-in_err-kind : goal.returns-in_err-kind
unfolding constant_of
returns-in_err-kind c =
    rw (c.from_residual-in_err-kind.ensures, ← c.is_empty.ensures, c.if-is_empty.false, ← c.suffix_of.ensures, c.in_ok-suffix.was, ← c.in_ok-value.ensures.1, ← c.kind_of.ensures, c.in_err-kind.was) refl

pub returns : goal.returns
unfolding constant_of
returns c =
    rw (← c.is_empty.ensures, c.if-is_empty.false, ← c.suffix_of.ensures, c.in_ok-suffix.was, ← c.in_ok-value.ensures.1, ← c.kind_of.ensures, c.in_ok-kind.was) refl
