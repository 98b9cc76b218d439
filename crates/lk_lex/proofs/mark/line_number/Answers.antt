use Rattle.std.proofs.Common.{refl}
use Rattle.lk_lex.specs.declared.base.Base.TheVariants as b
use Rattle.lk_lex.specs.Numbers.{value_of}
use Rattle.lk_lex.specs.Marks.{line_number}
use Rattle.lk_lex.proofs.Counts.{not_small, past_small, is_small}
use Rattle.lk_lex.proofs.mark.line_number.Goals as goal

pub returns-then-is_empty-clause-value : goal.returns-then-is_empty-clause-value
unfolding line_number
returns-then-is_empty-clause-value c = rw (← c.is_empty.ensures, c.if-is_empty.true) refl

pub returns-then-not-are_digits-clause-value : goal.returns-then-not-are_digits-clause-value
unfolding line_number
returns-then-not-are_digits-clause-value c = rw (← c.is_empty.ensures, c.if-is_empty.false, ← c.are_digits.ensures, c.if-not-are_digits.true) refl

pub returns-in_err-value-clause-value : goal.returns-in_err-value-clause-value
unfolding line_number
returns-in_err-value-clause-value c =
    rw (c.from_residual.ensures, ← c.is_empty.ensures, c.if-is_empty.false, ← c.are_digits.ensures, c.if-not-are_digits.false, not_small (value_of b.Decimal c.args.word.now) c.in_err-value.ensures) refl

pub returns-then-value-gt-GREATEST_LINE-clause-value : goal.returns-then-value-gt-GREATEST_LINE-clause-value
unfolding line_number
returns-then-value-gt-GREATEST_LINE-clause-value c =
    rw (← c.is_empty.ensures, c.if-is_empty.false, ← c.are_digits.ensures, c.if-not-are_digits.false, ← c.in_ok-value.ensures.1, past_small c.in_ok-value.value c.if-value-gt-GREATEST_LINE.true) refl

pub returns-clause-value : goal.returns-clause-value
unfolding line_number
returns-clause-value c =
    rw (← c.is_empty.ensures, c.if-is_empty.false, ← c.are_digits.ensures, c.if-not-are_digits.false, ← c.in_ok-value.ensures.1, is_small c.in_ok-value.value c.if-value-gt-GREATEST_LINE.false) refl
