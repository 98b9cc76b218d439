use Rattle.std.proofs.Common.{refl}
use Rattle.lk_lex.specs.Front.{hash_front}
use Rattle.lk_lex.proofs.front.hash_front.Goals as goal

pub returns-in-Some-Mark-clause-value : goal.returns-in-Some-Mark-clause-value
unfolding hash_front
returns-in-Some-Mark-clause-value c =
    rw (← c.line_len-len.ensures.value, ← c.split_at.ensures.front, ← c.in_ok-mark.ensures.value, c.in-Some-Mark.is, c.in-Some-Mark.field-0-is) refl

pub returns-in-Some-Pragma-clause-value : goal.returns-in-Some-Pragma-clause-value
unfolding hash_front
returns-in-Some-Pragma-clause-value c =
    rw (← c.line_len-len.ensures.value, ← c.split_at.ensures.front, ← c.in_ok-mark.ensures.value, c.in-Some-Pragma.is, c.in-Some-Pragma.field-0-is) refl

pub returns-in-None-clause-value : goal.returns-in-None-clause-value
unfolding hash_front
returns-in-None-clause-value c = rw (← c.line_len-len.ensures.value, ← c.split_at.ensures.front, ← c.in_ok-mark.ensures.value, c.in-None.is) refl
