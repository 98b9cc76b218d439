use Rattle.std.proofs.Common.{refl}
use Rattle.lk_lex.specs.Marks.{mark}
use Rattle.lk_lex.proofs.mark.mark_from.Goals as goal

pub returns-in_default-clause-value : goal.returns-in_default-clause-value
unfolding mark
returns-in_default-clause-value c = rw (← c.word_len.ensures.value, ← c.split_at.ensures.front, ← c.line_number.ensures.value, c.in_default.is) refl

pub returns-clause-value : goal.returns-clause-value
unfolding mark
returns-clause-value c =
    rw (← c.word_len.ensures.value, ← c.split_at.ensures.front, ← c.line_number.ensures.value, c.in-Some.is, ← c.split_at.ensures.back, ← c.past_blanks.ensures) c.numbered_mark.ensures.value
