use Rattle.std.proofs.Common.{refl}
use Rattle.lk_lex.specs.Front.{number_front}
use Rattle.lk_lex.proofs.Fronts.{number_len-some}
use Rattle.lk_lex.proofs.front.number_front.Goals as goal

pub returns-in-Some-clause-value : goal.returns-in-Some-clause-value
unfolding number_front
returns-in-Some-clause-value c = rw (← c.number_len-len.ensures.value, ← c.split_at.ensures.front, ← c.number_of.ensures, c.in-Some.is) refl

pub returns-in-Some-clause-within : goal.returns-in-Some-clause-within
returns-in-Some-clause-within c = record {
  some = rw c.number_len-len.ensures.value (number_len-some c.args.bytes.now c.requires);
  fits = c.number_len-len.ensures.within;
}

pub returns-in-None-clause-value : goal.returns-in-None-clause-value
unfolding number_front
returns-in-None-clause-value c = rw (← c.number_len-len.ensures.value, ← c.split_at.ensures.front, ← c.number_of.ensures, c.in-None.is) refl
