use Rattle.lk_confirm.proofs.AnswerLemmas.{answered, not_read}
use Rattle.lk_confirm.proofs.answer.examine.Goals as goal

pub returns-in_ok-answer-in-Ok-clause-answer : goal.returns-in_ok-answer-in-Ok-clause-answer
returns-in_ok-answer-in-Ok-clause-answer g c = answered _ _ c.in-Ok.texts _ c.in-Ok.ensures.ok c.in_ok-answer-in-Ok.ensures

pub returns-in_ok-answer-in-Err-clause-answer : goal.returns-in_ok-answer-in-Err-clause-answer
returns-in_ok-answer-in-Err-clause-answer g c = not_read _ _ c.in-Err.fault _ c.in-Err.ensures.err c.in_ok-answer-in-Err.ensures
