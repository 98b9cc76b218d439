use Rattle.std.proofs.Common.{inl, inr, sym, subst}
use Rattle.lk_sources.specs.Readable.{AreFew}
use Rattle.lk_confirm.proofs.answer.judge_sources.Goals as goal

pub analyse-requires-clause-few : goal.analyse-requires-clause-few
analyse-requires-clause-few c = subst AreFew (sym c.in-Ok.ensures.many) c.requires.few

pub returns-in_ok-answer-in-Ok : goal.returns-in_ok-answer-in-Ok
returns-in_ok-answer-in-Ok c = inl (c.in-Ok.accepted, c.in-Ok.ensures.ok, c.in_ok-answer-in-Ok.ensures)

pub returns-in_ok-answer-in-Err : goal.returns-in_ok-answer-in-Err
returns-in_ok-answer-in-Err c = inr (c.in-Err.fault, c.in-Err.ensures.err, c.in_ok-answer-in-Err.ensures)
