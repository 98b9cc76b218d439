use Rattle.std.proofs.Common.{sym, subst}
use Rattle.lk_sources.specs.Readable.{AreFew}
use Rattle.lk_top.specs.Errands.{seen_errand}
use Rattle.lk_top.proofs.AnswerLemmas.{judged_accepted, judged_refused}
use Rattle.lk_top.proofs.answer.judge_for.Goals as goal

pub analyse-requires-clause-few : goal.analyse-requires-clause-few
analyse-requires-clause-few c = subst AreFew (sym c.in-Ok.ensures.many) c.requires.few

pub returns-in-Ok : goal.returns-in-Ok
returns-in-Ok c =
    judged_accepted (seen_errand c.args.asked.errand) c.args.files c.args.asked.externs.items c.args.sources.now c.in-Ok.accepted _ c.in-Ok.ensures.ok c.in_ok-answer-in-Ok.ensures

pub returns : goal.returns
returns c =
    judged_refused (seen_errand c.args.asked.errand) c.args.files c.args.asked.externs.items c.args.sources.now c.in-Err.fault _ c.in-Err.ensures.err c.in_ok-answer-in-Err.ensures
