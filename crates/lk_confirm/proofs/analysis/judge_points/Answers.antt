use Rattle.std.proofs.Common.{Err, All, ap, subst, sym}
use Rattle.lk_report.specs.Report.{IsVerdictThere}
use Rattle.lk_confirm.specs.Answer.{ShowsSearch, shows, too_many}
use Rattle.lk_confirm.proofs.VerdictsThere.{verdicts_there}
use Rattle.lk_confirm.proofs.analysis.judge_points.Goals as goal

pub told-requires-clause-lowered : goal.told-requires-clause-lowered
told-requires-clause-lowered c = c.requires.made.lowered

pub told-requires-clause-there : goal.told-requires-clause-there
told-requires-clause-there c =
    let points = c.args.points.now in
    subst (All (IsVerdictThere points)) (sym c.deref.ensures.value) (verdicts_there points c.in-Ok.verdicts.items c.requires.made.in_range c.in-Ok.ensures.ok)

pub returns-in_ok-answer-in-Ok : goal.returns-in_ok-answer-in-Ok
returns-in_ok-answer-in-Ok c =
    let files = c.args.files.now in
    let points = c.args.points.now in
    shows c.in-Ok.verdicts.items c.in-Ok.ensures.ok c.in-Ok.ensures.few
    (subst (λ vs. ShowsSearch files points vs c.in_ok-answer-in-Ok.answer) c.deref.ensures.value c.in_ok-answer-in-Ok.ensures)

pub returns-in_ok-answer-in-Err-TooManyLabels : goal.returns-in_ok-answer-in-Err-TooManyLabels
returns-in_ok-answer-in-Err-TooManyLabels c =
    too_many (c.in-Err-TooManyLabels.ensures.too_many (ap Err c.in-Err-TooManyLabels.field-0-is)) c.in_ok-answer-in-Err-TooManyLabels.ensures
