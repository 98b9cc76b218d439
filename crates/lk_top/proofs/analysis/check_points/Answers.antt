use Rattle.std.proofs.Common.{Err, All, ap, subst, sym}
use Rattle.lk_report.specs.Report.{IsVerdictThere}
use Rattle.lk_top.specs.Answer.{ShowsVerdicts, shows, too_many}
use Rattle.lk_top.proofs.SafeReports.{finds_each_race, no_other_races}
use Rattle.lk_top.proofs.VerdictsThere.{verdicts_there}
use Rattle.lk_top.proofs.analysis.check_points.Goals as goal

pub told-requires-clause-there : goal.told-requires-clause-there
told-requires-clause-there c =
    let points = c.args.points.now in
    subst (All (IsVerdictThere points)) (sym c.deref.ensures.value) (verdicts_there points c.in-Ok.verdicts.items c.requires.made.in_range c.in-Ok.ensures.ok)

pub returns-in_ok-answer-in-Ok : goal.returns-in_ok-answer-in-Ok
returns-in_ok-answer-in-Ok c =
    let files = c.args.files.now in
    let points = c.args.points.now in
    let verdicts = c.in-Ok.verdicts.items in
    let answer = c.in_ok-answer-in-Ok.answer in
    let are = c.requires.made in
    shows verdicts c.in-Ok.ensures.ok c.in-Ok.ensures.few
    (finds_each_race points verdicts are.in_range are.table are.lowered c.in-Ok.ensures.ok c.verdicts_find_races.ensures)
    (no_other_races points verdicts are.in_range are.table are.lowered c.in-Ok.ensures.ok c.verdicts_are_safe.ensures)
    (subst (λ vs. ShowsVerdicts files points vs answer) c.deref.ensures.value c.in_ok-answer-in-Ok.ensures)

pub returns-in_ok-answer-in-Err-TooManyLabels : goal.returns-in_ok-answer-in-Err-TooManyLabels
returns-in_ok-answer-in-Err-TooManyLabels c =
    too_many (c.in-Err-TooManyLabels.ensures.too_many (ap Err c.in-Err-TooManyLabels.field-0-is)) c.in_ok-answer-in-Err-TooManyLabels.ensures
