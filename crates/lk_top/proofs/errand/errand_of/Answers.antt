use Rattle.std.proofs.lemmas.Result.{IfErr-weaker}
use Rattle.lk_words.specs.Words.{Play}
use Rattle.lk_top.specs.Answer.{RefusesErrand}
use Rattle.lk_top.specs.Errands.{TellsBadSchedule}
use Rattle.lk_top.proofs.AnswerLemmas.{no_schedule}
use Rattle.lk_top.proofs.errand.errand_of.Goals as goal

pub returns-in-Play-clause-err : goal.returns-in-Play-clause-err
returns-in-Play-clause-err c =
    let files = c.args.files.now in
    let others = c.args.beside.now in
    let schedule = c.in-Play.schedule.now in
    rw c.in-Play.is (IfErr-weaker c.play_by.result (TellsBadSchedule files others) (RefusesErrand (Play schedule) files others) (no_schedule schedule files others) c.play_by.ensures.err)
