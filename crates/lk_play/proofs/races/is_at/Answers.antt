use Rattle.lk_play.specs.Calls.{touched_at}
use Rattle.lk_play.proofs.Racing.{at_yes, at_no}
use Rattle.lk_play.proofs.races.is_at.Goals as goal

pub returns-in-Some-clause-yes : goal.returns-in-Some-clause-yes
returns-in-Some-clause-yes c =
    at_yes c.in-Some.found.now (touched_at c.args.touches.now c.args.thread) c.args.cell.now c.same.result c.in-Some.ensures c.same.ensures

pub returns-in-Some-clause-no : goal.returns-in-Some-clause-no
returns-in-Some-clause-no c =
    at_no c.in-Some.found.now (touched_at c.args.touches.now c.args.thread) c.args.cell.now c.same.result c.in-Some.ensures c.same.ensures
