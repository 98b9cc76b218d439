use Rattle.lk_play.proofs.Taking.{lines_there, races_true}
use Rattle.lk_play.proofs.running.lines_of.Goals as goal

pub returns-clause-there : goal.returns-clause-there
returns-clause-there c = lines_there c.args.points.now c.args.turns.now c.in_ok-lines.lines.items c.in_ok-lines.ensures

pub returns-clause-true_races : goal.returns-clause-true_races
returns-clause-true_races c = races_true c.args.points.now c.args.turns.now c.in_ok-lines.lines.items c.in_ok-lines.ensures
