use Rattle.lk_labels.proofs.Telling.{goto_nowhere, goto_there}
use Rattle.lk_labels.proofs.rules.goto_code.Goals as goal

pub returns-in-Some : goal.returns-in-Some
returns-in-Some c = λ around are. goto_there c.args.labels.now c.args.name.now c.number_of.result c.number_of.ensures.number around are _ c.in-Some.is

pub returns-in-None : goal.returns-in-None
returns-in-None c = λ around are. goto_nowhere c.args.labels.now c.args.name.now c.number_of.result c.number_of.ensures.number around are c.in-None.is
