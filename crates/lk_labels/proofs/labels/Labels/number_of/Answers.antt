use Rattle.std.proofs.Common.{rules}
use Rattle.lk_labels.proofs.Putting.{named_there}
use Rattle.lk_labels.proofs.labels.Labels.number_of.Goals as goal

pub returns-clause-named : goal.returns-clause-named
returns-clause-named c = named_there c.args.self.now c.args.name.now c.copied.result (search rules)
