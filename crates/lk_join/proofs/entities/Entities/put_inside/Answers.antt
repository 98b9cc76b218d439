use Rattle.lk_join.proofs.Named.{inside_listed, inside_named}
use Rattle.lk_join.proofs.entities.Entities.put_inside.Goals as goal

pub returns-clause-listed : goal.returns-clause-listed
returns-clause-listed c = inside_listed c.args.self.now c.push.new.self c.args.is c.in_ok-number.number c.requires.named c.requires.inside c.in_ok-number.ensures

pub returns-clause-named : goal.returns-clause-named
returns-clause-named c = inside_named c.args.self.now c.push.new.self c.args.is c.in_ok-number.number c.requires.named c.requires.inside c.in_ok-number.ensures
