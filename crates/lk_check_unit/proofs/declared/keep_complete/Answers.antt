use Rattle.std.proofs.Common.{ap}
use Rattle.lk_check_decl.specs.Twins.{given_of}
use Rattle.lk_check_unit.proofs.Naming.{given_there}
use Rattle.lk_check_unit.proofs.declared.keep_complete.Goals as goal

pub keep_bare-requires-clause-bare : goal.keep_bare-requires-clause-bare
keep_bare-requires-clause-bare c = ap given_of c.in-Nothing.is

pub keep_object-requires-clause-here : goal.keep_object-requires-clause-here
keep_object-requires-clause-here c = given_there c.args.how.now.scope c.args.words.now c.args.how.now.given c.in-Initialiser.is
