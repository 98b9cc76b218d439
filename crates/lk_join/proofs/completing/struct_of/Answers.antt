use Rattle.lk_join.proofs.Stepping.{struct_exact, struct_steps}
use Rattle.lk_join.proofs.completing.struct_of.Goals as goal

pub returns-clause-steps : goal.returns-clause-steps
returns-clause-steps c = struct_steps c.args.types.now c.args.t c.get.result.now c.struct_number.result c.struct_number.ensures c.get.ensures.made_of c.get.ensures.lower

pub returns-clause-exact : goal.returns-clause-exact
returns-clause-exact c = struct_exact c.args.types.now c.args.t c.get.result.now c.struct_number.result c.get.ensures.value c.struct_number.ensures
