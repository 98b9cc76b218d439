use Rattle.std.proofs.Common.{◌∙◌, Some, ap}
use Rattle.lk_join.proofs.Stepping.{element_known}
use Rattle.lk_join.proofs.completing.element_of.Goals as goal

pub returns-in-Array-clause-known : goal.returns-in-Array-clause-known
returns-in-Array-clause-known c = element_known c.args.types.now c.args.t _ _ c.get.result.now c.in-Array.is c.requires c.get.ensures.made_of

pub returns-in-Array-clause-exact : goal.returns-in-Array-clause-exact
returns-in-Array-clause-exact c = (_, c.get.ensures.value ∙ ap Some c.in-Array.is)
