use Rattle.std.proofs.Common.{arith}
use Rattle.std.proofs.lemmas.Bool.Decides.{nat_tests}
use Rattle.lk_types.proofs.table.TypeTable.are_alike.Goals as goal

pub returns : goal.returns
returns c = let iff = c.least_alike.ensures.alike c.args.b c.requires.b in grind (arith, nat_tests, iff)
