use Rattle.std.specs.Int.{w128}
use Rattle.std.proofs.lemmas.Int.{quot_is}
use Rattle.lk_arith.proofs.Dividing.{quotient_fits}
use Rattle.lk_arith.proofs.arithmetic.exact_quotient.Goals as goal

pub returns : goal.returns
returns c = quot_is w128 c.args.a c.args.b c.ranges.a c.ranges.b (quotient_fits c.args.kind c.args.a c.args.b c.requires.first)
