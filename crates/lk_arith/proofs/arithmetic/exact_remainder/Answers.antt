use Rattle.std.specs.Int.{w128}
use Rattle.std.proofs.lemmas.Int.{rem_is}
use Rattle.lk_arith.proofs.arithmetic.exact_remainder.Goals as goal

pub returns : goal.returns
returns c = rem_is w128 c.args.a c.args.b c.ranges.a c.ranges.b
