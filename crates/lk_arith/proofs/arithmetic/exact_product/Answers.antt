use Rattle.std.proofs.Common.{◌*ℤ◌}
use Rattle.std.specs.Int.{w128}
use Rattle.std.proofs.lemmas.Int.{to_z-of_z}
use Rattle.lk_arith.proofs.Multiplying.{product_fits}
use Rattle.lk_arith.proofs.arithmetic.exact_product.Goals as goal

pub overflow_mul-result : goal.overflow_mul-result
overflow_mul-result c = rw (to_z-of_z w128 c.args.a c.ranges.a, to_z-of_z w128 c.args.b c.ranges.b) (product_fits c.args.kind c.args.a c.args.b c.requires.kind c.requires.first c.requires.second)

pub returns : goal.returns
returns c = rw (to_z-of_z w128 c.args.a c.ranges.a, to_z-of_z w128 c.args.b c.ranges.b) (to_z-of_z w128 (c.args.a *ℤ c.args.b) (product_fits c.args.kind c.args.a c.args.b c.requires.kind c.requires.first c.requires.second))
