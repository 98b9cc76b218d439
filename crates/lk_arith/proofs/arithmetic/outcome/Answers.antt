use Rattle.std.proofs.Common.{◌-ℤ◌}
use Rattle.std.proofs.Math.Bool.{or-false}
use Rattle.std.proofs.lemmas.Int.{to_z-of_z}
use Rattle.std.specs.Int.{w128}
use Rattle.lk_arith.specs.Kinds.{is_value}
use Rattle.lk_arith.specs.Operators.{outcome}
use Rattle.lk_arith.proofs.Ranges.{difference_fits}
use Rattle.lk_arith.proofs.arithmetic.outcome.Goals as goal

pub returns-in-Subtract-clause-exact : goal.returns-in-Subtract-clause-exact
unfolding outcome
returns-in-Subtract-clause-exact c =
    let k = c.args.kind in let a = c.args.a in let b = c.args.b in
    let second = rw (c.in-Subtract.is, or-false (is_value k b)) at c.requires.second in
    let exact = rw (to_z-of_z w128 a c.ranges.a, to_z-of_z w128 b c.ranges.b, to_z-of_z w128 (a -ℤ b) (difference_fits k a b c.requires.first second)) at c.result_at-in-Subtract.ensures.exact in
    rw (c.in-Subtract.is, exact)
