use Rattle.std.proofs.Common.{rules, sym, ◌∙◌}
use Rattle.std.specs.Int.{w128}
use Rattle.std.proofs.lemmas.Int.{to_z-of_z}
use Rattle.lk_arith.proofs.Multiplying.{converted_product}
use Rattle.lk_arith.proofs.arithmetic.product.Goals as goal

pub returns-clause-exact : goal.returns-clause-exact
returns-clause-exact c =
    let k = c.args.kind in let a = c.args.a in let b = c.args.b in let p = c.convert_product in
    rw (to_z-of_z w128 p.result (search rules), p.ensures.exact, c.unsigned_abs.ensures.value, c.unsigned_abs-2.ensures.value, to_z-of_z w128 a c.ranges.a, to_z-of_z w128 b c.ranges.b)
    (converted_product k a b (sym c.is_signed.ensures ∙ c.if-is_signed.false) c.requires.first c.requires.second)
