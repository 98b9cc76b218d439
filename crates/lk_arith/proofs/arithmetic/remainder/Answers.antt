use Rattle.std.proofs.Common.{rules, int_div, int_rem, sym, ◌≡◌, ◌∙◌, to_z, of_z, Err}
use Rattle.std.specs.Int.{w128}
use Rattle.std.proofs.lemmas.Int.{to_z-of_z}
use Rattle.lk_arith.proofs.Dividing.{divided, same_fault, has_quotient, remainder_known, remainder_value}
use Rattle.lk_arith.proofs.arithmetic.remainder.Goals as goal

pub returns-in_err-quotient-clause-exact : goal.returns-in_err-quotient-clause-exact
returns-in_err-quotient-clause-exact c =
    let k = c.args.kind in let a = c.args.a in let b = c.args.b in let e = c.in_err-quotient.field-0.0 in
    let same : c.from_residual.result ≡ Err e = search rules in
    let fault = rw (to_z-of_z w128 a c.ranges.a, to_z-of_z w128 b c.ranges.b) at c.in_err-quotient.ensures.exact in
    same ∙ same_fault k a b (int_div a b) (int_rem a b) e (sym fault)

pub exact_remainder-requires-clause-second : goal.exact_remainder-requires-clause-second
exact_remainder-requires-clause-second c =
    let k = c.args.kind in let a = c.args.a in let b = c.args.b in
    let tests = has_quotient k (to_z w128 (of_z w128 a)) (to_z w128 (of_z w128 b)) _ _ (sym c.in_ok-quotient.ensures.exact) in
    tests.0

pub returns-clause-exact : goal.returns-clause-exact
returns-clause-exact c =
    let k = c.args.kind in let a = c.args.a in let b = c.args.b in let r = c.exact_remainder in
    let quotient = rw (to_z-of_z w128 a c.ranges.a, to_z-of_z w128 b c.ranges.b) at c.in_ok-quotient.ensures.exact in
    let tests = has_quotient k a b (int_div a b) c.in_ok-quotient.field-0 (sym quotient) in
    rw (remainder_known a b r.result c.ranges.a c.ranges.b (search rules) r.ensures) (divided k a b (int_rem a b) tests.0 tests.1)

pub returns-clause-value : goal.returns-clause-value
returns-clause-value c =
    let k = c.args.kind in let a = c.args.a in let b = c.args.b in let r = c.exact_remainder in
    rw (remainder_known a b r.result c.ranges.a c.ranges.b (search rules) r.ensures) (remainder_value k a b c.requires.first)
