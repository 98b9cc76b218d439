use Rattle.std.proofs.Common.{rules, int_div, sym, subst, ℤ, ◌≡◌, ◌∙◌, true, false}
use Rattle.lk_arith.specs.Kinds.{is_value}
use Rattle.lk_arith.proofs.Dividing.{is_nonzero, divided, overflown, quotient_known}
use Rattle.lk_arith.proofs.arithmetic.quotient.Goals as goal

pub returns-then-is_value-clause-exact : goal.returns-then-is_value-clause-exact
returns-then-is_value-clause-exact c =
    let k = c.args.kind in let a = c.args.a in let b = c.args.b in let q = c.exact_quotient-quotient in
    let known = quotient_known a b q.result c.ranges.a c.ranges.b (search rules) q.ensures in
    let value = subst (λ (z : ℤ). is_value k z ≡ true) known (sym c.is_value.ensures ∙ c.if-is_value.true) in
    rw known (divided k a b (int_div a b) (is_nonzero b c.if-b-eq0.false) value)

pub returns-else-is_value-clause-exact : goal.returns-else-is_value-clause-exact
returns-else-is_value-clause-exact c =
    let k = c.args.kind in let a = c.args.a in let b = c.args.b in let q = c.exact_quotient-quotient in
    let known = quotient_known a b q.result c.ranges.a c.ranges.b (search rules) q.ensures in
    let value = subst (λ (z : ℤ). is_value k z ≡ false) known (sym c.is_value.ensures ∙ c.if-is_value.false) in
    overflown k a b (int_div a b) (is_nonzero b c.if-b-eq0.false) value
