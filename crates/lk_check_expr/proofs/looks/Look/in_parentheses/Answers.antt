use Rattle.std.proofs.Common.{◌∙◌}
use Rattle.lk_check_expr.proofs.looks.Look.in_parentheses.Goals as goal

pub returns : goal.returns
returns c = λ env x is.
    let plain = c.plain-look.ensures env in
    record { called = is.called; routine = is.routine; format = plain.format; is_sizeof = plain.is_sizeof; is_product = plain.is_product; holds_sizeof = is.holds_sizeof ∙ plain.holds_sizeof }
