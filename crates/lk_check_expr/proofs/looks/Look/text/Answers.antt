use Rattle.std.proofs.Common.{sym}
use Rattle.lk_check_expr.proofs.looks.Look.text.Goals as goal

pub returns : goal.returns
returns c = λ env.
    let plain = c.plain-look.ensures env in
    record { called = plain.called; routine = plain.routine; format = sym c.is_format.ensures; is_sizeof = plain.is_sizeof; is_product = plain.is_product; holds_sizeof = plain.holds_sizeof }
