use Rattle.std.proofs.Common.{refl}
use Rattle.lk_check_expr.proofs.looks.Look.sizeof.Goals as goal

pub returns : goal.returns
returns c = λ env.
    let plain = c.plain-look.ensures env in
    record { called = plain.called; routine = plain.routine; format = plain.format; is_sizeof = refl; is_product = plain.is_product; holds_sizeof = plain.holds_sizeof }
