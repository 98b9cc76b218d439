use Rattle.std.proofs.Common.{sym}
use Rattle.lk_check_expr.proofs.looks.Look.declared.Goals as goal

pub returns : goal.returns
returns c = λ env used.
    let plain = c.plain-look.ensures env in
    record { called = c.called_by-look.ensures c.args.types.now; routine = sym (c.is_routine.ensures env used); format = plain.format; is_sizeof = plain.is_sizeof; is_product = plain.is_product; holds_sizeof = plain.holds_sizeof }
