use Rattle.std.proofs.Common.{◌∙◌, sym, ap}
use Rattle.std.specs.Prelude.{◌&&◌}
use Rattle.lk_check_expr.specs.Looks.{is_address}
use Rattle.lk_check_expr.proofs.Routines.{routine_left}
use Rattle.lk_check_expr.proofs.looks.Look.behind_prefix.Goals as goal

pub returns : goal.returns
returns c = λ env x is.
    let plain = c.plain-look.ensures env in
    let routine = routine_left env c.args.op x.routine ∙ ap (λ named. is_address c.args.op && named) is.routine ∙ sym c.leaves_routine.ensures in
    record { called = plain.called; routine = routine; format = plain.format; is_sizeof = plain.is_sizeof; is_product = plain.is_product; holds_sizeof = is.holds_sizeof ∙ plain.holds_sizeof }
