use Rattle.std.proofs.Common.{◌∙◌, sym, arith}
use Rattle.std.proofs.lemmas.Option.{slice_get_read}
use Rattle.lk_typed.specs.Meaning.{meaning}
use Rattle.lk_check_expr.proofs.Routines.{one_parameter}
use Rattle.lk_check_expr.proofs.looks.are_one_pointer.Goals as goal

pub returns-then-params-eq1 : goal.returns-then-params-eq1
returns-then-params-eq1 c =
    let params = c.args.params.now in
    let only = c.index-params-0.result in
    c.is_anything_pointer.ensures ∙ sym (one_parameter (meaning c.args.types.now) params only c.if-params-eq1.true (slice_get_read params 1 0 only (sym c.if-params-eq1.true) (omega arith) c.index-params-0.is))
