use Rattle.std.proofs.Common.{◌∙◌, refl, sym}
use Rattle.lk_typed.specs.Env.{as_function}
use Rattle.lk_elab_expr.proofs.calls.is_extern_name.Goals as goal

pub returns : goal.returns
returns c = λ p is. c.is_extern.ensures c.args.walk.now.types (as_function p.0)
    (record { role = refl; defined = is.defined c.args.name.now ∙ sym c.contains.ensures; listed = is.externs c.args.name.now ∙ sym c.contains-2.ensures })
