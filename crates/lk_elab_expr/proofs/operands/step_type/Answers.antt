use Rattle.std.proofs.Common.{◌∙◌, ap}
use Rattle.lk_typed.specs.Meaning.{meaning_of}
use Rattle.lk_typed.specs.Ty.{Int}
use Rattle.lk_elab_expr.proofs.Promoting.{stepped_by, stepped_is}
use Rattle.lk_elab_expr.proofs.operands.step_type.Goals as goal

pub returns-in-Some-clause-value : goal.returns-in-Some-clause-value
returns-in-Some-clause-value c =
    let table = c.args.types.now in
    let m = meaning_of table c.args.ty.now in
    c.integer.ensures.means table c.requires.ready ∙ ap Int c.usual.ensures ∙ ap (λ o. stepped_by o m) c.in-Some.ensures ∙ stepped_is m

pub returns-in-None-clause-value : goal.returns-in-None-clause-value
returns-in-None-clause-value c =
    let m = meaning_of c.args.types.now c.args.ty.now in
    ap (λ o. stepped_by o m) c.in-None.ensures ∙ stepped_is m
