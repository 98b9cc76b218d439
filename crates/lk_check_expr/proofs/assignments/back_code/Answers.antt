use Rattle.std.proofs.Common.{subst}
use Rattle.lk_typed.specs.Meaning.{meaning_of}
use Rattle.lk_typed.specs.Typings.{IsResult}
use Rattle.lk_check_expr.proofs.Rows.{back_some, back_none}
use Rattle.lk_check_expr.proofs.assignments.back_code.Goals as goal

pub returns-in-Some : goal.returns-in-Some
returns-in-Some c = λ x h.
    let table = c.args.types.now in
    back_some table (meaning_of table c.args.target.now) _ x (subst (λ row. IsResult table row x) c.in-Some.is h) c.convert_code.ensures

pub returns-in-None : goal.returns-in-None
returns-in-None c = λ x h.
    let table = c.args.types.now in
    back_none table (meaning_of table c.args.target.now) x (subst (λ row. IsResult table row x) c.in-None.is h)
