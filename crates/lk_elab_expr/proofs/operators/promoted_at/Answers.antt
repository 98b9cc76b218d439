use Rattle.std.proofs.Common.{◌≡◌, ◌∙◌, ap, subst}
use Rattle.lk_typed.specs.Meaning.{meaning_of}
use Rattle.lk_typed.specs.Operands.{promoted_type}
use Rattle.lk_elab_expr.proofs.operators.promoted_at.Goals as goal

pub returns-clause-promoted : goal.returns-clause-promoted
returns-clause-promoted c = λ p same true_of.
    let has = c.in_ok-v.ensures.value p same true_of in
    let by = subst (λ table. meaning_of table c.promoted_type.result ≡ promoted_type (meaning_of table c.in_ok-v.v.ty)) c.table.ensures.value c.promoted_type.ensures.value in
    record { typing = has.typing; found = has.found; means = by ∙ ap promoted_type has.is.type }
