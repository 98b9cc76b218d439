use Rattle.std.proofs.Common.{◌≡◌, ◌∙◌, ap, subst}
use Rattle.lk_typed.specs.Meaning.{meaning_of}
use Rattle.lk_typed.specs.Operands.{step_type}
use Rattle.lk_elab_expr.proofs.sides.stepped_at.Goals as goal

pub returns-clause-means : goal.returns-clause-means
returns-clause-means c = λ p same true_of.
    let has = c.in_ok-typing.ensures.typing p same true_of in
    let by = subst (λ table. meaning_of table c.step_type-ty.result ≡ step_type (meaning_of table c.in_ok-typing.typing.ty)) c.table.ensures.value c.step_type-ty.ensures.value in
    record { typing = has.typing; found = has.found; known = c.in_ok-t.ensures.known; means = c.in_ok-t.ensures.means ∙ by ∙ ap step_type has.is.type }
