use Rattle.std.proofs.Common.{◌∙◌, ap, sym}
use Rattle.lk_typed.specs.Meaning.{meaning_of}
use Rattle.lk_typed.specs.Operands.{promoted_type}
use Rattle.lk_elaborate.proofs.statements.switch_type.Goals as goal

pub returns-clause-value : goal.returns-clause-value
returns-clause-value c = λ p same true_of.
    let h = c.in_ok-value.ensures.value p same true_of in
    let table = c.table.ensures.value in
    record {
      typing = h.typing;
      found = h.found;
      is =
          ap (λ t. meaning_of t c.promoted_type.result) (sym table) ∙ (c.promoted_type.ensures.value ∙
          (ap (λ t. promoted_type (meaning_of t c.in_ok-value.value.ty)) table ∙ ap promoted_type h.is.type));
    }
