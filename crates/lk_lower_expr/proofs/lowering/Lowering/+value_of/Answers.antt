use Rattle.std.proofs.Common.{sym, ap, ◌∙◌}
use Rattle.lk_lower_expr.proofs.Named.{name_value}
use Rattle.lk_lower_expr.proofs.Given.{choice_value, compound_value, read_value, written_value}
use Rattle.lk_lower_expr.proofs.lowering.Lowering.+value_of.Goals as goal
use Rattle.lk_typed.specs.declared.expression.TypedForm.TheVariants as form

pub returns-in-Choice : goal.returns-in-Choice
returns-in-Choice t c = rw (c.at-in-Choice.ensures, c.choice_step.ensures.value) (sym (choice_value _ _ _ _ _ c.in-Choice.is))

pub returns-in-Compound : goal.returns-in-Compound
returns-in-Compound t c = rw (c.at-in-Compound.ensures, c.compound_step.ensures.value, c.get-in-Compound.ensures) (sym (compound_value _ _ _ _ _ _ c.in-Compound.is))

pub returns-in-After : goal.returns-in-After
returns-in-After t c = rw c.at-in-After.ensures (sym (read_value _ _ _ _ _ (c.in-Step.is ∙ ap (λ change. form.Step c.in-Step.field-0 change c.in-Step.place c.in-Step.ty) c.in-After.is)))

pub returns-in-Before : goal.returns-in-Before
returns-in-Before t c =
    rw (c.at-in-Before.ensures, c.written_step.ensures.value, c.get-in-Before.ensures)
    (sym (written_value _ _ _ _ _ (c.in-Step.is ∙ ap (λ change. form.Step c.in-Step.field-0 change c.in-Step.place c.in-Step.ty) c.in-Before.is)))

pub returns-in-Object : goal.returns-in-Object
returns-in-Object t c = c.at-in-Object.ensures ∙ sym (name_value _ _ _ c.in-Object.is)
