use Rattle.std.proofs.Common.{sym, ◌∙◌}
use Rattle.lk_lower_expr.proofs.Named.{name_slot}
use Rattle.lk_lower_expr.proofs.Chosen.{choice_at, compound_at, step_at}
use Rattle.lk_lower_expr.proofs.lowering.Lowering.+slot_of.Goals as goal

pub returns-in-Choice : goal.returns-in-Choice
returns-in-Choice t c = choice_at _ _ _ _ _ c.in-Choice.is

pub returns-in-Compound : goal.returns-in-Compound
returns-in-Compound t c = compound_at _ _ _ _ _ _ c.in-Compound.is

pub returns-in-Step : goal.returns-in-Step
returns-in-Step t c = step_at _ _ _ _ _ _ c.in-Step.is

pub returns-in-Object : goal.returns-in-Object
returns-in-Object t c = c.slot.ensures ∙ sym (name_slot _ _ _ c.in-Object.is)
