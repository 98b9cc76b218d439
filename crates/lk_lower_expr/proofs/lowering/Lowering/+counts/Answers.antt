use Rattle.std.proofs.Common.{◌≡◌, IfOk, sym, subst, ◌∙◌}
use Rattle.lk_lower_expr.proofs.Named.{name_counts}
use Rattle.lk_lower_expr.proofs.Chosen.{choice_counts, compound_counts, step_counts, library_counts}
use Rattle.lk_lower_expr.proofs.lowering.Lowering.+counts.Goals as goal

pub count_of-returns-in-Choice : goal.count_of-returns-in-Choice
count_of-returns-in-Choice t c = c.choice_count.ensures ∙ sym (choice_counts _ _ _ _ _ c.in-Choice.is)

pub count_of-returns-in-Compound : goal.count_of-returns-in-Compound
count_of-returns-in-Compound t c = rw (c.compound_count.ensures, c.get-in-Compound.ensures) (sym (compound_counts _ _ _ _ _ _ c.in-Compound.is))

pub count_of-returns-in-Step : goal.count_of-returns-in-Step
count_of-returns-in-Step t c = rw (c.step_count.ensures, c.get-in-Step.ensures) (sym (step_counts _ _ _ _ _ _ c.in-Step.is))

pub count_of-returns-in-Library : goal.count_of-returns-in-Library
count_of-returns-in-Library t c = subst (λ n. IfOk c.library_count.result (λ count. count ≡ n)) (sym (library_counts _ _ _ c.in-Library.is)) c.library_count.ensures

pub count_of-returns-in-Object : goal.count_of-returns-in-Object
count_of-returns-in-Object t c = c.name_count.ensures ∙ sym (name_counts _ _ _ c.in-Object.is)
