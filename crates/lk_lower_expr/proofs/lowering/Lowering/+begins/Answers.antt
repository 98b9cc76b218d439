use Rattle.std.proofs.Common.{sym, ap, ◌∙◌}
use Rattle.lk_lower_expr.proofs.Named.{name_first}
use Rattle.lk_lower_expr.proofs.Begun.{as_other, choice_first, compound_first, step_first, paren_first, library_first}
use Rattle.lk_lower_expr.specs.Counts.{place_first}
use Rattle.lk_lower_expr.specs.Reads.{names_by, part_by}
use Rattle.lk_lower_expr.proofs.lowering.Lowering.+begins.Goals as goal

pub first_of-returns-in-Choice : goal.first_of-returns-in-Choice
first_of-returns-in-Choice t c =
    as_other _ _ _ (ap (λ e. (part_by c.args.self.now e).first) c.get-in-Choice.ensures ∙ sym (choice_first _ _ _ _ _ c.in-Choice.is)) c.first_of-in-Choice.ensures

pub first_of-returns-in-Paren : goal.first_of-returns-in-Paren
first_of-returns-in-Paren t c =
    as_other _ _ _ (ap (λ e. place_first (names_by c.args.self.now) (part_by c.args.self.now e) c.args.e.now.ordinal) c.get-in-Paren.ensures ∙ sym (paren_first _ _ _ c.in-Paren.is)) c.place_first.ensures

pub first_of-returns-in-Compound : goal.first_of-returns-in-Compound
first_of-returns-in-Compound t c =
    as_other _ _ _ (ap (λ e. place_first (names_by c.args.self.now) (part_by c.args.self.now e) c.args.e.now.ordinal) c.get-in-Compound.ensures ∙ sym (compound_first _ _ _ _ _ _ c.in-Compound.is)) c.place_first-in-Compound.ensures

pub first_of-returns-in-Step : goal.first_of-returns-in-Step
first_of-returns-in-Step t c =
    as_other _ _ _ (ap (λ e. place_first (names_by c.args.self.now) (part_by c.args.self.now e) c.args.e.now.ordinal) c.get-in-Step.ensures ∙ sym (step_first _ _ _ _ _ _ c.in-Step.is)) c.place_first-in-Step.ensures

pub first_of-returns-in-Library : goal.first_of-returns-in-Library
first_of-returns-in-Library t c = as_other _ _ _ (sym (library_first _ _ _ c.in-Library.is)) c.library_first.ensures

pub first_of-returns-in-Object : goal.first_of-returns-in-Object
first_of-returns-in-Object t c = c.at.ensures ∙ sym (name_first _ _ _ c.in-Object.is)
