use Rattle.std.proofs.Common.{◌≡◌, ◌∙◌, codes, refl, sym, subst, Some, None}
use Rattle.clap.proofs.WalkLemmas.{first_value-rows}
use Rattle.clap.specs.Matches.{found_of}
use Rattle.lk_words.specs.Seen.{matched, seen, seen_task}
use Rattle.lk_words.specs.Words.{in_bounds}
use Rattle.lk_words.proofs.Commands.{in_bounds_no, in_bounds_yes, same_command}
use Rattle.lk_words.proofs.words.with_task.Goals as goal

pub returns-then-not-is_in_bounds-clause-usage : goal.returns-then-not-is_in_bounds-clause-usage
returns-then-not-is_in_bounds-clause-usage c = λ usage.
    let command = seen (record { task = c.args.task; externs = c.get_str.result; files = c.in_ok-files_of.field-0 }) in
    let externs = c.get_str.ensures ∙ first_value-rows (found_of c.args.matches.now) (codes "externs") in
    let same : command ≡ matched (seen_task c.args.task) c.args.matches.now = same_command _ _ refl externs c.in_ok-files_of.ensures in
    subst (λ found. in_bounds found ≡ None) same (in_bounds_no command (sym c.if-not-is_in_bounds.ensures))

pub returns-clause-ok : goal.returns-clause-ok
returns-clause-ok c =
    let command = seen (record { task = c.args.task; externs = c.get_str.result; files = c.in_ok-files_of.field-0 }) in
    let externs = c.get_str.ensures ∙ first_value-rows (found_of c.args.matches.now) (codes "externs") in
    let same : command ≡ matched (seen_task c.args.task) c.args.matches.now = same_command _ _ refl externs c.in_ok-files_of.ensures in
    subst (λ found. in_bounds found ≡ Some command) same (in_bounds_yes command (sym c.if-not-is_in_bounds.ensures))
