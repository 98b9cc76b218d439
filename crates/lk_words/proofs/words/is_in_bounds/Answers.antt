use Rattle.std.proofs.Common.{◌≡◌, ◌∙◌, length, ap, refl, true, false}
use Rattle.std.specs.List.{list_all}
use Rattle.std.specs.Option.{option_map}
use Rattle.lk_words.specs.Seen.{seen_task}
use Rattle.lk_words.specs.Words.{is_count, is_name, is_name_or_none}
use Rattle.lk_words.proofs.Bounds.{in_bounds_by}
use Rattle.lk_words.proofs.words.is_in_bounds.Goals as goal

pub returns-then-not-are_names : goal.returns-then-not-are_names
returns-then-not-are_names c =
    let files = c.args.command.now.files.items in
    let counted : true ≡ is_count (length files) = rw c.as_slice-files.ensures.value at c.if-not-is_count.ensures in
    let all : false ≡ list_all (λ name. is_name name.now) files = rw c.as_slice-files.ensures.value at c.if-not-are_names.ensures in
    rw (← counted, ← all) refl ∙ in_bounds_by files (option_map (λ name. name.now) c.args.command.now.externs) (seen_task c.args.command.now.task)

pub returns-then-is_name_or_none : goal.returns-then-is_name_or_none
returns-then-is_name_or_none c =
    let files = c.args.command.now.files.items in
    let externs = option_map (λ name. name.now) c.args.command.now.externs in
    let counted : true ≡ is_count (length files) = rw c.as_slice-files.ensures.value at c.if-not-is_count.ensures in
    let all : true ≡ list_all (λ name. is_name name.now) files = rw c.as_slice-files.ensures.value at c.if-not-are_names.ensures in
    let named : true ≡ is_name_or_none externs = c.if-is_name_or_none.ensures in
    c.is_name_or_none-then-is_name_or_none.ensures
    ∙ (ap is_name_or_none c.beside.ensures ∙ (rw (← counted, ← all, ← named) refl ∙ in_bounds_by files externs (seen_task c.args.command.now.task)))
