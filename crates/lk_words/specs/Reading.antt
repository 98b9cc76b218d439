-- The commands of `clap` that read the words behind the name of a command.
use Rattle.std.specs.Prelude.{◌≡◌, true, false, List, Some, codes, fold}
use Rattle.clap.specs.Simple.{App, new_app, new_rule, on_top, with_rule}
use Rattle.clap.specs.Walk.{Rule}
use Rattle.clap.specs.declared.builder.action.ArgAction.TheVariants.{Set, Append}
use Rattle.lk_words.specs.Words.{Word, is_among}

abbrev pub option_rule : Word → Rule
option_rule name = record (new_rule name) { long = Some name; action = Some Set }

abbrev pub file_rule : Rule
file_rule = record (new_rule (codes "file")) { action = Some Append }

-- neither a name of the program before the words nor `--help`
abbrev pub bare_app : App
bare_app =
    on_top (λ s. record s { no_binary_name = true; disable_help_flag = true }) (new_app (codes "lsrace"))

abbrev pub with_options : App → List Word → App
with_options app options = fold (λ a name. with_rule a (option_rule name)) app options

-- the options of these names, each with a file, and files
abbrev pub app_with : List Word → App
app_with options = with_rule (with_options bare_app options) file_rule

-- no option is called as the files are
abbrev pub AreOptions : List Word → Type 0
AreOptions options = is_among options (codes "file") ≡ false
