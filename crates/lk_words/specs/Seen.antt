-- What a command names, as the words spell it.
use Rattle.std.specs.Prelude.{◌≡◌, true, List, [], Option, Some, codes, map, unwrap_or}
use Rattle.std.specs.Option.{option_map}
use Rattle.clap.specs.Matches.{found_of}
use Rattle.clap.specs.Walk.{all_of, first_of, rows_of}
use Rattle.clap.specs.declared.parser.matches.ArgMatches.{ArgMatches}
use Rattle.lk_words.specs.Words as spelled
use Rattle.lk_words.specs.Words.{Named, Word, externs_option, file_of, is_among, named_of}
use Rattle.lk_words.specs.declared.task.Command.{Command}
use Rattle.lk_words.specs.declared.task.Task.{Task}
use Rattle.lk_words.specs.declared.task.Task.TheVariants as code

abbrev pub seen_task : Task → spelled.Task
seen_task code.Check = spelled.Check
seen_task code.Order = spelled.Order
seen_task (code.Play schedule) = spelled.Play schedule.now

abbrev pub seen : Command → spelled.Command
seen command = record {
  task = seen_task command.task;
  externs = option_map (λ name. name.now) command.externs;
  files = map (λ name. name.now) command.files.items;
}

-- what `clap` has for an option and for the files
abbrev pub first_in : Word → ArgMatches → Option Word
first_in option m = first_of option (rows_of (found_of m))

abbrev pub files_in : ArgMatches → List Word
files_in m = unwrap_or (all_of (codes "file") (rows_of (found_of m))) []

-- what `clap` has for the options and the files is what the words name
pub record Names (options : List Word) (m : ArgMatches) (named : Named) : Type 0 where
  pub each : (option : Word) → is_among options option ≡ true → first_in option m ≡ file_of option named
  pub files : files_in m ≡ named.files

-- the matches are what these words name by these options
abbrev pub IsMatchOf : List Word → List Word → ArgMatches → Type 0
IsMatchOf options words m = (named : Named) × (named_of options words ≡ Some named) × Names options m named

-- a task with what `clap` has for `--externs` and the files
abbrev pub matched : spelled.Task → ArgMatches → spelled.Command
matched task m = record { task = task; externs = first_in externs_option m; files = files_in m }
