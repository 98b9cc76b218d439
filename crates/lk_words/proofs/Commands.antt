-- The commands, by what `clap` has for their words.
use Rattle.std.proofs.Common.{◌≡◌, ◌∙◌, ap, sym, true, false, List, [], ◌∷◌, Option, Some, None, refl}
use Rattle.std.specs.Prelude.{option_and_then}
use Rattle.clap.specs.declared.parser.matches.ArgMatches.{ArgMatches}
use Rattle.lk_words.specs.Seen.{IsMatchOf, first_in, matched}
use Rattle.lk_words.specs.Words.{Command, Task, Word, externs_option, file_of, in_bounds, is_among, is_in_bounds, plain, with_option, with_task}

pub same_command : (a b : Command) → a.task ≡ b.task → a.externs ≡ b.externs → a.files ≡ b.files → a ≡ b
same_command a b t e f = rw (t, e, f) refl

pub in_bounds_yes : (c : Command) → is_in_bounds c ≡ true → in_bounds c ≡ Some c
in_bounds_yes c is = rw is refl

pub in_bounds_no : (c : Command) → is_in_bounds c ≡ false → in_bounds c ≡ None
in_bounds_no c is = rw is refl

-- what is named is what `clap` has
as_matched : (options words : List Word) (task : Task) (m : ArgMatches) (is : IsMatchOf options words m) → is_among options externs_option ≡ true → with_task task is.0 ≡ in_bounds (matched task m)
as_matched options words task m (named, are, names) among =
    ap in_bounds (same_command (record { task = task; externs = file_of externs_option named; files = named.files }) (matched task m) refl
    (sym (names.each externs_option among)) (sym names.files))

pub plain_as : (task : Task) (words : List Word) (m : ArgMatches) → IsMatchOf (externs_option ∷ []) words m → plain task words ≡ in_bounds (matched task m)
plain_as task words m (named, are, names) = ap (option_and_then (with_task task)) are ∙ as_matched (externs_option ∷ []) words task m (named, are, names) refl

module _ (option : Word) (task : Word → Task) (words : List Word) (m : ArgMatches) (is : IsMatchOf (option ∷ externs_option ∷ []) words m)
    (own : is_among (option ∷ externs_option ∷ []) option ≡ true) (among : is_among (option ∷ externs_option ∷ []) externs_option ≡ true) where
  abbrev by_file : Option Word → Option Command
  by_file = option_and_then (λ file. with_task (task file) is.0)

  pub with_option_as : (file : Word) → first_in option m ≡ Some file → with_option option task words ≡ in_bounds (matched (task file) m)
  with_option_as file found =
      ap (option_and_then (λ named. option_and_then (λ file. with_task (task file) named) (file_of option named))) is.1
      ∙ (ap by_file (sym (is.2.each option own) ∙ found) ∙ as_matched (option ∷ externs_option ∷ []) words (task file) m is among)

  pub with_option_none : first_in option m ≡ None → with_option option task words ≡ None
  with_option_none none =
      ap (option_and_then (λ named. option_and_then (λ file. with_task (task file) named) (file_of option named))) is.1
      ∙ ap by_file (sym (is.2.each option own) ∙ none)
