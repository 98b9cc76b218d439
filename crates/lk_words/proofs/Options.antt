-- What `clap` makes of options and files.
use Rattle.std.proofs.Common.{◌≡◌, ◌∙◌, ◌++◌, ◌&&◌, not, is_some, ap, sym, subst, Bool, true, false, List, [], ◌∷◌, Some, None, map, refl, codes, if◌then◌else◌, ℕ}
use Rattle.std.specs.Prelude.{count_by, fold}
use Rattle.std.specs.List.{list_all, list_any}
use Rattle.std.specs.Str.{bytes_eq}
use Rattle.std.proofs.lemmas.Slice.Eq.{bytes_eq-Decides}
use Rattle.std.proofs.lemmas.List.{append-nil, append_assoc}
use Rattle.clap.specs.Faults.{check_fault, default_fault, defaults_fault, is_simple_and_free}
use Rattle.clap.specs.Simple.{App, Shape as Command, built, filled, filled_from, is_in_order, is_simple, with_index, with_rule}
use Rattle.clap.specs.Takes.{is_given}
use Rattle.clap.specs.Walk.{Row, Rule, Text, arg_by_id, arg_by_index, arg_by_long, arg_by_short, has_row, is_early_multiple, reading_by, with_default}
use Rattle.clap.specs.declared.builder.value_parser.Reading.{Reading}
use Rattle.lk_words.specs.Reading.{AreOptions, app_with, bare_app, file_rule, option_rule, with_options}
use Rattle.lk_words.specs.Words.{Word, is_among}

abbrev pub file_id : Text
file_id = codes "file"

-- an option and the files, as they are built
abbrev pub as_option : Word → Rule
as_option name = with_index 1 (filled (option_rule name))

abbrev pub as_files : Rule
as_files = with_index 1 (filled file_rule)

abbrev pub rules_of : List Word → List Rule
rules_of options = map as_option options ++ as_files ∷ []

-- how their values are read
abbrev pub how : Reading
how = reading_by as_files

-- a command whose rules are these before it is built
abbrev pub app_of_rules : List Rule → App
app_of_rules rules = record { top = record bare_app.top { rules = rules }; subs = [] }

abbrev pub app_for : List Word → App
app_for options = app_of_rules (map option_rule options ++ file_rule ∷ [])

abbrev pub whole_of : List Word → Command
whole_of options = (built (app_for options)).top

-- what the walk reads of such a command
pub record Reads (options : List Word) (whole : Command) : Type 0 where
  pub by_long : (name : Text) → arg_by_long whole.rules name ≡ (if is_among options name then Some (as_option name) else None)
  pub by_id : (name : Text) → is_among options name ≡ true → arg_by_id whole.rules name ≡ Some (as_option name)
  pub by_file : arg_by_id whole.rules file_id ≡ Some as_files
  pub by_index : arg_by_index whole.rules 1 ≡ Some as_files
  pub by_short : (c : ℕ) → arg_by_short whole.rules c ≡ None
  pub apart : (name : Text) → is_among options name ≡ true → bytes_eq name file_id ≡ false
  pub single : whole.args_override_self ≡ false
  pub no_default : (rows : List Row) → fold with_default rows whole.rules ≡ rows
  pub defaults_pass : (rows : List Row) → defaults_fault rows whole.rules ≡ []
  pub check_passes : (rows : List Row) (entered : Bool) → check_fault whole rows entered ≡ []

-- ---- the command as it is built

with_options_is : (rules : List Rule) (options : List Word) → with_options (app_of_rules rules) options ≡ app_of_rules (rules ++ map option_rule options)
with_options_is rules [] = ap app_of_rules (sym (append-nil rules))
with_options_is rules (name ∷ options) =
    with_options_is (rules ++ option_rule name ∷ []) options ∙ ap app_of_rules (append_assoc rules (option_rule name ∷ []) (map option_rule options))

pub app_is : (options : List Word) → app_with options ≡ app_for options
app_is options = ap (λ a. with_rule a file_rule) (with_options_is [] options)

filled_is : (options : List Word) → filled_from 1 (map option_rule options ++ file_rule ∷ []) ≡ rules_of options
filled_is [] = refl
filled_is (name ∷ options) = ap (λ rules. as_option name ∷ rules) (filled_is options)

-- a command that is built, with these rules
abbrev pub built_of : List Rule → Command
built_of rules = record (built (app_of_rules [])).top { rules = rules }

whole_is : (options : List Word) → whole_of options ≡ built_of (rules_of options)
whole_is options = ap built_of (filled_is options)

-- ---- which rule is found

same_name : (a b : Word) → bytes_eq a b ≡ true → a ≡ b
same_name a b = (bytes_eq-Decides a b).0

found_long : (options : List Word) (name : Text) → arg_by_long (rules_of options) name ≡ (if is_among options name then Some (as_option name) else None)
found_long [] name = refl
found_long (first ∷ options) name = by (bytes_eq first name) refl (found_long options name)
  where
    by : (t : Bool) → bytes_eq first name ≡ t → arg_by_long (rules_of options) name ≡ (if is_among options name then Some (as_option name) else None)
        → arg_by_long (rules_of (first ∷ options)) name ≡ (if is_among (first ∷ options) name then Some (as_option name) else None)
    by true t later = rw t (ap (λ n. Some (as_option n)) (same_name first name t))
    by false t later = rw t later

found_id : (options : List Word) (name : Text) → is_among options name ≡ true → arg_by_id (rules_of options) name ≡ Some (as_option name)
found_id [] name among = cc
found_id (first ∷ options) name among = by (bytes_eq first name) refl (found_id options name)
  where
    by : (t : Bool) → bytes_eq first name ≡ t → (is_among options name ≡ true → arg_by_id (rules_of options) name ≡ Some (as_option name))
        → arg_by_id (rules_of (first ∷ options)) name ≡ Some (as_option name)
    by true t later = rw t (ap (λ n. Some (as_option n)) (same_name first name t))
    by false t later = rw t (later (rw t at among))

found_file : (options : List Word) → AreOptions options → arg_by_id (rules_of options) file_id ≡ Some as_files
found_file [] are = refl
found_file (first ∷ options) are = by (bytes_eq first file_id) refl (found_file options)
  where
    by : (t : Bool) → bytes_eq first file_id ≡ t → (AreOptions options → arg_by_id (rules_of options) file_id ≡ Some as_files) → arg_by_id (rules_of (first ∷ options)) file_id ≡ Some as_files
    by true t later = let bad : true ≡ false = rw t at are in cc
    by false t later = rw t (later (rw t at are))

found_index : (options : List Word) → arg_by_index (rules_of options) 1 ≡ Some as_files
found_index [] = refl
found_index (first ∷ options) = found_index options

found_short : (options : List Word) (c : ℕ) → arg_by_short (rules_of options) c ≡ None
found_short [] c = refl
found_short (first ∷ options) c = found_short options c

-- no option has the name of the files
pub apart_all : (options : List Word) (name : Text) → AreOptions options → is_among options name ≡ true → bytes_eq name file_id ≡ false
apart_all options name are among = by (bytes_eq name file_id) refl
  where
    by : (t : Bool) → bytes_eq name file_id ≡ t → bytes_eq name file_id ≡ false
    by true t = let bad : true ≡ false = sym among ∙ (ap (is_among options) (same_name name file_id t) ∙ are) in cc
    by false t = t

-- ---- nothing has a default value, and nothing is required

no_default_of : (name : Word) (rows : List Row) → with_default rows (as_option name) ≡ rows
no_default_of name rows = by (has_row name rows) refl
  where
    by : (t : Bool) → has_row name rows ≡ t → with_default rows (as_option name) ≡ rows
    by true t = rw t refl
    by false t = rw t refl

no_file_default : (rows : List Row) → with_default rows as_files ≡ rows
no_file_default rows = by (has_row file_id rows) refl
  where
    by : (t : Bool) → has_row file_id rows ≡ t → with_default rows as_files ≡ rows
    by true t = rw t refl
    by false t = rw t refl

no_defaults : (options : List Word) (rows : List Row) → fold with_default rows (rules_of options) ≡ rows
no_defaults [] rows = no_file_default rows
no_defaults (name ∷ options) rows = ap (λ more. fold with_default more (rules_of options)) (no_default_of name rows) ∙ no_defaults options rows

default_passes : (name : Word) (rows : List Row) → default_fault rows (as_option name) ≡ []
default_passes name rows = by (has_row name rows) refl
  where
    by : (t : Bool) → has_row name rows ≡ t → default_fault rows (as_option name) ≡ []
    by true t = rw t refl
    by false t = rw t refl

file_default_passes : (rows : List Row) → default_fault rows as_files ≡ []
file_default_passes rows = by (has_row file_id rows) refl
  where
    by : (t : Bool) → has_row file_id rows ≡ t → default_fault rows as_files ≡ []
    by true t = rw t refl
    by false t = rw t refl

all_defaults_pass : (options : List Word) (rows : List Row) → defaults_fault rows (rules_of options) ≡ []
unfolding defaults_fault
all_defaults_pass [] rows = rw (file_default_passes rows) refl
all_defaults_pass (name ∷ options) rows =
    rw (default_passes name rows) (ap (λ more. defaults_fault more (rules_of options)) (no_default_of name rows) ∙ all_defaults_pass options rows)

none_required : (options : List Word) (rows : List Row) → list_any (λ (a : Rule). a.required && not (is_given a.id rows)) (rules_of options) ≡ false
none_required [] rows = refl
none_required (name ∷ options) rows = none_required options rows

check_passes_all : (options : List Word) (rows : List Row) (entered : Bool) → check_fault (built_of (rules_of options)) rows entered ≡ []
check_passes_all options rows true = rw (none_required options rows) refl
check_passes_all options rows false = rw (none_required options rows) refl

pub reads : (options : List Word) → AreOptions options → Reads options (whole_of options)
reads options are = subst (Reads options) (sym (whole_is options)) (record {
  by_long = found_long options;
  by_id = found_id options;
  by_file = found_file options are;
  by_index = found_index options;
  by_short = found_short options;
  apart = λ name. apart_all options name are;
  single = refl;
  no_default = no_defaults options;
  defaults_pass = all_defaults_pass options;
  check_passes = check_passes_all options;
})

-- ---- what `clap` says of it holds whole: it is simple

are_simple : (options : List Word) → list_all (λ (a : Rule). a.is_simple) (map option_rule options ++ file_rule ∷ []) ≡ true
are_simple [] = refl
are_simple (name ∷ options) = are_simple options

built_are_simple : (options : List Word) → list_all (λ (a : Rule). a.is_simple) (rules_of options) ≡ true
built_are_simple [] = refl
built_are_simple (name ∷ options) = built_are_simple options

are_free : (options : List Word) → list_all (λ (a : Rule). a.is_free) (rules_of options) ≡ true
are_free [] = refl
are_free (name ∷ options) = are_free options

one_index : (options : List Word) → count_by (λ (a : Rule). is_some a.index) (rules_of options) ≡ 1
one_index [] = refl
one_index (name ∷ options) = one_index options

none_early : (options : List Word) → list_any (is_early_multiple 1) (rules_of options) ≡ false
none_early [] = refl
none_early (name ∷ options) = none_early options

in_order : (options : List Word) → is_in_order (rules_of options) ≡ true
in_order options = rw (one_index options, none_early options) refl

pub truly_simple : (options : List Word) → is_simple (app_for options) ≡ true
truly_simple options = rw (are_simple options, filled_is options, built_are_simple options, in_order options) refl

pub simple : (options : List Word) → is_simple_and_free (app_for options) ≡ true
simple options = rw (truly_simple options, filled_is options, are_free options) refl
