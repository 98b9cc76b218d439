-- The command that the words of a command line spell, by the table of commands at the end (POSIX, Utility
-- Conventions: `--` ends the options).
use Rattle.std.specs.Prelude.{ℕ, Bool, true, ◌&&◌, not, List, [], ◌∷◌, ◌++◌, Option, Some, None, find, nat_le, ◌==◌, is_some, length, codes, option_map, option_and_then, if◌then◌else◌}
use Rattle.std.specs.List.{after_first, before_first, list_all, list_any}
use Rattle.std.specs.Option.{option_map_or}
use Rattle.std.specs.Str.{bytes_eq}

abbrev pub Word : Type 0
Word = List ℕ

-- ---- options and files

-- an option that is given, and the file that it names
pub record Given : Type 0 where
  pub option : Word
  pub file : Word

-- what words name: files by options, and files without
pub record Named : Type 0 where
  pub given : List Given
  pub files : List Word

abbrev pub nothing_named : Named
nothing_named = record { given = []; files = [] }

abbrev pub with_file : Named → Word → Named
with_file named file = record named { files = named.files ++ file ∷ [] }

abbrev pub with_given : Named → Word → Word → Named
with_given named option file = record named { given = record { option = option; file = file } ∷ named.given }

-- the file that an option names, where it is given
abbrev pub file_of : Word → Named → Option Word
file_of option named = option_map (λ g. g.file) (find (λ g. bytes_eq g.option option) named.given)

-- what a word is before `--`
pub data Shape : Type 0 where
  -- `--`
  End : Shape
  -- `--NAME`
  Asks : (option : Word) → Shape
  -- `--NAME=FILE`
  Gives : (option file : Word) → Shape
  -- another word of more than one byte that begins with `-`
  Other : Shape
  -- a FILE
  File : Shape

abbrev pub is_equals : ℕ → Bool
is_equals b = b == 61

-- a word by what stands behind `--`: its NAME goes to the first `=`
abbrev pub shape_of_long : Word → Shape
shape_of_long [] = End
shape_of_long (b ∷ text) =
    let name = before_first is_equals (b ∷ text) in
    if list_any is_equals (b ∷ text) then Gives name (after_first is_equals (b ∷ text)) else Asks name

-- a word by what stands behind `-`
abbrev pub shape_of_dashed : Word → Shape
shape_of_dashed [] = File
shape_of_dashed (b ∷ text) = if b == 45 then shape_of_long text else Other

abbrev pub shape_of : Word → Shape
shape_of [] = File
shape_of (b ∷ text) = if b == 45 then shape_of_dashed text else File

-- what is wanted next: a word of any shape, the file that an option names, or, behind `--`, a FILE
pub data Wanted : Type 0 where
  Any : Wanted
  FileOf : (option : Word) → Wanted
  Source : Wanted

pub record Stand : Type 0 where
  pub named : Named
  pub wanted : Wanted

abbrev pub stands : Named → Wanted → Stand
stands named wanted = record { named = named; wanted = wanted }

abbrev pub is_among : List Word → Word → Bool
is_among options option = list_any (λ name. bytes_eq name option) options

-- one of these options, which comes once at most
abbrev pub may_come : List Word → Named → Word → Bool
may_come options named option = is_among options option && not (is_some (file_of option named))

abbrev pub once : List Word → Named → Word → Stand → Option Stand
once options named option next = if may_come options named option then Some next else None

-- where a word of this shape leads, if it may stand there
abbrev pub any_word : List Word → Named → Word → Shape → Option Stand
any_word options named word End = Some (stands named Source)
any_word options named word (Asks option) = once options named option (stands named (FileOf option))
any_word options named word (Gives option file) =
    once options named option (stands (with_given named option file) Any)
any_word options named word Other = None
any_word options named word File = Some (stands (with_file named word) Any)

-- the file that an option names doesn't look like an option
abbrev pub name_word : Named → Word → Word → Shape → Option Stand
name_word named option word File = Some (stands (with_given named option word) Any)
name_word named option word End = None
name_word named option word (Asks other) = None
name_word named option word (Gives other file) = None
name_word named option word Other = None

abbrev pub word_at : List Word → Named → Wanted → Word → Option Stand
word_at options named Any word = any_word options named word (shape_of word)
word_at options named (FileOf option) word = name_word named option word (shape_of word)
word_at options named Source word = Some (stands (with_file named word) Source)

abbrev pub at_end : Named → Wanted → Option Named
at_end named Any = Some named
at_end named (FileOf option) = None
at_end named Source = Some named

-- what the words name, where each may stand where it does
unfoldable pub named_by : List Word → Stand → List Word → Option Named
named_by options stand [] = at_end stand.named stand.wanted
named_by options stand (word ∷ words) =
    option_and_then (λ next. named_by options next words) (word_at options stand.named stand.wanted word)

-- the same of all words, where these are the options
abbrev pub named_of : List Word → List Word → Option Named
named_of options words = named_by options (stands nothing_named Any) words

-- ---- commands

-- what is done with sources
pub data Task : Type 0 where
  -- they are checked for races
  Check : Task
  -- the order of their mutexes is told
  Order : Task
  -- a run of them is played, by the schedule in this file
  Play : (schedule : Word) → Task

-- a task, the file of names that no source defines, where one is named, and the sources in their order
pub record Command : Type 0 where
  pub task : Task
  pub externs : Option Word
  pub files : List Word

-- the file that a task reads beside them
abbrev pub beside : Task → Option Word
beside Check = None
beside Order = None
beside (Play schedule) = Some schedule

-- a name has 1 to 255 bytes
abbrev pub is_name : Word → Bool
is_name word = nat_le 1 (length word) && nat_le (length word) 255

abbrev pub is_name_or_none : Option Word → Bool
is_name_or_none word = option_map_or is_name word true

-- there are 1 to 64 sources
abbrev pub is_count : ℕ → Bool
is_count count = nat_le 1 count && nat_le count 64

-- and every name is one
abbrev pub is_in_bounds : Command → Bool
is_in_bounds command =
    is_count (length command.files)
    && (list_all is_name command.files
    && (is_name_or_none command.externs && is_name_or_none (beside command.task)))

abbrev pub in_bounds : Command → Option Command
in_bounds command = if is_in_bounds command then Some command else None

abbrev pub externs_option : Word
externs_option = codes "externs"

-- a task with what words name
abbrev pub with_task : Task → Named → Option Command
with_task task named =
    in_bounds (record { task = task; externs = file_of externs_option named; files = named.files })

-- a task that has the option `--externs` alone
abbrev pub plain : Task → List Word → Option Command
plain task words = option_and_then (with_task task) (named_of (externs_option ∷ []) words)

-- a task with an option of its own too, which must be there
abbrev pub with_option : Word → (Word → Task) → List Word → Option Command
with_option option task words =
    option_and_then (λ named. option_and_then (λ file. with_task (task file) named) (file_of option named))
    (named_of (option ∷ externs_option ∷ []) words)

-- the command of these words, or none:
--     check [--externs FILE] FILE...
--     order [--externs FILE] FILE...
--     play --schedule FILE [--externs FILE] FILE...
abbrev pub command : List Word → Option Command
command [] = None
command (first ∷ words) =
    if bytes_eq first (codes "check") then plain Check words
    else if bytes_eq first (codes "order") then plain Order words
    else if bytes_eq first (codes "play") then with_option (codes "schedule") Play words
    else None
