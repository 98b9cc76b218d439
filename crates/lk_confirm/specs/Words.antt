-- What the words of a command line ask for: two numbers, and what `lsrace check` reads. The options with
-- numbers stand anywhere before `--`; what is left are words of a check.
use Rattle.std.specs.Prelude.{◌≡◌, ◌<◌, ◌^◌, ℕ, Bool, true, false, List, [], ◌∷◌, ◌++◌, Option, None, Some, codes, drop, if◌then◌else◌, is_some, length, option_and_then, take}
use Rattle.std.specs.Fmt.{decimal}
use Rattle.std.specs.Str.{bytes_eq}
use Rattle.lk_words.specs.Words.{Command, Word, command}

-- what is wanted next: any word, the number that an option names, the file of `--externs`, or, behind `--`, a
-- FILE
pub data Wanted : Type 0 where
  Any : Wanted
  Seed : Wanted
  Steps : Wanted
  File : Wanted
  Source : Wanted

-- the texts of the numbers, where they are given, and the words of a check that are left
pub record Split : Type 0 where
  pub seed : Option Word
  pub steps : Option Word
  pub others : List Word
  pub wanted : Wanted

abbrev pub nothing_split : Split
nothing_split = record { seed = None; steps = None; others = codes "check" ∷ []; wanted = Any }

abbrev pub wanting : Split → Wanted → Split
wanting split wanted = record split { wanted = wanted }

abbrev pub with_seed : Split → Word → Option Split
with_seed split text =
    if is_some split.seed then None else Some (record split { seed = Some text; wanted = Any })

abbrev pub with_steps : Split → Word → Option Split
with_steps split text =
    if is_some split.steps then None else Some (record split { steps = Some text; wanted = Any })

-- the word is left, and this is wanted next
abbrev pub with_other : Split → Word → Wanted → Split
with_other split word wanted = record split { others = split.others ++ word ∷ []; wanted = wanted }

-- what stands behind this front of a word, where it has it
abbrev pub behind : Word → Word → Option Word
behind front word =
    if bytes_eq (take (length front) word) front then Some (drop (length front) word) else None

-- `--externs`, whose file is the next word; `--`, behind which each word is a FILE; or another word
abbrev pub left_word : Split → Word → Split
left_word split word =
    if bytes_eq word (codes "--externs") then with_other split word File
    else if bytes_eq word (codes "--") then with_other split word Source
    else with_other split word Any

-- a word by what stands behind `--seed=` and behind `--steps=` in it
abbrev pub by_front : Split → Word → Option Word → Option Word → Option Split
by_front split word (Some seed) steps = with_seed split seed
by_front split word None (Some steps) = with_steps split steps
by_front split word None None = Some (left_word split word)

-- `--seed N`, `--steps N`, `--seed=N`, `--steps=N`, or a word that is left
abbrev pub any_word : Split → Word → Option Split
any_word split word =
    if bytes_eq word (codes "--seed") then Some (wanting split Seed)
    else if bytes_eq word (codes "--steps") then Some (wanting split Steps)
    else by_front split word (behind (codes "--seed=") word) (behind (codes "--steps=") word)

abbrev pub word_for : Wanted → Split → Word → Option Split
word_for Any split word = any_word split word
word_for Seed split word = with_seed split word
word_for Steps split word = with_steps split word
word_for File split word = Some (with_other split word Any)
word_for Source split word = Some (with_other split word Source)

abbrev pub next_word : Split → Word → Option Split
next_word split word = word_for split.wanted split word

-- where the words lead, word by word
unfoldable pub walk : Split → List Word → Option Split
walk split [] = Some split
walk split (word ∷ words) = option_and_then (λ next. walk next words) (next_word split word)

-- no number is wanted at the end
abbrev pub is_done : Wanted → Bool
is_done Any = true
is_done Seed = false
is_done Steps = false
is_done File = true
is_done Source = true

-- ---- what they ask for

-- the seed of a search, how many steps it has, and the sources
pub record Asked : Type 0 where
  pub seed : ℕ
  pub steps : ℕ
  pub check : Command

-- the number that a text writes in decimal, or the usual one where none is given
abbrev pub IsNumber : ℕ → Option Word → ℕ → Type 0
IsNumber usual None n = n ≡ usual
IsNumber usual (Some text) n = (n < 2 ^ 64) × (text ≡ decimal n)

-- words that were taken apart ask for this
pub record AsksFor (split : Split) (asked : Asked) : Type 0 where
  pub done : is_done split.wanted ≡ true
  pub seed : IsNumber 0 split.seed asked.seed
  pub steps : IsNumber 2000000 split.steps asked.steps
  pub check : command split.others ≡ Some asked.check

-- the words [--seed N] [--steps N] [--externs FILE] FILE... ask for this
pub record IsAsked (words : List Word) (asked : Asked) : Type 0 where
  pub split : Split
  pub splits : walk nothing_split words ≡ Some split
  pub asks : AsksFor split asked

-- the words ask for nothing
abbrev pub IsNoCommand : List Word → Type 0
IsNoCommand words = (asked : Asked) → IsAsked words asked → ⊥
