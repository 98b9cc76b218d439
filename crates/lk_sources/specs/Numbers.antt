-- The numbers of files: those of the FILEs first, in the order of the words, then that of the file of --externs,
-- then that of the file beside the sources. The names of line marks come behind them.
use Rattle.std.specs.Prelude.{ℕ, nat_eq, List, [], fold}
use Rattle.std.specs.Cmp.Lexicographic.{pointwise}
use Rattle.std.specs.List.{position_or_len}
use Rattle.lk_base.specs.Files.{with_name}
use Rattle.lk_base.specs.declared.code.Code.{Code}
use Rattle.lk_base.specs.declared.refusal.Refusal.{Refusal}
use Rattle.lk_words.specs.Words.{Command, beside}
use Rattle.lk_sources.specs.Reading.{names_of}

-- the names of a command's files, each once
abbrev pub numbered : Command → List (List ℕ)
numbered command =
    fold with_name (fold with_name (fold with_name [] command.files) (names_of command.externs))
    (names_of (beside command.task))

-- the number of a name among the names
abbrev pub number_of : List (List ℕ) → List ℕ → ℕ
number_of names name = position_or_len (pointwise nat_eq name) names

-- a refusal at the first byte of a line of the file of this name
abbrev pub refusal_at : List (List ℕ) → List ℕ → Code → ℕ → Refusal
refusal_at names name code line =
    record { code = code; spot = record { file = number_of names name; line = line; col = 1 }; name = [] }
