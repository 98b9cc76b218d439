-- The lines that go to standard error, and how a place is printed.
use Rattle.std.specs.Prelude.{ℕ, List, [], ◌∷◌, ◌++◌, codes}
use Rattle.std.specs.Fmt.{decimal}
use Rattle.lk_base.specs.declared.spot.Spot.{Spot}
use Rattle.lk_base.specs.declared.refusal.Refusal.{Refusal}
use Rattle.lk_base.specs.Code.{number_of, word_of}

-- FILE:LINE:COL
abbrev pub place : List ℕ → Spot → List ℕ
place file spot = file ++ (codes ":" ++ (decimal spot.line ++ (codes ":" ++ decimal spot.col)))

-- a blank and the name, where there is a name
abbrev pub named : List ℕ → List ℕ
named [] = []
named (b ∷ name) = 32 ∷ b ∷ name

-- FILE:LINE:COL: refused NUMBER WORD NAME
abbrev pub refused_line : List ℕ → Refusal → List ℕ
refused_line file r =
    place file r.spot
    ++ (codes ": refused " ++ (decimal (number_of r.code) ++ (codes " " ++ (word_of r.code ++ (named r.name ++ (10 ∷ []))))))

-- the line for words that are no command
abbrev pub usage_line : List ℕ
usage_line =
    codes "usage: lsrace-witness [--seed N] [--steps N] [--externs FILE] FILE..." ++ 10 ∷ []

-- the line for a file that can't be read
abbrev pub unread_line : List ℕ → List ℕ
unread_line name = codes "lsrace-witness: cannot read " ++ (name ++ 10 ∷ [])

-- the line for output that failed
abbrev pub unwritten_line : List ℕ
unwritten_line = codes "lsrace-witness: cannot write" ++ 10 ∷ []

-- the line for want of memory
abbrev pub no_memory_line : List ℕ
no_memory_line = codes "lsrace-witness: no memory" ++ 10 ∷ []
