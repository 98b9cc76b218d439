-- The calls that are made on a shelf or a sink in memory, and those of them that fail.
use Rattle.std.specs.Prelude.{ℕ, List, [], ◌∷◌, ◌++◌, Contains}
use Rattle.lk_io.specs.Counts.{next_count}

-- the calls that are listed to fail, counted from 1; how many calls were made; and how many failed
pub record CallState : Type 0 where
  pub listed : List ℕ
  pub made : ℕ
  pub faults : ℕ

-- no call was made, and none is listed
abbrev pub no_calls : CallState
no_calls = record { listed = []; made = 0; faults = 0 }

-- one call more is listed to fail
abbrev pub with_listed : CallState → ℕ → CallState
with_listed calls call = record calls { listed = calls.listed ++ call ∷ [] }

-- a call was made. Its number is then how many were made; the count stands still at its last value,
-- which is then the number of each later call
abbrev pub after_call : CallState → CallState
after_call calls = record calls { made = next_count calls.made }

-- one call more has failed
abbrev pub with_fault : CallState → CallState
with_fault calls = record calls { faults = next_count calls.faults }

-- a call was made, and it failed
abbrev pub after_fault : CallState → CallState
after_fault calls = with_fault (after_call calls)

-- the next call is listed to fail
abbrev pub IsNextListed : CallState → Type 0
IsNextListed calls = Contains calls.listed (next_count calls.made)
