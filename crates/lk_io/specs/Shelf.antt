-- What a shelf shows of its files and of its faults.
use Rattle.std.specs.Prelude.{ℕ, ◌≡◌, ◌<◌, ◌≤◌, ◌↔◌, Bool, true, false, List, length, take, drop, Option, Some, Result, Ok, Err, IsSomeAnd}
use Rattle.std.specs.Option.{ForSome}
use Rattle.std.specs.Bool.{OnTrue, OnFalse}
use Rattle.lk_io.specs.declared.fault.ShelfFault.{ShelfFault}
use Rattle.lk_io.specs.declared.fault.ShelfFault.TheVariants as piece
use Rattle.lk_io.specs.declared.fault.ReadFault.{ReadFault}
use Rattle.lk_io.specs.declared.fault.ReadFault.TheVariants as whole
use Rattle.lk_io.specs.Counts.{Rose}

-- what a shelf holds: for each name the bytes of its file, or nothing where there is no such file
abbrev pub Held : Type 0
Held = List ℕ → Option (List ℕ)

-- a name that may be asked for: 1 to 255 bytes
abbrev pub IsFileName : List ℕ → Type 0
IsFileName name = (0 < length name) × (length name ≤ 255)

-- the file is there and has more bytes than the limit
abbrev pub IsLonger : Option (List ℕ) → ℕ → Type 0
IsLonger file limit = IsSomeAnd file (λ bytes. limit < length bytes)

-- the file is there, and the first n bytes of the buffer are its bytes from a place on. A buffer with
-- room gets none exactly where that place is at the file's end or past it
pub record Gives (file : Option (List ℕ)) (from : ℕ) (into : List ℕ) (n : ℕ) : Type 0 where
  pub bytes : List ℕ
  pub there : file ≡ Some bytes
  pub same : take n into ≡ take n (drop from bytes)
  pub ends : 0 < length into → (n ≡ 0) ↔ (length bytes ≤ from)

-- the answer is that a read failed
abbrev pub is_failed : {T : Type 0} → Result T ShelfFault → Bool
is_failed (Err piece.Failed) = true
is_failed (Err piece.NoMemory) = false
is_failed (Ok _) = false

-- the same of the reading of a whole file
abbrev pub is_whole_failed : {T : Type 0} → Result T ReadFault → Bool
is_whole_failed (Err whole.Failed) = true
is_whole_failed (Err whole.TooLong) = false
is_whole_failed (Err whole.NoMemory) = false
is_whole_failed (Ok _) = false

-- what reading leaves of the shelf's count and of its bad name, the name of the last read that failed.
-- The count never falls. Where a read failed it rose, and a told bad name is the name that was asked
-- for; else both are as they were
pub record ReadCounts (name : List ℕ) (before now : ℕ) (bad_before bad_now : Option (List ℕ))
    (failed : Bool) : Type 0 where
  pub later : before ≤ now
  pub rose : OnTrue failed (Rose before now)
  pub named : OnTrue failed (ForSome bad_now (λ told. told ≡ name))
  pub calm : OnFalse failed (now ≡ before)
  pub kept : OnFalse failed (bad_now ≡ bad_before)

-- the fault of a piece, as one of the whole file
abbrev pub whole_fault : ShelfFault → ReadFault
whole_fault piece.Failed = whole.Failed
whole_fault piece.NoMemory = whole.NoMemory
