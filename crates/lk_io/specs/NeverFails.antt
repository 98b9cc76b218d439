-- What a sink shows on which no write fails.
use Rattle.std.specs.Prelude.{ℕ, ◌-◌, Bool, ◌&&◌, List, ◌++◌, length, take, nat_le, Option, None, Some, if◌then◌else◌}

-- the bytes that it keeps, how many it has room for, and whether these are all that it took
pub record KeeperState : Type 0 where
  pub kept : List ℕ
  pub room : ℕ
  pub whole : Bool

abbrev pub left_of : KeeperState → ℕ
left_of sink = sink.room - length sink.kept

-- it takes a piece whole, keeps of it what there is room for, and drops the rest
abbrev pub with_piece : KeeperState → List ℕ → KeeperState
with_piece sink piece = record {
  kept = sink.kept ++ take (left_of sink) piece;
  room = sink.room;
  whole = sink.whole && nat_le (length piece) (left_of sink);
}

-- what it tells that it took: nothing from the first byte on that it dropped
abbrev pub told_of : KeeperState → Option (List ℕ)
told_of sink = if sink.whole then Some sink.kept else None
