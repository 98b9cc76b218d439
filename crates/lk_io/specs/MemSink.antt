-- What a sink in memory shows.
use Rattle.std.specs.Prelude.{ℕ, ◌-◌, min, List, length}
use Rattle.lk_io.specs.Calls.{CallState}

-- the bytes that it took, how many it has room for in all, the most that it takes at once, and the writes
pub record SinkState : Type 0 where
  pub gone : List ℕ
  pub room : ℕ
  pub most : ℕ
  pub calls : CallState

-- how many bytes of a piece of some length it takes: the least of that length, of the most that it takes
-- at once, and of the room that is left
abbrev pub taken_of : SinkState → ℕ → ℕ
taken_of sink len = min len (min sink.most (sink.room - length sink.gone))
