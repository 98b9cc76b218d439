-- Steps of a loop that goes on until nothing changes.
use Rattle.std.specs.Prelude.{◌≡◌, ◌<◌, ℕ, Bool, true, false}

-- A step from an old to a new state. What it keeps holds between the two. Where it has changed something the
-- measure falls, else the state is as it was and the step's part is done.
pub record Progress {S : Type 0} (measure : S → ℕ) (Keeps : S → S → Type 0) (Done : S → Type 0) (old new : S)
    (changed : Bool) : Type 0 where
  pub keeps : Keeps old new
  pub falls : changed ≡ true → measure new < measure old
  pub same : changed ≡ false → new ≡ old
  pub done : changed ≡ false → Done new
