-- What objects of static storage begin with: each such cell is there, may begin with its value, and
-- a point writes each pointer.
use Rattle.std.specs.Prelude.{◌≡◌, ℕ, Some, slice_get}
use Rattle.lk_facts.specs.Initials.{IsWritten}
use Rattle.lk_facts.specs.Lowered.{IsInitial}
use Rattle.lk_facts.specs.declared.initial.Initial.{Initial}
use Rattle.lk_facts.specs.declared.program.Program.{Program}
use Rattle.lk_point_statics.specs.Near.{IsWrittenNear}

pub record AreStatics (program : Program) : Type 0 where
  pub initials : (i : ℕ) (initial : Initial) → slice_get program.initials i ≡ Some initial →
      IsInitial program initial
  pub written : (i : ℕ) (initial : Initial) → slice_get program.initials i ≡ Some initial →
      IsWritten program initial initial.value
  -- and each pointer that moves on the way to one stands where an index can name its place
  pub near : (i : ℕ) (initial : Initial) → slice_get program.initials i ≡ Some initial →
      IsWrittenNear program initial initial.value
