-- What holds the parameters of a function (C99 6.9.1).
use Rattle.std.specs.Prelude.{◌≡◌, ℕ, List, Some, length, slice_get}
use Rattle.lk_facts.specs.Typed.{IsHolderIn, IsHolderType}
use Rattle.lk_facts.specs.declared.program.Program.{Program}
use Rattle.lk_facts.specs.declared.root.Holder.{Holder}
use Rattle.lk_types.specs.Equal.{IsAlike}

-- what holds a parameter is of the function's frame, and has the type but for the sizes of arrays
abbrev pub IsHeld : Program → (f : ℕ) → Holder → (t : ℕ) → Type 0
IsHeld program f holder t =
    IsHolderIn program f holder × ((u : ℕ) × IsHolderType program holder u × IsAlike program.types.types u t)

-- there are as many as the types, and they hold parameters of these, in order
pub record AreHeld (program : Program) (f : ℕ) (holders : List Holder) (types : List ℕ) : Type 0 where
  pub as_many : length holders ≡ length types
  pub each : (k t : ℕ) → slice_get types k ≡ Some t →
      (holder : Holder) × (slice_get holders k ≡ Some holder) × IsHeld program f holder t
