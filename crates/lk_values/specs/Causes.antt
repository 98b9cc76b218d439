-- Causes for which a step is undefined, and which of several is answered.
use Rattle.std.specs.Prelude.{ℕ, Bool, Option, None, Some, if◌then◌else◌, nat_le}
use Rattle.lk_values.specs.declared.why.Why.{Why}
use Rattle.lk_values.specs.declared.why.Why.TheVariants.{Overflow, DivideByZero, Shift, Indeterminate, Null, Dead, Outside, WrongType, ConstText, NotOwner, NotReady, OwnedLock, BadFree, BadJoin, NoValue}

infixr 5 ◌or◌
infix 6 ◌when◌
-- the place of a cause in their order
abbrev pub rank : Why → ℕ
rank Overflow = 0
rank DivideByZero = 1
rank Shift = 2
rank Indeterminate = 3
rank Null = 4
rank Dead = 5
rank Outside = 6
rank WrongType = 7
rank ConstText = 8
rank NotOwner = 9
rank NotReady = 10
rank OwnedLock = 11
rank BadFree = 12
rank BadJoin = 13
rank NoValue = 14

-- no cause
abbrev pub never : Option Why
never = None

-- the cause, where the test holds
abbrev pub ◌when◌ : Why → Bool → Option Why
why when test = if test then Some why else None

-- of two causes that may hold, the one that is answered: the first in their order
abbrev pub ◌or◌ : Option Why → Option Why → Option Why
None or b = b
Some a or None = Some a
Some a or Some b = Some (if nat_le (rank a) (rank b) then a else b)
