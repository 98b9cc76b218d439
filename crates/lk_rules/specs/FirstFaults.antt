-- The order of faults as a test, and the lesser one of two.
use Rattle.std.specs.Prelude.{ℕ, Bool, ◌&&◌, ◌||◌, Option, Some, None, nat_lt, nat_eq, if◌then◌else◌}
use Rattle.lk_base.specs.Code.{number_of}
use Rattle.lk_typed.specs.Faults.{Fault}

-- one number is less, or they are equal and what follows decides
unfoldable pub less_or : ℕ → ℕ → Bool → Bool
less_or a b rest = nat_lt a b || nat_eq a b && rest

-- the test of `IsBefore` of lk_typed
abbrev pub comes_before : Fault → Fault → Bool
comes_before f g =
    less_or f.spot.file g.spot.file
    (less_or f.spot.line g.spot.line
    (less_or f.spot.col g.spot.col
    (less_or (number_of f.breach.code) (number_of g.breach.code)
    (nat_lt f.ordinal g.ordinal))))

abbrev pub lesser_fault : Option Fault → Fault → Option Fault
lesser_fault None f = Some f
lesser_fault (Some g) f = Some (if comes_before f g then f else g)
