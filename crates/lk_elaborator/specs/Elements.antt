-- The elements of an array.
use Rattle.std.specs.Prelude.{Option, option_map}
use Rattle.lk_typed.specs.Ty.{Ty, array_of}

-- the type of an element, where a type is an array
abbrev pub element_type : Ty → Option Ty
element_type t = option_map (λ array. array.0) (array_of t)
