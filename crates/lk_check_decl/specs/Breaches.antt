-- The code that is told of what breaks the rules of one node.
use Rattle.std.specs.Prelude.{Option, List, map}
use Rattle.lk_base.specs.declared.code.Code.{Code}
use Rattle.lk_typed.specs.Faults.{Breach}
use Rattle.lk_typed.specs.Codes.{least_code}

-- the one of the least number
abbrev pub told : List Breach → Option Code
told breaches = least_code (map (λ breach. breach.code) breaches)
