use Rattle.std.proofs.Common.{◌≡◌, List, drop}
use Rattle.lk_typed.specs.Calls as spec
use Rattle.lk_typed.specs.Codes.{least_code}
use Rattle.lk_typed.specs.Env.{Env}
use Rattle.lk_typed.specs.Library as rows
use Rattle.lk_check_expr.specs.Arguments.{AreArguments, ArePassedBy}
use Rattle.lk_check_expr.proofs.calls.arguments_code.Given as goal

-- the code is that of the arguments from the index on
abbrev pub invariant-loop-index : goal.invariant-loop-index
invariant-loop-index l =
    (env : Env) (ps : List rows.Passing) (xs : List spec.Argument) → ArePassedBy l.types l.passes ps → AreArguments l.types env l.arguments xs →
    l.code ≡ least_code (spec.arguments_codes env l.dots (drop l.index ps) (drop l.index xs))
