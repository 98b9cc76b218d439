-- An enumerator is settled behind its value (C99 6.7.2.2).
use Rattle.std.specs.Prelude.{◌≡◌, Option, List, option_map, ℤ}
use Rattle.lk_types.specs.Building.{IsLonger}
use Rattle.lk_typed.specs.Env.{Env, Name, extend}
use Rattle.lk_typed.specs.Faults.{Breach}
use Rattle.lk_typed.specs.Told.{declares, enumerator}
use Rattle.lk_typed.specs.declared.constant.Constant.{Constant}
use Rattle.lk_rules.specs.Keeping.{KeepsCodes}
use Rattle.lk_found.specs.Begun.{KeepsBegun}
use Rattle.lk_found.specs.Findings.{mark_at}
use Rattle.lk_found.specs.declared.found.At.{At}
use Rattle.lk_found.specs.declared.found.Found.{Found}
use Rattle.lk_checker.specs.States.{IsIn, IsSound, kept_in, recorded_in}
use Rattle.lk_checker.specs.declared.checker.Checker.{Checker}

-- what is found of an expression as a constant, where it has a type
abbrev pub constant_found : Found → Option Constant
constant_found found = option_map (λ typed. typed.constant) found.typing

-- an enumerator's codes are kept, and it is declared with this value
pub record IsSettled (old new : Checker) (env : Env) (at : At) (name : Name) (value : Option ℤ)
    (broken : List Breach) : Type 0 where
  pub keeps : KeepsCodes (kept_in old) (mark_at at) broken (kept_in new)
  pub longer : IsLonger old.types new.types
  pub sound : IsSound new
  pub outside : new.outside ≡ old.outside
  pub begun : KeepsBegun old.names.structs new.names.structs
  pub records : recorded_in new ≡ recorded_in old
  pub behind : IsIn new (extend env (declares name at.ordinal (enumerator value)))
