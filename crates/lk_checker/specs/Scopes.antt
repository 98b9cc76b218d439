-- A scope of its own, in the state of the checker (C99 6.2.1, 4).
use Rattle.std.specs.Prelude.{◌≡◌, []}
use Rattle.lk_typed.specs.Env.{Additions, Env, enter, extend, past_scope}
use Rattle.lk_names.specs.Growing.{InLeftScope, IsMarkOf, scope_added}
use Rattle.lk_names.specs.declared.names.Mark.{Mark}
use Rattle.lk_checker.specs.States.{IsIn}
use Rattle.lk_checker.specs.declared.checker.Checker.{Checker}

-- it has begun
pub record IsEntered (new : Checker) (mark : Mark) (env : Env) : Type 0 where
  pub behind : IsIn new (enter env)
  pub marks : IsMarkOf mark env

-- it is left behind these additions: its names and tags are gone, and handed out
pub record IsLeft (new : Checker) (env : Env) (added : Additions) (scope : InLeftScope) : Type 0 where
  pub behind : IsIn new (extend env (past_scope added))
  pub told : scope_added new.types scope ≡ record added { structs = [] }
