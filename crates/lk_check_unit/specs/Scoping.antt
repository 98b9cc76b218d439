-- Scopes that a walk enters and leaves.
use Rattle.std.specs.Prelude.{◌≡◌}
use Rattle.lk_names.specs.Growing.{IsMarkOf}
use Rattle.lk_names.specs.declared.names.Mark.{Mark}
use Rattle.lk_typed.specs.Env.{Env, Additions, enter, extend, past_scope}
use Rattle.lk_checker.specs.States.{IsIn, IsSound, kept_in, recorded_in}
use Rattle.lk_checker.specs.declared.checker.Checker.{Checker}

-- only names changed
pub record IsBeside (old new : Checker) : Type 0 where
  pub types : new.types ≡ old.types
  pub outside : new.outside ≡ old.outside
  pub kept : kept_in new ≡ kept_in old
  pub records : recorded_in new ≡ recorded_in old
  pub structs : new.names.structs ≡ old.names.structs
  pub sound : IsSound old → IsSound new

-- a scope is begun
pub record Enters (old new : Checker) (mark : Mark) : Type 0 where
  pub beside : IsBeside old new
  pub entered : (env : Env) → IsIn old env → IsIn new (enter env)
  pub marks : (env : Env) → IsIn old env → IsMarkOf mark env

-- the scope is ended that was begun when the mark was given
pub record Leaves (old new : Checker) (mark : Mark) : Type 0 where
  pub beside : IsBeside old new
  pub left : (env : Env) (added : Additions) → IsMarkOf mark env → IsIn old (extend (enter env) added) →
      IsIn new (extend env (past_scope added))
