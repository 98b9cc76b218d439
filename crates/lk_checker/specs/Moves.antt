-- How the state of the checker goes on.
use Rattle.std.specs.Prelude.{ℕ, ◌≡◌, ◌++◌, ◌∷◌, Option, Some, None, [], length, nat_eq, List}
use Rattle.lk_types.specs.Building.{IsLonger}
use Rattle.lk_typed.specs.Env.{Env, Additions, Name, extend}
use Rattle.lk_typed.specs.Told.{Meant}
use Rattle.lk_names.specs.InScope.{env_in}
use Rattle.lk_found.specs.Begun.{KeepsBegun}
use Rattle.lk_typed.specs.Faults.{Breach}
use Rattle.lk_rules.specs.Keeping.{KeepsCodes}
use Rattle.lk_found.specs.Findings.{mark_at}
use Rattle.lk_found.specs.declared.found.At.{At}
use Rattle.lk_checker.specs.States.{IsIn, IsSound, kept_in, recorded_in}
use Rattle.lk_checker.specs.declared.checker.Checker.{Checker}

-- the table only grew, and no code was kept
pub record GrowsAlone (old new : Checker) : Type 0 where
  pub longer : IsLonger old.types new.types
  pub sound : IsSound new
  pub outside : new.outside ≡ old.outside
  pub kept : kept_in new ≡ kept_in old

-- the same, and nothing was recorded
pub record Grows (old new : Checker) : Type 0 where
  pub longer : IsLonger old.types new.types
  pub sound : IsSound new
  pub outside : new.outside ≡ old.outside
  pub kept : kept_in new ≡ kept_in old
  pub records : recorded_in new ≡ recorded_in old

-- the names are those behind these additions
abbrev pub GoesOn : Checker → Checker → (Env → Additions) → Type 0
GoesOn old new added = (env : Env) → IsIn old env → IsIn new (extend env (added env))

-- types came, and codes may be kept; nothing is recorded
pub record Puts (old new : Checker) : Type 0 where
  pub longer : IsLonger old.types new.types
  pub sound : IsSound new
  pub outside : new.outside ≡ old.outside
  pub names : new.names ≡ old.names
  pub records : recorded_in new ≡ recorded_in old

-- the environment of a state, all that it doesn't have as told
abbrev pub env_of : Checker → Env → Env
env_of checker rest = env_in checker.types rest checker.names

-- the struct that a use of a tag speaks of, with what it adds
pub record IsMeant (new : Checker) (env : Env) (meant : Meant) (s : ℕ) : Type 0 where
  pub number : s ≡ meant.number
  pub behind : IsIn new (extend env meant.additions)

-- the tag of the struct that begins is recorded, where one does: it is the last of
-- as many as there are structs
abbrev pub RecordsTag : Checker → Checker → Env → Option (Option Name) → Type 0
RecordsTag old new env None = recorded_in new ≡ recorded_in old
RecordsTag old new env (Some tag) =
    (recorded_in new ≡ record (recorded_in old)
    { tags = (recorded_in old).tags ++ record { tag = tag; is_outside = nat_eq env.base 0 } ∷ [] }) ×
    (length (recorded_in old).tags ≡ length env.structs)

-- a state behind another: the table only grew, and a struct whose definition has begun is begun still
pub record IsFurther (old new : Checker) : Type 0 where
  pub longer : IsLonger old.types new.types
  pub sound : IsSound new
  pub outside : new.outside ≡ old.outside
  pub begun : KeepsBegun old.names.structs new.names.structs

-- codes that hold at a node are kept
abbrev pub KeepsAt : Checker → Checker → At → List Breach → Type 0
KeepsAt old new at broken = KeepsCodes (kept_in old) (mark_at at) broken (kept_in new)

-- all but what is kept is as it was
pub record IsSame (old new : Checker) : Type 0 where
  pub types : new.types ≡ old.types
  pub names : new.names ≡ old.names
  pub outside : new.outside ≡ old.outside
  pub records : recorded_in new ≡ recorded_in old
