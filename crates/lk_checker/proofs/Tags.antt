-- The tag of a struct that begins is recorded (C99 6.7.2.3).
use Rattle.std.proofs.Common.{◌≡◌, ◌∙◌, ◌++◌, ℕ, Bool, [], ◌∷◌, Option, Some, None, sym, ap, subst, nat_eq}
use Rattle.std.specs.Prelude.{length}
use Rattle.lk_typed.specs.Env.{Env, Name}
use Rattle.lk_found.specs.Begun.{begun_where}
use Rattle.lk_checker.specs.Moves.{RecordsTag}
use Rattle.lk_checker.specs.States.{recorded_in}
use Rattle.lk_checker.specs.declared.checker.Checker.{Checker}

-- ---- structs that begin

-- nothing is recorded behind it
pub tag_still : (old middle new : Checker) (env : Env) (begun : Option (Option Name)) → recorded_in new ≡ recorded_in middle → RecordsTag old middle env begun → RecordsTag old new env begun
tag_still old middle new env None same is = same ∙ is
tag_still old middle new env (Some tag) same is = (same ∙ is.0, is.1)

-- a tag that was put
pub tag_put : (old new : Checker) (env : Env) (tag : Option Name) (outside : Bool) → recorded_in new ≡ record (recorded_in old) { tags = (recorded_in old).tags ++ record { tag = tag; is_outside = outside } ∷ [] } →
    outside ≡ nat_eq env.base 0 → length (recorded_in old).tags ≡ length env.structs → RecordsTag old new env (Some tag)
tag_put old new env tag outside put is count =
    (put ∙ ap (λ b. record (recorded_in old) { tags = (recorded_in old).tags ++ record { tag = tag; is_outside = b } ∷ [] }) is, count)

-- where no struct begins nothing is recorded
pub tag_none : (old new : Checker) (env : Env) (found : Option ℕ) (tag : Option Name) (s : ℕ) → found ≡ Some s → recorded_in new ≡ recorded_in old → RecordsTag old new env (begun_where found tag)
tag_none old new env found tag s is same = subst (λ found. RecordsTag old new env (begun_where found tag)) (sym is) same

-- where one begins its tag is
pub tag_new : (old new : Checker) (env : Env) (found : Option ℕ) (tag : Option Name) → found ≡ None → RecordsTag old new env (Some tag) → RecordsTag old new env (begun_where found tag)
tag_new old new env found tag is records = subst (λ found. RecordsTag old new env (begun_where found tag)) (sym is) records
