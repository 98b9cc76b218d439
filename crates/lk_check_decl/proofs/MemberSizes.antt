-- A struct with one more member: whether it is over a bound.
use Rattle.std.proofs.Common.{◌≡◌, ◌∙◌, ◌++◌, ℕ, Bool, true, false, List, [], ◌∷◌, Option, Some, None, map, refl, sym, ap}
use Rattle.std.specs.Prelude.{not}
use Rattle.lk_base.specs.declared.code.Code.TheVariants.{LargeType}
use Rattle.lk_types.specs.Building.{IsTable}
use Rattle.lk_types.specs.Sizes.{FitsBy, start_size, with_part, size_at, is_too_large}
use Rattle.lk_types.specs.Table.{Table, IsKnown}
use Rattle.lk_types.specs.declared.size.TypeSize.{TypeSize}
use Rattle.lk_typed.specs.Bounds.{plain, size_of}
use Rattle.lk_typed.specs.DeclaratorRules.{unless}
use Rattle.lk_typed.specs.Env.{Env, Field}
use Rattle.lk_typed.specs.Meaning.{meaning}
use Rattle.lk_typed.specs.MemberRules.{fields_in}
use Rattle.lk_typed.specs.Ty.{Ty}
use Rattle.lk_check_decl.proofs.Sizes.{with_parts, tree_size}
use Rattle.lk_check_decl.specs.Breaches.{told}
use Rattle.lk_check_decl.specs.Making.{AreFields}
use Rattle.lk_check_decl.specs.Members.{size_with, types_of, IsWithMember}

one_more : (below : Ty → TypeSize) (size : TypeSize) (ts : List Ty) (t : Ty) →
    with_parts below size (map plain (ts ++ t ∷ [])) ≡ with_part (with_parts below size (map plain ts)) (below t)
one_more below size [] t = refl
one_more below size (u ∷ ts) t = one_more below (with_part size (below u)) ts t

told_large : (large : Bool) → large ≡ true → told (unless (not large) LargeType) ≡ Some LargeType
told_large large is = rw is refl

told_small : (large : Bool) → large ≡ false → told (unless (not large) LargeType) ≡ None
told_small large is = rw is refl

pub with_member : (table : Table) → IsTable table → (t : ℕ) → IsKnown table t → (size : TypeSize) (env : Env) (before : List Field) →
    AreFields table (fields_in env) → size ≡ size_with env (types_of before) → (answer : Option TypeSize) → FitsBy is_too_large (with_part size (size_at table t)) answer →
    IsWithMember env before (meaning table t) answer
with_member table good t known size env before same is answer fits = of answer fits
  where
    tree : Ty
    tree = meaning table t

    whole : with_part size (size_at table t) ≡ size_with env (types_of before ++ tree ∷ [])
    whole =
        ap (λ size. with_part size (size_at table t)) is ∙
        ap (with_part (size_with env (types_of before))) (sym (tree_size table good (fields_in env) same t known)) ∙
        sym (one_more (size_of (fields_in env)) start_size (types_of before) tree)

    of : (answer : Option TypeSize) → FitsBy is_too_large (with_part size (size_at table t)) answer → IsWithMember env before tree answer
    of None large = told_large (is_too_large (size_with env (types_of before ++ tree ∷ []))) (ap is_too_large (sym whole) ∙ large)
    of (Some found) fits =
        (fits.0 ∙ whole, told_small (is_too_large (size_with env (types_of before ++ tree ∷ []))) (ap is_too_large (sym whole) ∙ fits.1))
