-- The parameters of main.
use Rattle.std.proofs.Common.{◌≡◌, ◌∙◌, ◌<◌, ◌≤◌, ℕ, Bool, true, false, List, [], ◌∷◌, map, length, refl, ap, arith}
use Rattle.std.specs.Prelude.{◌&&◌, ◌||◌}
use Rattle.std.specs.Bool.{beq}
use Rattle.std.specs.List.{slice_index_or}
use Rattle.lk_typed.specs.Ty.{Ty, Pointer, char, int, is_same, types_of}
use Rattle.lk_check_decl.specs.Names.{are_main_params}

and_true : (a : Bool) → (a && true) ≡ a
and_true true = refl
and_true false = refl

and_false : (a : Bool) → (a && false) ≡ false
and_false true = refl
and_false false = refl

-- two parameters
pub two_params : (tree : ℕ → Ty) (params : List ℕ) (a b : ℕ) → 2 ≤ length params → length params < 3 → a ≡ slice_index_or params 0 a → b ≡ slice_index_or params 1 b →
    are_main_params (types_of (map tree params)) ≡ (is_same (tree a) int && is_same (tree b) (Pointer (Pointer char)))
unfolding is_same
two_params tree [] a b some few p q = absurd (omega (arith, some))
two_params tree (x ∷ []) a b some few p q = absurd (omega (arith, some))
two_params tree (x ∷ y ∷ []) a b some few p q = rw p (rw q (ap (λ second. is_same (tree x) int && second) (and_true (is_same (tree y) (Pointer (Pointer char))))))
two_params tree (x ∷ y ∷ z ∷ more) a b some few p q = absurd (omega (arith, few))

-- one, or more than two
pub one_param : (tree : ℕ → Ty) (params : List ℕ) → 1 ≤ length params → length params < 2 → are_main_params (types_of (map tree params)) ≡ false
unfolding is_same
one_param tree [] some few = absurd (omega (arith, some))
one_param tree (x ∷ []) some few = and_false (is_same (tree x) int)
one_param tree (x ∷ y ∷ more) some few = absurd (omega (arith, few))

pub more_params : (tree : ℕ → Ty) (params : List ℕ) → 3 ≤ length params → are_main_params (types_of (map tree params)) ≡ false
unfolding is_same
more_params tree [] some = absurd (omega (arith, some))
more_params tree (x ∷ []) some = absurd (omega (arith, some))
more_params tree (x ∷ y ∷ []) some = absurd (omega (arith, some))
more_params tree (x ∷ y ∷ z ∷ more) some =
    ap (λ second. is_same (tree x) int && second) (and_false (is_same (tree y) (Pointer (Pointer char)))) ∙ and_false (is_same (tree x) int)

-- a signature by its parts
-- with `...` it is none of main's
pub with_dots : (gives p q : Bool) → false ≡ ((gives && p && beq true false) || (gives && q && beq true false))
with_dots true true true = refl
with_dots true true false = refl
with_dots true false true = refl
with_dots true false false = refl
with_dots false p q = refl

pub without_dots : (gives p q : Bool) → (gives && (p || q)) ≡ ((gives && p && beq false false) || (gives && q && beq false false))
without_dots true true q = refl
without_dots true false true = refl
without_dots true false false = refl
without_dots false p q = refl
