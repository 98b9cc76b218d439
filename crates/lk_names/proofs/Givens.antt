-- Whether some declaration of a name has a body or an initialiser, by going back over what is declared.
use Rattle.std.proofs.Common.{◌≡◌, ◌∙◌, ◌≤◌, ◌&&◌, ◌||◌, ℕ, zero, suc, Bool, true, false, Option, Some, None, List, [], ◌∷◌, drop, if◌then◌else◌, length, refl, sym, ap, arith}
use Rattle.std.specs.List.{list_any, slice_get}
use Rattle.std.proofs.lemmas.Bool.{both_ways}
use Rattle.std.proofs.lemmas.Option.{same_Some}
use Rattle.lk_typed.specs.Env.{Declared, Name, is_name, latest, or_else}
use Rattle.lk_typed.specs.Redeclared.{gives_name, is_given}

true_else : (b : Bool) → b || true ≡ true
true_else true = refl
true_else false = refl

module _ {A : Type 0} (test : A → Bool) where
  -- what stands at a place passes, so one from there on does
  pub any_at : (xs : List A) (k : ℕ) (x : A) → slice_get xs k ≡ Some x → test x ≡ true → list_any test (drop k xs) ≡ true
  any_at [] k x at passes = absurd cc
  any_at (y ∷ xs) zero x at passes = ap (λ b. b || list_any test xs) (ap test (same_Some y x at) ∙ passes)
  any_at (y ∷ xs) (suc k) x at passes = any_at xs k x at passes

  -- it doesn't, and none behind it does
  pub none_at : (xs : List A) (k : ℕ) (x : A) → slice_get xs k ≡ Some x → test x ≡ false → list_any test (drop (suc k) xs) ≡ false → list_any test (drop k xs) ≡ false
  none_at [] k x at fails none = absurd cc
  none_at (y ∷ xs) zero x at fails none = ap (λ b. b || list_any test xs) (ap test (same_Some y x at) ∙ fails) ∙ none
  none_at (y ∷ xs) (suc k) x at fails none = none_at xs k x at fails none

  any_of_all : (xs : List A) (k : ℕ) → list_any test (drop k xs) ≡ true → list_any test xs ≡ true
  any_of_all xs zero passes = passes
  any_of_all [] (suc k) passes = passes
  any_of_all (x ∷ xs) (suc k) passes = ap (λ b. test x || b) (any_of_all xs k passes) ∙ true_else (test x)

  -- one that passes from a place on does so from an earlier one on
  pub any_sooner : (xs : List A) (b k : ℕ) → b ≤ k → list_any test (drop k xs) ≡ true → list_any test (drop b xs) ≡ true
  any_sooner xs zero k h passes = any_of_all xs k passes
  any_sooner xs (suc b) zero h passes = absurd (omega (arith, h))
  any_sooner [] (suc b) (suc k) h passes = passes
  any_sooner (x ∷ xs) (suc b) (suc k) h passes = any_sooner xs b k (omega (arith, h)) passes

  -- where none does from a place on, none does from a later one on
  pub none_later : (xs : List A) (b k : ℕ) → k ≤ b → list_any test (drop k xs) ≡ false → list_any test (drop b xs) ≡ false
  none_later xs b k h none = by (list_any test (drop b xs)) refl
    where
      by : (v : Bool) → list_any test (drop b xs) ≡ v → list_any test (drop b xs) ≡ false
      by true is = absurd (both_ways (list_any test (drop k xs)) none (any_sooner xs k b h is))
      by false is = is

  pub none_behind_all : (xs : List A) (k : ℕ) → length xs ≤ k → list_any test (drop k xs) ≡ false
  none_behind_all [] zero h = refl
  none_behind_all [] (suc k) h = refl
  none_behind_all (x ∷ xs) zero h = absurd (omega (arith, h))
  none_behind_all (x ∷ xs) (suc k) h = none_behind_all xs k (omega (arith, h))

-- a name without a declaration has none with a body or an initialiser
pub none_named : (q : Name) (ds : List Declared) → None ≡ latest (λ d. is_name d.name q) ds → list_any (gives_name q) ds ≡ false
none_named q [] is = refl
none_named q (d ∷ ds) is =
    let parts = apart (latest (λ d. is_name d.name q) ds) (is_name d.name q) d (sym is) in
    ap (λ b. b || list_any (gives_name q) ds) (unnamed parts.1) ∙ none_named q ds (sym parts.0)
  where
    apart : (o : Option Declared) (b : Bool) (x : Declared) → or_else o (if b then Some x else None) ≡ None → (o ≡ None) × (b ≡ false)
    apart (Some y) b x none = absurd cc
    apart None true x none = absurd cc
    apart None false x none = (refl, refl)

    none_in : (a : Bool) → a && false ≡ false
    none_in true = refl
    none_in false = refl

    unnamed : is_name d.name q ≡ false → gives_name q d ≡ false
    unnamed other = ap (λ b. is_given d && b) other ∙ none_in (is_given d)
