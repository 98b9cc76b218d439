-- What is defined by the first byte.
use Rattle.std.proofs.Common.{◌≡◌, ℕ, true, false, ◌==◌, List, [], ◌∷◌, Some, None, slice_get, refl, sym, subst, arith}
use Rattle.std.proofs.lemmas.Bool.Decides.{nat_tests}

-- a function of bytes at their first byte
pub by_first : {A : Type 0} (F : List ℕ → A) (G : ℕ → List ℕ → A) → ((c : ℕ) (cs : List ℕ) → F (c ∷ cs) ≡ G c (c ∷ cs))
    → (bytes : List ℕ) (c : ℕ) → Some c ≡ slice_get bytes 0 → G c bytes ≡ F bytes
by_first F G at [] c first = absurd cc
by_first F G at (b ∷ bs) c first = let same : b ≡ c = cc in subst (λ x. G x (b ∷ bs) ≡ F (b ∷ bs)) same (sym (at b bs))

pub empty_first : (bytes : List ℕ) → None ≡ slice_get bytes 0 → bytes ≡ []
empty_first [] none = refl
empty_first (b ∷ bs) none = absurd cc

pub not_34 : (b : ℕ) → (b ≡ 34 → ⊥) → (b == 34) ≡ false
not_34 b other = grind (arith, nat_tests)

pub is_34 : (b : ℕ) → b ≡ 34 → (b == 34) ≡ true
is_34 b same = grind (arith, nat_tests)
