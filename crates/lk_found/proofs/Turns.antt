-- The elements of a list that are left in a loop.
use Rattle.std.proofs.Common.{◌≡◌, ◌∙◌, ◌+◌, ◌<◌, ◌≤◌, ℕ, zero, suc, List, [], ◌∷◌, length, refl, sym, ap, arith, get_or, drop}

pub drop_next : {A : Type 0} (xs : List A) (i : ℕ) (x : A) → x ≡ get_or xs i x → i < length xs → drop i xs ≡ x ∷ drop (i + 1) xs
drop_next [] i x is within = absurd (omega (arith, within))
drop_next (y ∷ xs) zero x is within = ap (λ z. z ∷ xs) (sym is)
drop_next (y ∷ xs) (suc i) x is within =
    let one_more : suc (i + 1) ≡ suc i + 1 = omega arith in drop_next xs i x is (omega (arith, within)) ∙ ap (λ n. x ∷ drop n (y ∷ xs)) one_more

pub drop_none : {A : Type 0} (xs : List A) (i : ℕ) → length xs ≤ i → drop i xs ≡ []
drop_none [] zero past = refl
drop_none [] (suc i) past = refl
drop_none (y ∷ xs) zero past = absurd (omega (arith, past))
drop_none (y ∷ xs) (suc i) past = drop_none xs i (omega (arith, past))
