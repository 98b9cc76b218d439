-- Lists and what is read of them so far.
use Rattle.std.proofs.Common.{◌≡◌, ◌∙◌, ℕ, zero, suc, ◌+◌, ◌<◌, ◌≤◌, List, [], ◌∷◌, ◌++◌, length, get_or, take, drop, drop-cons, map, refl, sym, ap, arith}

pub map_push : {A B : Type 0} (f : A → B) (xs : List A) (x : A) → map f (xs ++ x ∷ []) ≡ map f xs ++ f x ∷ []
map_push f [] x = refl
map_push f (y ∷ xs) x = ap (λ l. f y ∷ l) (map_push f xs x)

taken_suc : {A : Type 0} (xs : List A) (i : ℕ) (d : A) → i < length xs → take (suc i) xs ≡ take i xs ++ get_or xs i d ∷ []
taken_suc [] i d below = absurd (omega arith)
taken_suc (x ∷ xs) zero d below = refl
taken_suc (x ∷ xs) (suc i) d below = ap (λ l. x ∷ l) (taken_suc xs i d (omega arith))

-- one element more is taken
pub taken_more : {A : Type 0} (xs : List A) (i : ℕ) (d : A) → i < length xs → take (i + 1) xs ≡ take i xs ++ get_or xs i d ∷ []
taken_more xs i d below = let next : i + 1 ≡ suc i = omega arith in ap (λ n. take n xs) next ∙ taken_suc xs i d below

-- what is taken, the next element, and what is left
pub cut_at : {A : Type 0} (xs : List A) (i : ℕ) (d : A) → i < length xs → xs ≡ take i xs ++ get_or xs i d ∷ drop (suc i) xs
cut_at [] i d below = absurd (omega arith)
cut_at (x ∷ xs) zero d below = refl
cut_at (x ∷ xs) (suc i) d below = ap (λ l. x ∷ l) (cut_at xs i d (omega arith))

pub all_taken : {A : Type 0} (xs : List A) (i : ℕ) → length xs ≤ i → take i xs ≡ xs
all_taken [] zero past = refl
all_taken [] (suc i) past = refl
all_taken (x ∷ xs) zero past = absurd (omega arith)
all_taken (x ∷ xs) (suc i) past = ap (λ l. x ∷ l) (all_taken xs i (omega arith))

pub mapped_more : {A B : Type 0} (f : A → B) (xs : List A) (i : ℕ) (d : A) → i < length xs → map f (take (i + 1) xs) ≡ map f (take i xs) ++ f (get_or xs i d) ∷ []
mapped_more f xs i d below = ap (map f) (taken_more xs i d below) ∙ map_push f (take i xs) (get_or xs i d)

pub mapped_cut : {A B : Type 0} (f : A → B) (xs : List A) (i : ℕ) (d : A) → i < length xs → map f xs ≡ map f (take i xs) ++ f (get_or xs i d) ∷ map f (drop (suc i) xs)
mapped_cut f [] i d below = absurd (omega arith)
mapped_cut f (x ∷ xs) zero d below = refl
mapped_cut f (x ∷ xs) (suc i) d below = ap (λ l. f x ∷ l) (mapped_cut f xs i d (omega arith))

-- what is left begins with the next element
pub left_at : {A : Type 0} (xs : List A) (i : ℕ) (x : A) → i < length xs → x ≡ get_or xs i x → drop i xs ≡ x ∷ drop (i + 1) xs
left_at xs i x below is =
    let next : suc i ≡ i + 1 = omega arith in
    drop-cons xs i x below ∙ (ap (λ y. y ∷ drop (suc i) xs) (sym is) ∙ ap (λ n. x ∷ drop n xs) next)

pub none_left : {A : Type 0} (xs : List A) (i : ℕ) → length xs ≤ i → drop i xs ≡ []
none_left [] zero past = refl
none_left [] (suc i) past = refl
none_left (x ∷ xs) zero past = absurd (omega arith)
none_left (x ∷ xs) (suc i) past = none_left xs i (omega arith)

mapped_over : {A B : Type 0} (f : A → B) (ys : List A) (x : A) (rest : List A) → map f ((ys ++ x ∷ []) ++ rest) ≡ map f ys ++ f x ∷ map f rest
mapped_over f [] x rest = refl
mapped_over f (y ∷ ys) x rest = ap (λ l. f y ∷ l) (mapped_over f ys x rest)

pub mapped_front : {A B : Type 0} (f : A → B) (all xs : List A) (x : A) (rest : List A) → all ≡ (xs ++ x ∷ []) ++ rest → map f all ≡ map f xs ++ f x ∷ map f rest
mapped_front f all xs x rest is = ap (map f) is ∙ mapped_over f xs x rest
