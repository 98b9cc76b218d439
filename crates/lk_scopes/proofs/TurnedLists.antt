-- Lists that are taken from their end.
use Rattle.std.proofs.Common.{◌≡◌, ◌∙◌, ◌≤◌, ◌++◌, ◌∷◌, [], ℕ, zero, suc, List, length, take, drop, reverse, refl, sym, ap, arith}
use Rattle.std.proofs.lemmas.List.{reverse-append, reverse-reverse}

pub drop_last : {A : Type 0} (n : ℕ) (xs : List A) (x : A) → n ≤ length xs → drop n (xs ++ x ∷ []) ≡ drop n xs ++ x ∷ []
drop_last zero xs x h = refl
drop_last (suc n) [] x h = absurd (omega arith)
drop_last (suc n) (y ∷ xs) x h = drop_last n xs x (omega arith)

pub take_last : {A : Type 0} (n : ℕ) (xs : List A) (x : A) → n ≤ length xs → take n (xs ++ x ∷ []) ≡ take n xs
take_last zero xs x h = refl
take_last (suc n) [] x h = absurd (omega arith)
take_last (suc n) (y ∷ xs) x h = ap (λ ys. y ∷ ys) (take_last n xs x (omega arith))

pub append_last : {A : Type 0} (xs : List A) (x : A) (ys : List A) → (xs ++ x ∷ []) ++ ys ≡ xs ++ x ∷ ys
append_last [] x ys = refl
append_last (y ∷ xs) x ys = ap (λ zs. y ∷ zs) (append_last xs x ys)

-- the last one of a list goes behind those that were taken before it
pub taken_behind : {A : Type 0} (count : ℕ) (old new taken later all : List A) (item : A) → old ≡ new ++ item ∷ [] → later ≡ taken ++ item ∷ [] → count ≤ length new →
    drop count old ++ reverse taken ≡ all → drop count new ++ reverse later ≡ all
taken_behind count old new taken later all item gone put h is =
    ap (λ xs. drop count new ++ reverse xs) put ∙ ap (λ xs. drop count new ++ xs) (reverse-append taken (item ∷ [])) ∙ sym (append_last (drop count new) item (reverse taken)) ∙
    ap (λ xs. xs ++ reverse taken) (sym (drop_last count new item h)) ∙ ap (λ xs. drop count xs ++ reverse taken) (sym gone) ∙ is

pub still_there : {A : Type 0} (count : ℕ) (old new all : List A) (item : A) → old ≡ new ++ item ∷ [] → count ≤ length new → take count old ≡ all → take count new ≡ all
still_there count old new all item gone h is = sym (take_last count new item h) ∙ ap (take count) (sym gone) ∙ is

pub one_less : {A : Type 0} (old new : List A) (item : A) → old ≡ new ++ item ∷ [] → length old ≡ suc (length new)
one_less {A = A} old new item gone = ap length gone ∙ by new
  where
    by : (xs : List A) → length (xs ++ item ∷ []) ≡ suc (length xs)
    by [] = refl
    by (x ∷ xs) = ap suc (by xs)
