-- What is added behind others, one after the other.
use Rattle.std.proofs.Common.{arith, ap, sym, ◌∙◌, ◌≡◌, ◌<◌, ◌+◌, ◌++◌, ℕ, suc, List, [], ◌∷◌, length, get_or, set, take, drop, add-one, drop-cons, append_assoc, append-nil, Result, OnOk}
use Rattle.std.proofs.lemmas.List.{drop-set-lt, length_push, take_more_set}
use Rattle.std.proofs.lemmas.Result.{on_ok_weaker}
use Rattle.lk_lower_expr.specs.Owned.{Owned}
use Rattle.lk_lower_parts.specs.Found.{Adds, all_found}
use Rattle.lk_lower_parts.specs.declared.owned.Owned.{Owned as FoundOwned}

-- nothing more
pub no_more : (old : List FoundOwned) → Adds old old []
no_more old = sym (append-nil (all_found old))

-- some, and then what the last call adds
pub then_more : {T E : Type 0} (result : Result T E) (old mid new : List FoundOwned) (a b : List Owned) → Adds old mid a → OnOk result (Adds mid new b) → OnOk result (Adds old new (a ++ b))
then_more result old mid new a b is after = on_ok_weaker result (λ (h : Adds mid new b). h ∙ ap (λ l. l ++ b) is ∙ append_assoc (all_found old) a b) after

module _ {A B : Type 0} (g : List A → List B) (f : A → List B) (of_cons : (x : A) (xs : List A) → g (x ∷ xs) ≡ f x ++ g xs) (list : List A) where
  -- a loop over a list adds what each element has
  pub loop_more : (i : ℕ) (x : A) (total old new : List B) → i < length list → x ≡ get_or list i x → total ≡ old ++ g (drop i list) → new ≡ old ++ f x → total ≡ new ++ g (drop (i + 1) list)
  loop_more i x total old new within is was put =
      was ∙ ap (λ xs. old ++ g xs) turn ∙ ap (λ bs. old ++ bs) (of_cons x (drop (suc i) list)) ∙ sym (append_assoc old (f x) (g (drop (suc i) list))) ∙
      ap (λ bs. bs ++ g (drop (suc i) list)) (sym put) ∙ ap (λ n. new ++ g (drop n list)) (sym (add-one i))
    where
      turn : drop i list ≡ x ∷ drop (suc i) list
      turn = drop-cons list i x within ∙ ap (λ y. y ∷ drop (suc i) list) (sym is)

-- a list is longer by one
pub one_longer : {A : Type 0} (old new : List A) (x : A) (i : ℕ) → new ≡ old ++ (x ∷ []) → length old ≡ i → length new ≡ i + 1
one_longer old new x i put as_many = ap length put ∙ length_push old x ∙ ap (λ n. n + 1) as_many

-- ---- a list that is changed in place, where what it becomes is what stands so far and then the rest

module _ {A : Type 0} (xs new : List A) (p : ℕ) (x : A) (within : p < length xs) (put : new ≡ set xs p x) where
  pub in_place : (total tail : List A) → total ≡ take p xs ++ (x ∷ tail) → total ≡ take (p + 1) new ++ tail
  in_place total tail was =
      was ∙ sym (append_assoc (take p xs) (x ∷ []) tail) ∙ ap (λ front. front ++ tail) (sym (take_more_set xs p x within)) ∙ ap (λ l. take (p + 1) l ++ tail) (sym put)

  pub rest_stays : drop (p + 1) new ≡ drop (suc p) xs
  rest_stays = ap (drop (p + 1)) put ∙ ap (λ n. drop n (set xs p x)) (add-one p) ∙ drop-set-lt (suc p) xs p x below
    where
      below : p < suc p
      below = omega arith
