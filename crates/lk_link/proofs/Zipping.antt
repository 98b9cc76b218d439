-- What holds of the elements of two lists, one by one, as far as a loop has come.
use Rattle.std.proofs.Common.{◌≡◌, ℕ, zero, suc, List, [], ◌∷◌, Some, subst, sym, take}
use Rattle.std.proofs.lemmas.Option.{none-some, same_Some}
use Rattle.std.specs.List.{slice_get, AllZip}

module _ {X Y : Type 0} (R : X → Y → Type 0) where
  pub zip_more : (xs : List X) (ys : List Y) (k : ℕ) (x : X) (y : Y) → slice_get xs k ≡ Some x → slice_get ys k ≡ Some y → AllZip R (take k xs) (take k ys) → R x y → AllZip R (take (suc k) xs) (take (suc k) ys)
  zip_more [] ys k x y at bt hs h = absurd (none-some x at)
  zip_more (a ∷ xs) [] k x y at bt hs h = absurd (none-some y bt)
  zip_more (a ∷ xs) (b ∷ ys) zero x y at bt hs h = (subst (λ z. R z b) (sym (same_Some a x at)) (subst (R x) (sym (same_Some b y bt)) h), tt)
  zip_more (a ∷ xs) (b ∷ ys) (suc k) x y at bt hs h = (hs.0, zip_more xs ys k x y at bt hs.1 h)

  pub zip_less : (xs : List X) (ys : List Y) (k : ℕ) → AllZip R (take (suc k) xs) (take (suc k) ys) → AllZip R (take k xs) (take k ys)
  zip_less [] [] zero hs = tt
  zip_less [] [] (suc k) hs = tt
  zip_less [] (b ∷ ys) zero hs = tt
  zip_less [] (b ∷ ys) (suc k) hs = absurd hs
  zip_less (a ∷ xs) [] zero hs = tt
  zip_less (a ∷ xs) [] (suc k) hs = absurd hs
  zip_less (a ∷ xs) (b ∷ ys) zero hs = tt
  zip_less (a ∷ xs) (b ∷ ys) (suc k) hs = (hs.0, zip_less xs ys k hs.1)

  pub zip_last : (xs : List X) (ys : List Y) (k : ℕ) (x : X) (y : Y) → slice_get xs k ≡ Some x → slice_get ys k ≡ Some y → AllZip R (take (suc k) xs) (take (suc k) ys) → R x y
  zip_last [] ys k x y at bt hs = absurd (none-some x at)
  zip_last (a ∷ xs) [] k x y at bt hs = absurd (none-some y bt)
  zip_last (a ∷ xs) (b ∷ ys) zero x y at bt hs = subst (λ z. R z y) (same_Some a x at) (subst (R a) (same_Some b y bt) hs.0)
  zip_last (a ∷ xs) (b ∷ ys) (suc k) x y at bt hs = zip_last xs ys k x y at bt hs.1

  pub zip_take : (xs : List X) (ys : List Y) (k : ℕ) → AllZip R xs ys → AllZip R (take k xs) (take k ys)
  zip_take [] [] zero hs = tt
  zip_take [] [] (suc k) hs = tt
  zip_take [] (b ∷ ys) k hs = absurd hs
  zip_take (a ∷ xs) [] k hs = absurd hs
  zip_take (a ∷ xs) (b ∷ ys) zero hs = tt
  zip_take (a ∷ xs) (b ∷ ys) (suc k) hs = (hs.0, zip_take xs ys k hs.1)
