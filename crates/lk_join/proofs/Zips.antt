-- Two lists whose elements belong together, one by one.
use Rattle.std.proofs.Common.{◌≡◌, ◌++◌, ℕ, zero, suc, List, [], ◌∷◌, Some, refl, ap, subst, length}
use Rattle.std.proofs.lemmas.Option.{none-some, same_Some}
use Rattle.std.specs.List.{slice_get, AllZip}

module _ {X Y : Type 0} (R : X → Y → Type 0) where
  pub zip_push : (xs : List X) (ys : List Y) (x : X) (y : Y) → AllZip R xs ys → R x y → AllZip R (xs ++ x ∷ []) (ys ++ y ∷ [])
  zip_push [] [] x y hs h = (h, tt)
  zip_push [] (b ∷ ys) x y hs h = absurd hs
  zip_push (a ∷ xs) [] x y hs h = absurd hs
  zip_push (a ∷ xs) (b ∷ ys) x y hs h = (hs.0, zip_push xs ys x y hs.1 h)

  pub zip_weaker : (Q : X → Y → Type 0) → ((x : X) (y : Y) → R x y → Q x y) → (xs : List X) (ys : List Y) → AllZip R xs ys → AllZip Q xs ys
  zip_weaker Q weaker [] [] hs = tt
  zip_weaker Q weaker [] (b ∷ ys) hs = absurd hs
  zip_weaker Q weaker (a ∷ xs) [] hs = absurd hs
  zip_weaker Q weaker (a ∷ xs) (b ∷ ys) hs = (weaker a b hs.0, zip_weaker Q weaker xs ys hs.1)

  pub zip_at : (xs : List X) (ys : List Y) → AllZip R xs ys → (i : ℕ) (x : X) → slice_get xs i ≡ Some x → (y : Y) × (slice_get ys i ≡ Some y) × R x y
  zip_at [] ys hs i x at = absurd (none-some x at)
  zip_at (a ∷ xs) [] hs i x at = absurd hs
  zip_at (a ∷ xs) (b ∷ ys) hs zero x at = (b, refl, subst (λ z. R z b) (same_Some a x at) hs.0)
  zip_at (a ∷ xs) (b ∷ ys) hs (suc i) x at = zip_at xs ys hs.1 i x at

  pub zip_back : (xs : List X) (ys : List Y) → AllZip R xs ys → (i : ℕ) (y : Y) → slice_get ys i ≡ Some y → (x : X) × (slice_get xs i ≡ Some x) × R x y
  zip_back xs [] hs i y at = absurd (none-some y at)
  zip_back [] (b ∷ ys) hs i y at = absurd hs
  zip_back (a ∷ xs) (b ∷ ys) hs zero y at = (a, refl, subst (R a) (same_Some b y at) hs.0)
  zip_back (a ∷ xs) (b ∷ ys) hs (suc i) y at = zip_back xs ys hs.1 i y at

  pub zip_long : (xs : List X) (ys : List Y) → AllZip R xs ys → length xs ≡ length ys
  zip_long [] [] hs = refl
  zip_long [] (b ∷ ys) hs = absurd hs
  zip_long (a ∷ xs) [] hs = absurd hs
  zip_long (a ∷ xs) (b ∷ ys) hs = ap suc (zip_long xs ys hs.1)
