-- Elements of lists that are joined, and of lists and tables in which one was changed.
use Rattle.std.proofs.Common.{◌≡◌, ℕ, ◌<◌, ◌+◌, ◌-◌, zero, suc, Bool, true, false, List, [], ◌∷◌, ◌++◌, length, take, map, Option, None, Some, refl, sym, ap, ◌∙◌, subst, inl, inr, ◌⊎◌, arith}
use Rattle.std.proofs.lemmas.Option.{none-some, same_Some, slice_get_within}
use Rattle.std.specs.List.{position_from}
use Rattle.std.specs.Map.{lookup}
use Rattle.std.specs.Option.{option_map_or}
use Rattle.std.specs.Prelude.{slice_get, slice_set, if◌then◌else◌}
use Rattle.lk_birth.specs.Births.{changed_at}
use Rattle.lk_meaning.proofs.Reading.{get_set_same, get_set_other, get_left, is_same}

module _ {X : Type 0} where
  -- what is in the first list is in both
  pub left_there : (xs ys : List X) (i : ℕ) (x : X) → slice_get xs i ≡ Some x → slice_get (xs ++ ys) i ≡ Some x
  left_there xs ys i x there = get_left xs ys i (slice_get_within xs i x there) ∙ there

  -- what is in both, at a place of the first, is in the first
  pub was_left : (xs ys : List X) (i : ℕ) (x : X) → i < length xs → slice_get (xs ++ ys) i ≡ Some x → slice_get xs i ≡ Some x
  was_left xs ys i x within there = sym (get_left xs ys i within) ∙ there

  -- what comes after the first list is in the second
  pub get_right : (xs ys : List X) (i k : ℕ) → i ≡ length xs + k → slice_get (xs ++ ys) i ≡ slice_get ys k
  get_right [] ys i k is = ap (λ n. slice_get ys n) (omega (arith, is))
  get_right (x ∷ xs) ys zero k is = absurd (omega (arith, is))
  get_right (x ∷ xs) ys (suc i) k is = get_right xs ys i k (omega (arith, is))

  -- what is in both is in the first, or in the second
  pub split : (xs ys : List X) (i : ℕ) (x : X) → slice_get (xs ++ ys) i ≡ Some x → (slice_get xs i ≡ Some x) ⊎ ((k : ℕ) × (i ≡ length xs + k) × (slice_get ys k ≡ Some x))
  split [] ys i x there = inr (i, omega arith, there)
  split (y ∷ xs) ys zero x there = inl there
  split (y ∷ xs) ys (suc i) x there = elim (split xs ys i x there) [ inl first ↦ inl first | inr second ↦ inr (second.0, next xs i second.0 second.1, second.2) ]
    where
      next : (xs : List X) (i k : ℕ) → i ≡ length xs + k → suc i ≡ suc (length xs) + k
      next xs i k is = omega (arith, is)

  -- the element put at the end
  pub get_last : (xs : List X) (y : X) (i : ℕ) → i ≡ length xs → slice_get (xs ++ y ∷ []) i ≡ Some y
  get_last [] y i is = rw is refl
  get_last (x ∷ xs) y zero is = absurd (omega (arith, is))
  get_last (x ∷ xs) y (suc i) is = get_last xs y i (omega (arith, is))

  -- what is there, where one was put at the end, was there or is that one
  pub split_last : (xs : List X) (y : X) (i : ℕ) (x : X) → slice_get (xs ++ y ∷ []) i ≡ Some x → (slice_get xs i ≡ Some x) ⊎ ((i ≡ length xs) × (x ≡ y))
  split_last [] y zero x there = inr (refl, same_Some x y (sym there))
  split_last [] y (suc i) x there = absurd (none-some x there)
  split_last (z ∷ xs) y zero x there = inl there
  split_last (z ∷ xs) y (suc i) x there = elim (split_last xs y i x there) [ inl first ↦ inl first | inr last ↦ inr (ap suc last.0, last.1) ]

  -- a list with a last element is those before it, and it
  front_by : (xs : List X) (n : ℕ) (x : X) → length xs ≡ suc n → slice_get xs n ≡ Some x → xs ≡ take n xs ++ x ∷ []
  front_by [] n x many there = absurd (none-some x there)
  front_by (y ∷ []) zero x many there = ap (λ z. z ∷ []) (same_Some y x there)
  front_by (y ∷ (z ∷ xs)) zero x many there = absurd (omega (arith, many))
  front_by (y ∷ xs) (suc n) x many there = ap (λ zs. y ∷ zs) (front_by xs n x (omega (arith, many)) there)

  pub front_and_last : (xs : List X) (x : X) → slice_get xs (length xs - 1) ≡ Some x → xs ≡ take (length xs - 1) xs ++ x ∷ []
  front_and_last xs x there = let within = slice_get_within xs (length xs - 1) x there in front_by xs (length xs - 1) x (omega (arith, within)) there

  -- where something comes and nothing is at n, it comes before n
  pub before_none : (xs : List X) (n i : ℕ) (x : X) → slice_get xs n ≡ None → slice_get xs i ≡ Some x → i < n
  before_none [] n i x none there = absurd (none-some x there)
  before_none (y ∷ xs) zero i x none there = absurd (none-some y (sym none))
  before_none (y ∷ xs) (suc n) zero x none there = omega arith
  before_none (y ∷ xs) (suc n) (suc i) x none there = let less = before_none xs n i x none there in omega (arith, less)

  -- ---- one changed

  -- what is there, where something was put, was there or was put
  pub set_cases : (xs : List X) (i n : ℕ) (y x : X) → slice_get (slice_set xs i y) n ≡ Some x → (slice_get xs n ≡ Some x) ⊎ ((n ≡ i) × (x ≡ y))
  set_cases [] i n y x is = inl is
  set_cases (z ∷ xs) zero zero y x is = inr (refl, same_Some x y (sym is))
  set_cases (z ∷ xs) zero (suc n) y x is = inl is
  set_cases (z ∷ xs) (suc i) zero y x is = inl is
  set_cases (z ∷ xs) (suc i) (suc n) y x is = elim (set_cases xs i n y x is) [ inl was ↦ inl was | inr put ↦ inr (ap suc put.0, put.1) ]

  pub changed_here : (xs : List X) (i : ℕ) (f : X → X) (x : X) → slice_get xs i ≡ Some x → slice_get (changed_at xs i f) i ≡ Some (f x)
  changed_here xs i f x there = rw there (get_set_same xs i x (f x) there)

  pub changed_other : (xs : List X) (i n : ℕ) (f : X → X) → (n ≡ i → ⊥) → slice_get (changed_at xs i f) n ≡ slice_get xs n
  changed_other xs i n f other = by (slice_get xs i)
    where
      by : (found : Option X) → slice_get (option_map_or (λ x. slice_set xs i (f x)) found xs) n ≡ slice_get xs n
      by None = refl
      by (Some x) = get_set_other xs i n (f x) other

  -- what is there where one was changed is what that was changed to
  pub changed_from : (xs : List X) (i : ℕ) (f : X → X) (y : X) → slice_get (changed_at xs i f) i ≡ Some y → (x : X) × (slice_get xs i ≡ Some x) × (y ≡ f x)
  changed_from xs i f y is = by (slice_get xs i) refl is
    where
      by : (found : Option X) → slice_get xs i ≡ found → slice_get (option_map_or (λ x. slice_set xs i (f x)) found xs) i ≡ Some y → (x : X) × (slice_get xs i ≡ Some x) × (y ≡ f x)
      by None none is = absurd (none-some y (sym none ∙ is))
      by (Some x) there is = (x, there, same_Some y (f x) (sym is ∙ get_set_same xs i x (f x) there))

  -- what is there after one was changed was there, or is what it was changed to
  pub changed_cases : (xs : List X) (i n : ℕ) (f : X → X) (y : X) → slice_get (changed_at xs i f) n ≡ Some y → (slice_get xs n ≡ Some y) ⊎ ((n ≡ i) × ((x : X) × (slice_get xs i ≡ Some x) × (y ≡ f x)))
  changed_cases xs i n f y is = elim (is_same n i) [
    | inl same ↦ inr (same, changed_from xs i f y (subst (λ k. slice_get (changed_at xs i f) k ≡ Some y) same is))
    | inr other ↦ inl (sym (changed_other xs i n f other) ∙ is)
  ]

-- what is in a list that was made element by element was made of one
pub mapped_from : {X Y : Type 0} → (f : X → Y) (xs : List X) (i : ℕ) (y : Y) → slice_get (map f xs) i ≡ Some y → (x : X) × (slice_get xs i ≡ Some x) × (y ≡ f x)
mapped_from f [] i y is = absurd (none-some y is)
mapped_from f (x ∷ xs) zero y is = (x, refl, same_Some y (f x) (sym is))
mapped_from f (x ∷ xs) (suc i) y is = mapped_from f xs i y is

-- where an element passes the test first, it is there and passes it
pub position_is : {X : Type 0} → (test : X → Bool) (start i : ℕ) (xs : List X) → position_from test start xs ≡ Some i →
    (k : ℕ) × (i ≡ start + k) × ((x : X) × (slice_get xs k ≡ Some x) × (test x ≡ true))
position_is test start i [] is = absurd (none-some i is)
position_is {X} test start i (x ∷ xs) is = by (test x) refl (λ h. position_is test (start + 1) i xs h) is
  where
    Found : ℕ → List X → Type 0
    Found from ys = (k : ℕ) × (i ≡ from + k) × ((y : X) × (slice_get ys k ≡ Some y) × (test y ≡ true))

    by : (b : Bool) → test x ≡ b → (position_from test (start + 1) xs ≡ Some i → (k : ℕ) × (i ≡ start + 1 + k) × ((y : X) × (slice_get xs k ≡ Some y) × (test y ≡ true))) →
        (if b then Some start else position_from test (start + 1) xs) ≡ Some i →
        (k : ℕ) × (i ≡ start + k) × ((y : X) × (slice_get (x ∷ xs) k ≡ Some y) × (test y ≡ true))
    by true passes rest is = (0, start_is (same_Some start i is), (x, refl, passes))
      where
        start_is : start ≡ i → i ≡ start + 0
        start_is h = omega (arith, h)
    by false fails rest is = let found = rest is in (suc found.0, next found.0 found.1, found.2)
      where
        next : (k : ℕ) → i ≡ start + 1 + k → i ≡ start + suc k
        next k h = omega (arith, h)

-- ---- tables

-- A table into which something is put by a key: it goes to the place of the same key, or else to the end.
module _ {K V : Type 0} (eq : K → K → Bool) (exact : (a b : K) → eq a b ≡ true → a ≡ b) (put : List (K × V) → K → V → List (K × V)) (to_none : (k : K) (v : V) → put [] k v ≡ (k, v) ∷ [])
    (to_some : (e : K × V) (es : List (K × V)) (k : K) (v : V) → put (e ∷ es) k v ≡ (if eq k e.0 then (e.0, v) ∷ es else e ∷ put es k v)) where
  -- what is found in the table then was found there before, or was put
  pub put_found : (es : List (K × V)) (k q : K) (v w : V) → lookup (eq q) (put es k v) ≡ Some w → (lookup (eq q) es ≡ Some w) ⊎ ((q ≡ k) × (w ≡ v))
  put_found [] k q v w is = by (eq q k) refl (subst (λ es. lookup (eq q) es ≡ Some w) (to_none k v) is)
    where
      by : (b : Bool) → eq q k ≡ b → (if b then Some v else None) ≡ Some w → (None ≡ Some w) ⊎ ((q ≡ k) × (w ≡ v))
      by true same is = inr (exact q k same, same_Some w v (sym is))
      by false other is = absurd (none-some w is)
  put_found (e ∷ es) k q v w is = by_key (eq k e.0) refl (λ h. put_found es k q v w h) (subst (λ es. lookup (eq q) es ≡ Some w) (to_some e es k v) is)
    where
      by_name : (b : Bool) → (lookup (eq q) (put es k v) ≡ Some w → (lookup (eq q) es ≡ Some w) ⊎ ((q ≡ k) × (w ≡ v))) →
          (if b then Some e.1 else lookup (eq q) (put es k v)) ≡ Some w → ((if b then Some e.1 else lookup (eq q) es) ≡ Some w) ⊎ ((q ≡ k) × (w ≡ v))
      by_name true rest is = inl is
      by_name false rest is = rest is

      by_place : (b : Bool) → eq q e.0 ≡ b → eq k e.0 ≡ true → (if b then Some v else lookup (eq q) es) ≡ Some w → ((if b then Some e.1 else lookup (eq q) es) ≡ Some w) ⊎ ((q ≡ k) × (w ≡ v))
      by_place true same found is = inr (exact q e.0 same ∙ sym (exact k e.0 found), same_Some w v (sym is))
      by_place false other found is = inl is

      by_key : (b : Bool) → eq k e.0 ≡ b → (lookup (eq q) (put es k v) ≡ Some w → (lookup (eq q) es ≡ Some w) ⊎ ((q ≡ k) × (w ≡ v))) →
          lookup (eq q) (if b then (e.0, v) ∷ es else e ∷ put es k v) ≡ Some w → (lookup (eq q) (e ∷ es) ≡ Some w) ⊎ ((q ≡ k) × (w ≡ v))
      by_key true found rest is = by_place (eq q e.0) refl found is
      by_key false other rest is = by_name (eq q e.0) rest is
