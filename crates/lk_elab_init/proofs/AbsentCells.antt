-- The cells that are put are exactly the absent ones, by places (C99 6.7.8, 21).
use Rattle.std.proofs.Common.{◌≡◌, ◌∙◌, ◌⊎◌, ◌++◌, ◌<◌, ◌≤◌, ℕ, zero, suc, Bool, true, false, List, [], ◌∷◌, Option, Some, None, length, refl, sym, ap, subst, inl, inr, append_assoc, arith, nat_eq}
use Rattle.std.proofs.lemmas.Bool.{false≢true}
use Rattle.std.proofs.lemmas.Bool.Decides.{nat_tests}
use Rattle.std.proofs.lemmas.List.{append-nil}
use Rattle.std.proofs.lemmas.List.Elements.{Contains-append_right}
use Rattle.std.proofs.lemmas.Option.{none-some, same_Some, slice_get_within}
use Rattle.std.specs.List.{Contains, slice_index_or}
use Rattle.std.specs.Prelude.{⊤, ◌&&◌, nat_lt, slice_get, if◌then◌else◌}
use Rattle.lk_base.specs.declared.cell.CellStep.{CellStep}
use Rattle.lk_base.specs.declared.cell.CellStep.TheVariants.{Field, Index}
use Rattle.lk_typed.specs.Absent.{AreAllAbsent, IsCell, IsPathBefore, IsPlaceBefore, Path, are_alike, cells_named, those_alike}
use Rattle.lk_typed.specs.Absent.IsCell.{scalar as scalar_cell, lock as lock_cell, element as element_cell, member as member_cell}
use Rattle.lk_typed.specs.Absent.IsPathBefore.{earlier_element, later_step}
use Rattle.lk_typed.specs.Absent.IsPathBefore.{earlier_member as member_earlier}
use Rattle.lk_typed.specs.Absent.IsPlaceBefore.{an_element, earlier_member, same_member}
use Rattle.lk_typed.specs.Operators.{is_scalar}
use Rattle.lk_typed.specs.Stands.{IsIn}
use Rattle.lk_typed.specs.Ty.{Ty, Array, Struct, is_array, is_lock, is_struct}
use Rattle.lk_typed.specs.declared.initialiser.AbsentCells.{AbsentCells}
use Rattle.lk_typed.specs.declared.initialiser.LocalPart.{LocalPart}
use Rattle.lk_elab_init.specs.Places.{ArePut, ArePutFrom, IsFirstAbsent, IsPlacePut, Walks, carried, first_cell, next_behind, next_cell, next_step}
use Rattle.lk_elab_init.specs.Places.ArePut.{a_lock, a_scalar, a_struct, an_array, no_elements, no_object}
use Rattle.lk_elab_init.specs.Places.ArePutFrom.{member as member_put, no_more}
use Rattle.lk_elab_init.specs.Places.IsPlacePut.{none as no_absent, some as an_absent}
use Rattle.lk_elab_init.specs.Places.Walks.{goes_on, is_last, stops}
use Rattle.lk_elab_init.specs.Steps.{is_alike_step}
use Rattle.lk_elab_init.specs.declared.advancing.Turn.{Turn}
use Rattle.lk_elab_init.specs.declared.advancing.Turn.TheVariants.{Element, Member}

-- ---- lists

in_from : {A : Type 0} (xs : List A) (x : A) (k : ℕ) → k < length xs → slice_index_or xs k x ≡ x → IsIn x xs
in_from [] x k below is = absurd (omega (arith, below))
in_from (y ∷ xs) x zero below is = inl (sym is)
in_from (y ∷ xs) x (suc k) below is = inr (in_from xs x k (omega (arith, below)) is)

contains_from : {A : Type 0} (xs : List A) (x : A) → IsIn x xs → Contains xs x
contains_from [] x there = absurd there
contains_from (y ∷ xs) x (inl same) = (0, omega arith, sym same)
contains_from (y ∷ xs) x (inr there) = Contains-append_right (y ∷ []) xs x (contains_from xs x there)

get_in : {A : Type 0} (xs : List A) (i : ℕ) (x : A) → slice_get xs i ≡ Some x → IsIn x xs
get_in [] zero x is = absurd (none-some x is)
get_in [] (suc i) x is = absurd (none-some x is)
get_in (y ∷ xs) zero x is = inl (same_Some x y (sym is))
get_in (y ∷ xs) (suc i) x is = inr (get_in xs i x is)

in_get : {A : Type 0} (xs : List A) (x : A) → IsIn x xs → (i : ℕ) × (slice_get xs i ≡ Some x)
in_get [] x there = absurd there
in_get (y ∷ xs) x (inl same) = (0, ap Some (sym same))
in_get (y ∷ xs) x (inr there) = let h = in_get xs x there in (suc h.0, h.1)

in_one : {A : Type 0} (x : A) (xs ys : List A) → IsIn x (xs ++ ys) → IsIn x xs ⊎ IsIn x ys
in_one x [] ys h = inr h
in_one x (y ∷ xs) ys (inl e) = inl (inl e)
in_one x (y ∷ xs) ys (inr h) = elim (in_one x xs ys h) [ inl i ↦ inl (inr i) | inr i ↦ inr i ]

in_left : {A : Type 0} (x : A) (xs ys : List A) → IsIn x xs → IsIn x (xs ++ ys)
in_left x [] ys h = absurd h
in_left x (y ∷ xs) ys (inl e) = inl e
in_left x (y ∷ xs) ys (inr h) = inr (in_left x xs ys h)

in_right : {A : Type 0} (x : A) (xs ys : List A) → IsIn x ys → IsIn x (xs ++ ys)
in_right x [] ys h = h
in_right x (y ∷ xs) ys h = inr (in_right x xs ys h)

split : (j i : ℕ) → j ≤ i → (j < i) ⊎ (j ≡ i)
split zero zero le = inr refl
split zero (suc i) le = inl (omega arith)
split (suc j) zero le = absurd (omega (arith, le))
split (suc j) (suc i) le = elim (split j i (omega (arith, le))) [ inl less ↦ inl (omega (arith, less)) | inr same ↦ inr (ap suc same) ]

-- ---- the cells of a place

pub data Fits : List Turn → Path → Type 0 where
  at_cell : Fits [] []
  of_member : {k : ℕ} {way : List Turn} {path : Path} → Fits way path → Fits (Member k ∷ way) (Field k ∷ path)
  of_element : {n i : ℕ} {way : List Turn} {path : Path} → i < n → Fits way path → Fits (Element n ∷ way) (Index i ∷ path)

first_fits : {way : List Turn} {path : Path} → Fits way path → Fits way (first_cell way)
first_fits at_cell = at_cell
first_fits (of_member f) = of_member (first_fits f)
first_fits (of_element less f) = of_element (omega (arith, less)) (first_fits f)

behind_member : (k : ℕ) (way : List Turn) (o : Option Path) (r : Path) → next_behind (Member k) (Field k) way o ≡ Some r → (c : Path) × (o ≡ Some c) × (r ≡ Field k ∷ c)
behind_member k way (Some c) r is = (c, refl, same_Some r (Field k ∷ c) (sym is))
behind_member k way None r is = absurd (none-some r is)

another_element : (n i : ℕ) (way : List Turn) (b : Bool) (r : Path) → nat_lt (suc i) n ≡ b → carried (if b then Some (Index (suc i)) else None) way ≡ Some r →
    (suc i < n) × (r ≡ Index (suc i) ∷ first_cell way)
another_element n i way true r less is = (grind (arith, nat_tests), same_Some r (Index (suc i) ∷ first_cell way) (sym is))
another_element n i way false r less is = absurd (none-some r is)

behind_element : (n i : ℕ) (way : List Turn) (o : Option Path) (r : Path) → next_behind (Element n) (Index i) way o ≡ Some r →
    ((c : Path) × (o ≡ Some c) × (r ≡ Index i ∷ c)) ⊎ ((o ≡ None) × (suc i < n) × (r ≡ Index (suc i) ∷ first_cell way))
behind_element n i way (Some c) r is = inl (c, refl, same_Some r (Index i ∷ c) (sym is))
behind_element n i way None r is = let h = another_element n i way (nat_lt (suc i) n) r refl is in inr (refl, h.0, h.1)

none_behind : (turn : Turn) (step : CellStep) (way : List Turn) (o : Option Path) → next_behind turn step way o ≡ None → (o ≡ None) × (carried (next_step turn step) way ≡ None)
none_behind turn step way (Some c) is = absurd (none-some (step ∷ c) (sym is))
none_behind turn step way None is = (refl, is)

last_element : (n i : ℕ) (way : List Turn) (b : Bool) → nat_lt (suc i) n ≡ b → carried (if b then Some (Index (suc i)) else None) way ≡ None → n ≤ suc i
last_element n i way true less is = absurd (none-some (Index (suc i) ∷ first_cell way) (sym is))
last_element n i way false less is = grind (arith, nat_tests)

field_before : (k j : ℕ) (p q : Path) → IsPathBefore (Field k ∷ p) (Field j ∷ q) → (k < j) ⊎ ((k ≡ j) × IsPathBefore p q)
field_before k j p q (member_earlier less) = inl less
field_before k j p q (later_step before) = inr (refl, before)

index_before : (i j : ℕ) (p q : Path) → IsPathBefore (Index i ∷ p) (Index j ∷ q) → (i < j) ⊎ ((i ≡ j) × IsPathBefore p q)
index_before i j p q (earlier_element less) = inl less
index_before i j p q (later_step before) = inr (refl, before)

none_before : (q : Path) → IsPathBefore q [] → ⊥
none_before q before = elim before [ ]

next_fits : {way : List Turn} {path : Path} (next : Path) → Fits way path → next_cell way path ≡ Some next → Fits way next
next_fits next at_cell is = absurd (none-some next is)
next_fits next (of_member {k = k} {way = way} {path = path} f) is =
    let h = behind_member k way (next_cell way path) next is in
    subst (Fits (Member k ∷ way)) (sym h.2) (of_member (next_fits h.0 f h.1))
next_fits next (of_element {n = n} {i = i} {way = way} {path = path} less f) is =
    elim (behind_element n i way (next_cell way path) next is) [
      | inl h ↦ subst (Fits (Element n ∷ way)) (sym h.2) (of_element less (next_fits h.0 f h.1))
      | inr h ↦ subst (Fits (Element n ∷ way)) (sym h.2) (of_element h.1 (first_fits f))
    ]

-- no cell of a place is before its first one
first_least : {way : List Turn} {path : Path} → Fits way path → IsPathBefore path (first_cell way) → ⊥
first_least at_cell before = none_before [] before
first_least (of_member {k = k} {way = way} {path = path} f) before =
    elim (field_before k k path (first_cell way) before) [ inl less ↦ omega (arith, less) | inr h ↦ first_least f h.1 ]
first_least (of_element {n = n} {i = i} {way = way} {path = path} less f) before =
    elim (index_before i 0 path (first_cell way) before) [ inl under ↦ omega (arith, under) | inr h ↦ first_least f h.1 ]

abbrev IsUpTo : Path → Path → Type 0
IsUpTo q p = (q ≡ p) ⊎ IsPathBefore q p

behind_step : (step : CellStep) (q p : Path) → IsUpTo q p → IsUpTo (step ∷ q) (step ∷ p)
behind_step step q p (inl same) = inl (ap (λ r. step ∷ r) same)
behind_step step q p (inr before) = inr (later_step before)

-- where there is no next cell all are up to this one
before_last : {way : List Turn} {p q : Path} → Fits way p → Fits way q → next_cell way p ≡ None → IsUpTo q p
before_last at_cell at_cell none = inl refl
before_last (of_member {k = k} {way = way} {path = p} f) (of_member {path = q} g) none =
    behind_step (Field k) q p (before_last f g (none_behind (Member k) (Field k) way (next_cell way p) none).0)
before_last (of_element {n = n} {i = i} {way = way} {path = p} less f) (of_element {i = j} {path = q} below g) none =
    let h = none_behind (Element n) (Index i) way (next_cell way p) none in
    let past = last_element n i way (nat_lt (suc i) n) refl h.1 in
    elim (split j i (omega (arith, past, below))) [
      | inl earlier ↦ inr (earlier_element earlier)
      | inr same ↦ subst (λ m. IsUpTo (Index m ∷ q) (Index i ∷ p)) (sym same) (behind_step (Index i) q p (before_last f g h.0))
    ]

-- what is before the next cell is up to this one
before_next : {way : List Turn} {p q : Path} (next : Path) → Fits way p → Fits way q → next_cell way p ≡ Some next → IsPathBefore q next → IsUpTo q p
before_next next at_cell at_cell is before = absurd (none-some next is)
before_next next (of_member {k = k} {way = way} {path = p} f) (of_member {path = q} g) is before =
    let h = behind_member k way (next_cell way p) next is in
    elim (field_before k k q h.0 (subst (IsPathBefore (Field k ∷ q)) h.2 before)) [
      | inl less ↦ absurd (omega (arith, less))
      | inr later ↦ behind_step (Field k) q p (before_next h.0 f g h.1 later.1)
    ]
before_next next (of_element {n = n} {i = i} {way = way} {path = p} less f) (of_element {i = j} {path = q} below g) is before =
    elim (behind_element n i way (next_cell way p) next is) [
      | inl h ↦ elim (index_before j i q h.0 (subst (IsPathBefore (Index j ∷ q)) h.2 before)) [
        | inl earlier ↦ inr (earlier_element earlier)
        | inr later ↦ subst (λ m. IsUpTo (Index m ∷ q) (Index i ∷ p)) (sym later.0) (behind_step (Index i) q p (before_next h.0 f g h.1 later.1))
      ]
      | inr h ↦ elim (index_before j (suc i) q (first_cell way) (subst (IsPathBefore (Index j ∷ q)) h.2 before)) [
        | inl earlier ↦ elim (split j i (omega (arith, earlier))) [
          | inl under ↦ inr (earlier_element under)
          | inr same ↦ subst (λ m. IsUpTo (Index m ∷ q) (Index i ∷ p)) (sym same) (behind_step (Index i) q p (before_last f g h.0))
        ]
        | inr later ↦ absurd (first_least g later.1)
      ]
    ]

module _ (way : List Turn) (all : List Path) where
  abbrev AreNamedBefore : Path → Type 0
  AreNamedBefore path = (q : Path) → Fits way q → IsPathBefore q path → IsIn q all

  one_further : (cell next : Path) → Fits way cell → IsIn cell all → next_cell way cell ≡ Some next → AreNamedBefore cell → AreNamedBefore next
  one_further cell next f there is named q fits before =
      elim (before_next next f fits is before) [ inl same ↦ subst (λ r. IsIn r all) (sym same) there | inr earlier ↦ named q fits earlier ]

  walk_some : {cell : Path} {named : List Path} {r : Option Path} → Walks way cell named r → (c : Path) → r ≡ Some c → Fits way cell → AreNamedBefore cell →
      ((x : Path) → IsIn x named → IsIn x all) → Fits way c × AreNamedBefore c
  walk_some (stops {cell = cell}) c is fits before sub =
      let same = same_Some cell c is in (subst (Fits way) same fits, subst AreNamedBefore same before)
  walk_some (is_last none) c is fits before sub = absurd (none-some c is)
  walk_some (goes_on {cell = cell} {next = next} next_is walks) c is fits before sub =
      walk_some walks c is (next_fits next fits next_is) (one_further cell next fits (sub cell (inl refl)) next_is before) (λ x there. sub x (inr there))

  walk_none : {cell : Path} {named : List Path} {r : Option Path} → Walks way cell named r → r ≡ None → Fits way cell → AreNamedBefore cell →
      ((x : Path) → IsIn x named → IsIn x all) → (q : Path) → Fits way q → IsIn q all
  walk_none (stops {cell = cell}) is fits before sub q f = absurd (none-some cell (sym is))
  walk_none (is_last {cell = cell} none) is fits before sub q f =
      elim (before_last fits f none) [ inl same ↦ subst (λ r. IsIn r all) (sym same) (sub cell (inl refl)) | inr earlier ↦ before q f earlier ]
  walk_none (goes_on {cell = cell} {next = next} next_is walks) is fits before sub q f =
      walk_none walks is (next_fits next fits next_is) (one_further cell next fits (sub cell (inl refl)) next_is before) (λ x there. sub x (inr there)) q f

-- ---- cells of one place

alike_fits : {way : List Turn} {p q : Path} → Fits way p → Fits way q → are_alike p q ≡ true
alike_fits at_cell at_cell = refl
alike_fits (of_member {k = k} {path = p} f) (of_member {path = q} g) = both_true (nat_eq k k) (are_alike p q) (grind (arith, nat_tests)) (alike_fits f g)
  where
    both_true : (a b : Bool) → a ≡ true → b ≡ true → a && b ≡ true
    both_true a b x y = rw (x, y) refl
alike_fits (of_element f_less f) (of_element g_less g) = alike_fits f g

step_alike : (i j : ℕ) (y : CellStep) (b c : Bool) → b ≡ c → (is_alike_step (Index i) y && b) ≡ (is_alike_step (Index j) y && c)
step_alike i j (Field k) b c same = refl
step_alike i j (Index m) b c same = same

alike_same : {way : List Turn} {p q : Path} → Fits way p → Fits way q → (x : Path) → are_alike p x ≡ are_alike q x
alike_same at_cell at_cell x = refl
alike_same (of_member {k = k} f) (of_member g) [] = refl
alike_same (of_member {k = k} f) (of_member g) (y ∷ ys) = ap (λ b. is_alike_step (Field k) y && b) (alike_same f g ys)
alike_same (of_element {i = i} a f) (of_element {i = j} b g) [] = refl
alike_same (of_element {i = i} {path = p} a f) (of_element {i = j} {path = q} b g) (y ∷ ys) = step_alike i j y (are_alike p ys) (are_alike q ys) (alike_same f g ys)

those_same : {way : List Turn} {p q : Path} → Fits way p → Fits way q → (xs : List Path) → those_alike p xs ≡ those_alike q xs
those_same f g [] = refl
those_same {p = p} {q = q} f g (x ∷ xs) =
    ap (λ b. if b then x ∷ those_alike p xs else those_alike p xs) (alike_same f g x) ∙ ap (λ ys. if are_alike q x then x ∷ ys else ys) (those_same f g xs)

in_those : (p : Path) (xs : List Path) (x : Path) → are_alike p x ≡ true → IsIn x xs → IsIn x (those_alike p xs)
in_those p [] x alike there = absurd there
in_those p (y ∷ ys) x alike (inl same) = subst (λ b. IsIn x (if b then y ∷ those_alike p ys else those_alike p ys)) (sym (ap (are_alike p) (sym same) ∙ alike)) (inl same)
in_those p (y ∷ ys) x alike (inr there) = at (are_alike p y) (in_those p ys x alike there)
  where
    at : (b : Bool) → IsIn x (those_alike p ys) → IsIn x (if b then y ∷ those_alike p ys else those_alike p ys)
    at true h = inr h
    at false h = h

those_in : (p : Path) (xs : List Path) (x : Path) → IsIn x (those_alike p xs) → IsIn x xs
those_in p [] x there = absurd there
those_in p (y ∷ ys) x there = at (are_alike p y) (those_in p ys x) there
  where
    at : (b : Bool) → (IsIn x (those_alike p ys) → IsIn x ys) → IsIn x (if b then y ∷ those_alike p ys else those_alike p ys) → IsIn x (y ∷ ys)
    at true more (inl same) = inl same
    at true more (inr h) = inr (more h)
    at false more h = inr (more h)

-- ---- the first absent cell of a place

pub record IsFirstOf (named : List Path) (way : List Turn) (cells : AbsentCells) : Type 0 where
  pub fits : Fits way cells.first
  pub unnamed : IsIn cells.first named → ⊥
  pub before : (q : Path) → Fits way q → IsPathBefore q cells.first → IsIn q named
  pub those : cells.named ≡ those_alike cells.first named

module _ (named : List Path) (way : List Turn) (some : Fits way (first_cell way)) where
  abbrev those_here : List Path
  those_here = those_alike (first_cell way) named

  first_of : (cell : Path) → IsFirstAbsent way those_here (Some cell) → IsFirstOf named way (record { first = cell; named = those_here })
  first_of cell absent =
      let h = walk_some way those_here absent.walks cell refl some (λ q fits before. absurd (first_least fits before)) (λ x there. there) in
      record {
        fits = h.0;
        unnamed = λ there. absent.unnamed cell refl (in_those (first_cell way) named cell (alike_fits some h.0) there);
        before = λ q fits before. those_in (first_cell way) named q (h.1 q fits before);
        those = those_same some h.0 named;
      }

  all_named : IsFirstAbsent way those_here None → (q : Path) → Fits way q → IsIn q named
  all_named absent q fits = those_in (first_cell way) named q (walk_none way those_here absent.walks refl some (λ q fits before. absurd (first_least fits before)) (λ x there. there) q fits)

first_longer : {path : Path} (way : List Turn) (turn : Turn) → Fits (turn ∷ []) (first_cell (turn ∷ [])) → Fits way path → Fits (way ++ turn ∷ []) (first_cell (way ++ turn ∷ []))
first_longer [] turn one fits = one
first_longer (Member k ∷ way) turn one (of_member f) = of_member (first_longer way turn one f)
first_longer (Element n ∷ way) turn one (of_element less f) = of_element (omega (arith, less)) (first_longer way turn one f)

-- ---- the places of an object

module _ (fields : ℕ → List Ty) where
  pub data IsPlace : Ty → List Turn → Type 0 where
    scalar_place : {t : Ty} → is_scalar t ≡ true → IsPlace t []
    lock_place : {t : Ty} → is_lock t ≡ true → IsPlace t []
    in_element : {t : Ty} {n : ℕ} {way : List Turn} → IsPlace t way → IsPlace (Array t n) (Element n ∷ way)
    in_member : {s k : ℕ} {t : Ty} {way : List Turn} → slice_get (fields s) k ≡ Some t → IsPlace t way → IsPlace (Struct s) (Member k ∷ way)

  cell_fits : {t : Ty} {path : Path} → IsCell fields t path → (way : List Turn) × IsPlace t way × Fits way path
  cell_fits (scalar_cell is) = ([], scalar_place is, at_cell)
  cell_fits (lock_cell is) = ([], lock_place is, at_cell)
  cell_fits (element_cell {n = n} less c) = let h = cell_fits c in (Element n ∷ h.0, in_element h.1, of_element less h.2)
  cell_fits (member_cell {k = k} is c) = let h = cell_fits c in (Member k ∷ h.0, in_member is h.1, of_member h.2)

  fits_cell : {t : Ty} {way : List Turn} {path : Path} → IsPlace t way → Fits way path → IsCell fields t path
  fits_cell (scalar_place is) at_cell = scalar_cell is
  fits_cell (lock_place is) at_cell = lock_cell is
  fits_cell (in_element place) (of_element less f) = element_cell less (fits_cell place f)
  fits_cell (in_member is place) (of_member f) = member_cell is (fits_cell place f)

  scalar_only : {t : Ty} {way : List Turn} → is_scalar t ≡ true → IsPlace t way → way ≡ []
  scalar_only is (scalar_place s) = refl
  scalar_only is (lock_place s) = refl
  scalar_only is (in_element place) = absurd (false≢true is)
  scalar_only is (in_member there place) = absurd (false≢true is)

  lock_only : {t : Ty} {way : List Turn} → is_lock t ≡ true → IsPlace t way → way ≡ []
  lock_only is (scalar_place s) = refl
  lock_only is (lock_place s) = refl
  lock_only is (in_element place) = absurd (false≢true is)
  lock_only is (in_member there place) = absurd (false≢true is)

-- ---- lists in the order of places

abbrev Rises : List AbsentCells → Type 0
Rises [] = ⊤
Rises (c ∷ cs) = ((d : AbsentCells) → IsIn d cs → IsPlaceBefore c.first d.first) × Rises cs

rises_then : (xs ys : List AbsentCells) → Rises xs → Rises ys → ((c d : AbsentCells) → IsIn c xs → IsIn d ys → IsPlaceBefore c.first d.first) → Rises (xs ++ ys)
rises_then [] ys x y between = y
rises_then (c ∷ cs) ys x y between = (
  λ d there. elim (in_one d cs ys there) [ inl h ↦ x.0 d h | inr h ↦ between c d (inl refl) h ],
  rises_then cs ys x.1 y (λ a b in_a in_b. between a b (inr in_a) in_b),
)

rises_at : (xs : List AbsentCells) → Rises xs → (i j : ℕ) (a b : AbsentCells) → i < j → slice_get xs i ≡ Some a → slice_get xs j ≡ Some b → IsPlaceBefore a.first b.first
rises_at [] x zero j a b less at_a at_b = absurd (none-some a at_a)
rises_at [] x (suc i) j a b less at_a at_b = absurd (none-some a at_a)
rises_at (c ∷ cs) x zero zero a b less at_a at_b = absurd (omega (arith, less))
rises_at (c ∷ cs) x zero (suc j) a b less at_a at_b = subst (λ (d : AbsentCells). IsPlaceBefore d.first b.first) (same_Some c a at_a) (x.0 b (get_in cs j b at_b))
rises_at (c ∷ cs) x (suc i) zero a b less at_a at_b = absurd (omega (arith, less))
rises_at (c ∷ cs) x (suc i) (suc j) a b less at_a at_b = rises_at cs x.1 i j a b (omega (arith, less)) at_a at_b

place_before : (way : List Turn) (k j : ℕ) (u v : List Turn) (p q : Path) → k < j → Fits (way ++ Member k ∷ u) p → Fits (way ++ Member j ∷ v) q → IsPlaceBefore p q
place_before [] k j u v _ _ less (of_member f) (of_member g) = earlier_member less
place_before (Member m ∷ way) k j u v _ _ less (of_member {path = p} f) (of_member {path = q} g) = same_member (place_before way k j u v p q less f g)
place_before (Element n ∷ way) k j u v _ _ less (of_element {path = p} a f) (of_element {path = q} b g) = an_element (place_before way k j u v p q less f g)

-- ---- what is put of a part

-- of the places behind a way of which this holds those with absent cells are there, in their order
pub record ArePlaces (named : List Path) (way : List Turn) (Place : List Turn → Type 0) (absent : List AbsentCells) : Type 0 where
  pub each : (cells : AbsentCells) → IsIn cells absent → (u : List Turn) × Place u × IsFirstOf named (way ++ u) cells
  pub all : (u : List Turn) → Place u → (q : Path) → Fits (way ++ u) q → (IsIn q named → ⊥) → (cells : AbsentCells) × IsIn cells absent × Fits (way ++ u) cells.first
  pub rises : Rises absent

module _ (fields : ℕ → List Ty) (named : List Path) where
  place_says : (way : List Turn) (Place : List Turn → Type 0) (absent : List AbsentCells) → Fits way (first_cell way) → Place [] → ((u : List Turn) → Place u → u ≡ []) →
      IsPlacePut named way absent → ArePlaces named way Place absent
  place_says way Place _ some here only (an_absent {cell = cell} is) = record {
    each = λ cells there. elim there [
      | inl same ↦ ([], here, subst (λ w. IsFirstOf named w cells) (sym (append-nil way)) (subst (IsFirstOf named way) (sym same) (first_of named way some cell is)))
      | inr none ↦ absurd none
    ];
    all = λ u place q fits absent. (
      record { first = cell; named = those_alike (first_cell way) named },
      inl refl,
      subst (λ v. Fits (way ++ v) cell) (sym (only u place)) (subst (λ w. Fits w cell) (sym (append-nil way)) (first_of named way some cell is).fits),
    );
    rises = (λ d none. absurd none, tt);
  }
  place_says way Place _ some here only (no_absent is) = record {
    each = λ cells none. absurd none;
    all = λ u place q fits absent. absurd (absent (all_named named way some is q (subst (λ w. Fits w q) (append-nil way) (subst (λ v. Fits (way ++ v) q) (only u place) fits))));
    rises = tt;
  }

  -- of the members from the member k on
  abbrev IsPlaceFrom : List Ty → ℕ → List Turn → Type 0
  IsPlaceFrom ts k u = (j : ℕ) × (t : Ty) × (v : List Turn) × (k ≤ j) × (slice_get ts j ≡ Some t) × IsPlace fields t v × (u ≡ Member j ∷ v)

  behind_turn : (way v : List Turn) (turn : Turn) → (way ++ turn ∷ []) ++ v ≡ way ++ turn ∷ v
  behind_turn way v turn = append_assoc way (turn ∷ []) v

  array_says : (way : List Turn) (t : Ty) (n : ℕ) (absent : List AbsentCells) → ArePlaces named (way ++ Element n ∷ []) (IsPlace fields t) absent → ArePlaces named way (IsPlace fields (Array t n)) absent
  array_says way t n absent says = record {
    each = λ cells there. let h = says.each cells there in (Element n ∷ h.0, in_element h.1, subst (λ w. IsFirstOf named w cells) (behind_turn way h.0 (Element n)) h.2);
    all = λ u place q fits unnamed. inside u place q fits unnamed;
    rises = says.rises;
  }
    where
      inside : (u : List Turn) → IsPlace fields (Array t n) u → (q : Path) → Fits (way ++ u) q → (IsIn q named → ⊥) → (cells : AbsentCells) × IsIn cells absent × Fits (way ++ u) cells.first
      inside _ (scalar_place is) q fits unnamed = absurd (false≢true is)
      inside _ (lock_place is) q fits unnamed = absurd (false≢true is)
      inside _ (in_element {way = v} place) q fits unnamed =
          let h = says.all v place q (subst (λ w. Fits w q) (sym (behind_turn way v (Element n))) fits) unnamed in
          (h.0, h.1, subst (λ w. Fits w h.0.first) (behind_turn way v (Element n)) h.2)

  empty_says : (way : List Turn) (t : Ty) → ArePlaces named way (IsPlace fields (Array t 0)) []
  empty_says way t = record { each = λ cells none. absurd none; all = λ u place q fits unnamed. absurd (inside way u place q fits); rises = tt }
    where
      none_fits : (w u : List Turn) (q : Path) → Fits (w ++ Element 0 ∷ u) q → ⊥
      none_fits [] u _ (of_element less f) = omega (arith, less)
      none_fits (Member k ∷ w) u _ (of_member {path = p} f) = none_fits w u p f
      none_fits (Element n ∷ w) u _ (of_element {path = p} less f) = none_fits w u p f

      inside : (w u : List Turn) → IsPlace fields (Array t 0) u → (q : Path) → Fits (w ++ u) q → ⊥
      inside w _ (scalar_place is) q fits = false≢true is
      inside w _ (lock_place is) q fits = false≢true is
      inside w _ (in_element {way = v} place) q fits = none_fits w v q fits

  struct_says : (way : List Turn) (s : ℕ) (absent : List AbsentCells) → ArePlaces named way (IsPlaceFrom (fields s) 0) absent → ArePlaces named way (IsPlace fields (Struct s)) absent
  struct_says way s absent says = record {
    each = λ cells there. let h = says.each cells there in let p = h.1 in (h.0, subst (IsPlace fields (Struct s)) (sym p.6) (in_member p.4 p.5), h.2);
    all = λ u place q fits unnamed. says.all u (inside u place) q fits unnamed;
    rises = says.rises;
  }
    where
      inside : (u : List Turn) → IsPlace fields (Struct s) u → IsPlaceFrom (fields s) 0 u
      inside _ (scalar_place is) = absurd (false≢true is)
      inside _ (lock_place is) = absurd (false≢true is)
      inside _ (in_member {k = k} {t = t} {way = v} is place) = (k, t, v, omega arith, is, place, refl)

  past_says : (way : List Turn) (ts : List Ty) (k : ℕ) → length ts ≤ k → ArePlaces named way (IsPlaceFrom ts k) []
  past_says way ts k past = record {
    each = λ cells none. absurd none;
    all = λ u place q fits unnamed. let within = slice_get_within ts place.0 place.1 place.4 in let from = place.3 in absurd (omega (arith, past, within, from));
    rises = tt;
  }

  member_says : (way : List Turn) (ts : List Ty) (k : ℕ) (t : Ty) (absent others : List AbsentCells) → slice_get ts k ≡ Some t → ArePlaces named (way ++ Member k ∷ []) (IsPlace fields t) absent →
      ArePlaces named way (IsPlaceFrom ts (suc k)) others → ArePlaces named way (IsPlaceFrom ts k) (absent ++ others)
  member_says way ts k t absent others is one more = record {
    each = λ cells there. elim (in_one cells absent others there) [
      | inl h ↦ let e = one.each cells h in (Member k ∷ e.0, (k, t, e.0, omega arith, is, e.1, refl), subst (λ w. IsFirstOf named w cells) (behind_turn way e.0 (Member k)) e.2)
      | inr h ↦ let e = more.each cells h in let p = e.1 in let from = p.3 in (e.0, (p.0, p.1, p.2, omega (arith, from), p.4, p.5, p.6), e.2)
    ];
    all = λ u place q fits unnamed. inside u place q fits unnamed;
    rises = rises_then absent others one.rises more.rises (λ c d in_c in_d.
        let a = one.each c in_c in
        let b = more.each d in_d in
        let later = b.1.3 in
        place_before way k b.1.0 a.0 b.1.2 c.first d.first (omega (arith, later)) (subst (λ w. Fits w c.first) (behind_turn way a.0 (Member k)) a.2.fits)
        (subst (λ u. Fits (way ++ u) d.first) b.1.6 b.2.fits));
  }
    where
      inside : (u : List Turn) → IsPlaceFrom ts k u → (q : Path) → Fits (way ++ u) q → (IsIn q named → ⊥) → (cells : AbsentCells) × IsIn cells (absent ++ others) × Fits (way ++ u) cells.first
      inside u place q fits unnamed = elim (split k place.0 place.3) [
        | inl later ↦ let h = more.all u (place.0, place.1, place.2, omega (arith, later), place.4, place.5, place.6) q fits unnamed in (h.0, in_right h.0 absent others h.1, h.2)
        | inr same ↦
            let type : t ≡ place.1 = same_Some t place.1 (sym is ∙ (ap (slice_get ts) same ∙ place.4)) in
            let way_is : u ≡ Member k ∷ place.2 = place.6 ∙ ap (λ j. Member j ∷ place.2) (sym same) in
            let longer = behind_turn way place.2 (Member k) in
            let h = one.all place.2 (subst (λ t. IsPlace fields t place.2) (sym type) place.5) q (subst (λ w. Fits w q) (sym longer) (subst (λ u. Fits (way ++ u) q) way_is fits)) unnamed in
            (h.0, in_left h.0 absent others h.1, subst (λ u. Fits (way ++ u) h.0.first) (sym way_is) (subst (λ w. Fits w h.0.first) longer h.2))
      ]

  no_places : (way : List Turn) (t : Ty) → is_scalar t ≡ false → is_lock t ≡ false → is_array t ≡ false → is_struct t ≡ false → ArePlaces named way (IsPlace fields t) []
  no_places way t scalar lock array struct = record { each = λ cells none. absurd none; all = λ u place q fits unnamed. absurd (inside t u scalar lock array struct place); rises = tt }
    where
      inside : (t : Ty) (u : List Turn) → is_scalar t ≡ false → is_lock t ≡ false → is_array t ≡ false → is_struct t ≡ false → IsPlace fields t u → ⊥
      inside t _ scalar lock array struct (scalar_place is) = false≢true (sym scalar ∙ is)
      inside t _ scalar lock array struct (lock_place is) = false≢true (sym lock ∙ is)
      inside _ _ scalar lock array struct (in_element place) = false≢true (sym array)
      inside _ _ scalar lock array struct (in_member is place) = false≢true (sym struct)

  mutual
    are_places : {way : List Turn} {t : Ty} {absent : List AbsentCells} → ArePut fields named way t absent → Fits way (first_cell way) → ArePlaces named way (IsPlace fields t) absent
    are_places (a_scalar {way = way} {t = t} {absent = absent} is put) some = place_says way (IsPlace fields t) absent some (scalar_place is) (λ u place. scalar_only fields is place) put
    are_places (a_lock {way = way} {t = t} {absent = absent} is put) some = place_says way (IsPlace fields t) absent some (lock_place is) (λ u place. lock_only fields is place) put
    are_places (an_array {way = way} {t = t} {n = n} {absent = absent} less put) some =
        array_says way t n absent (are_places put (first_longer way (Element n) (of_element less at_cell) some))
    are_places (no_elements {way = way} {t = t}) some = empty_says way t
    are_places (a_struct {way = way} {s = s} {absent = absent} put) some = struct_says way s absent (are_places_from put some)
    are_places (no_object {way = way} {t = t} scalar lock array struct) some = no_places way t scalar lock array struct

    are_places_from : {way : List Turn} {ts : List Ty} {k : ℕ} {absent : List AbsentCells} → ArePutFrom fields named way ts k absent → Fits way (first_cell way) →
        ArePlaces named way (IsPlaceFrom ts k) absent
    are_places_from (no_more {way = way} {ts = ts} {k = k} past) some = past_says way ts k past
    are_places_from (member_put {way = way} {ts = ts} {k = k} {t = t} {absent = absent} {others = others} is put more) some =
        member_says way ts k t absent others is (are_places put (first_longer way (Member k) (of_member at_cell) some)) (are_places_from more some)

-- ---- all of an object

module _ (fields : ℕ → List Ty) where
  same_place : {t : Ty} {u v : List Turn} {p q : Path} → IsPlace fields t u → IsPlace fields t v → Fits u p → Fits v q → are_alike p q ≡ true → u ≡ v
  same_place (scalar_place is) b at_cell g alike = sym (scalar_only fields is b)
  same_place (lock_place is) b at_cell g alike = sym (lock_only fields is b)
  same_place (in_element a) (scalar_place is) f g alike = absurd (false≢true is)
  same_place (in_element a) (lock_place is) f g alike = absurd (false≢true is)
  same_place (in_element {n = n} a) (in_element b) (of_element less f) (of_element under g) alike = ap (λ w. Element n ∷ w) (same_place a b f g alike)
  same_place (in_member is a) (scalar_place at) f g alike = absurd (false≢true at)
  same_place (in_member is a) (lock_place at) f g alike = absurd (false≢true at)
  same_place (in_member {s = s} {k = k} {t = t} {way = u} is a) (in_member {k = j} {t = t'} {way = v} at b) (of_member {path = p} f) (of_member {path = q} g) alike =
      let parts = and_parts (nat_eq k j) (are_alike p q) alike in
      let number : k ≡ j = same_number k j parts.0 in
      let type : t' ≡ t = same_Some t' t (sym at ∙ (ap (slice_get (fields s)) (sym number) ∙ is)) in
      ap (λ w. Member k ∷ w) (same_place a (subst (λ t. IsPlace fields t v) type b) f g parts.1) ∙ ap (λ n. Member n ∷ v) number
    where
      and_parts : (a b : Bool) → a && b ≡ true → (a ≡ true) × (b ≡ true)
      and_parts true b is = (refl, is)
      and_parts false b is = absurd (false≢true is)

      same_number : (m n : ℕ) → nat_eq m n ≡ true → m ≡ n
      same_number m n is = grind (arith, nat_tests)

  pub all_absent : (t : Ty) (parts : List LocalPart) (named : List Path) (absent : List AbsentCells) → cells_named parts ≡ named → ArePut fields named [] t absent → AreAllAbsent fields t parts absent
  all_absent t parts named absent named_is put =
      let says = are_places fields named put at_cell in
      let unnamed = λ (q : Path) (none : Contains (cells_named parts) q → ⊥) (there : IsIn q named). none (contains_from (cells_named parts) q (subst (IsIn q) (sym named_is) there)) in
      record {
        each = λ i cells at.
            let e = says.each cells (get_in absent i cells at) in
            let first = e.2 in
            record {
              absent = record {
                cell = fits_cell fields e.1 first.fits;
                unnamed = λ there. first.unnamed (subst (IsIn cells.first) named_is (in_from (cells_named parts) cells.first there.0 there.1 there.2));
              };
              first = λ path is alike before.
                  let c = cell_fits fields is.cell in
                  let same = same_place e.1 c.1 first.fits c.2 alike in
                  unnamed path is.unnamed (first.before path (subst (λ u. Fits u path) (sym same) c.2) before);
              named = first.those ∙ ap (those_alike cells.first) (sym named_is);
            };
        all = λ path is.
            let c = cell_fits fields is.cell in
            let h = says.all c.0 c.1 path c.2 (unnamed path is.unnamed) in
            let at = in_get absent h.0 h.1 in
            (at.0, h.0, at.1, alike_fits h.2 c.2);
        in_order = rises_at absent says.rises;
      }
