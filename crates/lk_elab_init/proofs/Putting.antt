-- Cells of places, where they are put one after the other.
use Rattle.std.proofs.Common.{◌≡◌, ◌∙◌, ◌⊎◌, ◌++◌, ◌+◌, ◌<◌, ◌≤◌, ℕ, zero, suc, List, [], ◌∷◌, Option, Some, None, length, get_or, refl, sym, ap, subst, inl, inr, append_assoc, arith, drop, true, false, Bool, Result, Ok, Err}
use Rattle.std.proofs.lemmas.List.{append-nil}
use Rattle.std.proofs.lemmas.Option.{same_Some}
use Rattle.std.specs.Prelude.{IfOk, OnOk, slice_get}
use Rattle.lk_base.specs.declared.cell.CellStep.TheVariants.{Index}
use Rattle.lk_base.specs.declared.kind.Kind.{Kind}
use Rattle.lk_types.specs.declared.c_type.CType.{CType}
use Rattle.lk_types.specs.declared.c_type.CType.TheVariants as form
use Rattle.lk_typed.specs.Absent.{Path, those_alike}
use Rattle.lk_typed.specs.Operators.{is_scalar}
use Rattle.lk_typed.specs.Stands.{IsIn}
use Rattle.lk_typed.specs.Meaning.{tree_of}
use Rattle.lk_typed.specs.Ty.{Ty, Void, Int, ThreadId, Mutex, Cond, Pointer, Array, Struct, Opaque, is_array, is_lock, is_struct}
use Rattle.lk_typed.specs.declared.initialiser.AbsentCells.{AbsentCells}
use Rattle.lk_elab_init.specs.Cells.{cells_of_text}
use Rattle.lk_elab_init.specs.Giving.{Puts}
use Rattle.lk_elab_init.specs.Places.{ArePut, ArePutFrom, IsFirstAbsent, IsPlacePut, Walks, first_cell, next_cell}
use Rattle.lk_elab_init.specs.Places.ArePut.{a_lock, a_scalar, a_struct, an_array, no_elements, no_object}
use Rattle.lk_elab_init.specs.Places.ArePutFrom.{no_more, member}
use Rattle.lk_elab_init.specs.Places.IsPlacePut.{none as no_absent, some as an_absent}
use Rattle.lk_elab_init.specs.Places.Walks.{goes_on, is_last, stops}
use Rattle.lk_elab_init.specs.declared.advancing.Turn.{Turn}
use Rattle.lk_elab_init.specs.declared.advancing.Turn.TheVariants.{Element, Member}

-- ---- lists

-- what one more gives is put, where `gives` has what the others give
pub put_one_more : {A : Type 0} (old now all one rest left : List A) → now ≡ old ++ one → left ≡ one ++ rest → old ++ left ≡ all → now ++ rest ≡ all
put_one_more old now all one rest left now_is left_is before =
    ap (λ xs. xs ++ rest) now_is ∙ (append_assoc old one rest ∙ (ap (λ xs. old ++ xs) (sym left_is) ∙ before))

pub in_at : {A : Type 0} (xs : List A) (k : ℕ) (x y : A) → k < length xs → y ≡ get_or xs k y → x ≡ y → IsIn x xs
in_at [] k x y below is same = absurd (omega (arith, below))
in_at (z ∷ xs) zero x y below is same = inl (same ∙ is)
in_at (z ∷ xs) (suc k) x y below is same = inr (in_at xs k x y (omega (arith, below)) is same)

-- ---- the cells of a place

pub walks_on : (way : List Turn) (cell other next : Path) (first : Path) (named left rest : List Path) → left ≡ other ∷ rest → other ≡ cell → next_cell way cell ≡ Some next →
    ((r : Option Path) → Walks way cell left r → Walks way first named r) → (r : Option Path) → Walks way next rest r → Walks way first named r
walks_on way cell other next first named left rest left_is same next_is before r walks =
    before r (subst (λ cells. Walks way cell cells r) (sym (left_is ∙ ap (λ o. o ∷ rest) same)) (goes_on next_is walks))

pub walks_to_last : (way : List Turn) (cell other : Path) (first : Path) (named left rest : List Path) → left ≡ other ∷ rest → other ≡ cell → next_cell way cell ≡ None →
    ((r : Option Path) → Walks way cell left r → Walks way first named r) → Walks way first named None
walks_to_last way cell other first named left rest left_is same none before =
    before None (subst (λ cells. Walks way cell cells None) (sym (left_is ∙ ap (λ o. o ∷ rest) same)) (is_last none))

pub absent_here : (way : List Turn) (cell : Path) (named left : List Path) (r : Option Path) → r ≡ Some cell → (IsIn cell named → ⊥) →
    ((r : Option Path) → Walks way cell left r → Walks way (first_cell way) named r) → IsFirstAbsent way named r
absent_here way cell named left r is unnamed before = record {
  walks = before r (subst (λ o. Walks way cell left o) (sym is) stops);
  unnamed = λ c same there. unnamed (subst (λ x. IsIn x named) (same_Some c cell (sym same ∙ is)) there);
}

pub if_both : {T E : Type 0} (P : T → Type 0) (Q : Type 0) (r : Result T E) → IfOk r P → OnOk r Q → IfOk r (λ x. P x × Q)
if_both P Q (Ok x) p q = (p, q)
if_both P Q (Err e) p q = tt

text_behind : (path : Path) (bytes : List ℕ) (k i : ℕ) → k < length bytes → cells_of_text path i (drop k bytes) ≡ (path ++ Index i ∷ []) ∷ cells_of_text path (suc i) (drop (suc k) bytes)
text_behind path [] k i below = absurd (omega (arith, below))
text_behind path (b ∷ bs) zero i below = refl
text_behind path (b ∷ bs) (suc k) i below = text_behind path bs k i (omega (arith, below))

pub text_left : (path : Path) (bytes : List ℕ) (k : ℕ) → k < length bytes → cells_of_text path k (drop k bytes) ≡ (path ++ Index k ∷ []) ∷ cells_of_text path (k + 1) (drop (k + 1) bytes)
text_left path bytes k below =
    let next : suc k ≡ k + 1 = omega arith in
    text_behind path bytes k k below ∙ ap (λ n. (path ++ Index k ∷ []) ∷ cells_of_text path n (drop n bytes)) next

-- ---- the cells of a place that are put

module _ (named : List Path) (way : List Turn) (those : List Path) (those_is : those ≡ those_alike (first_cell way) named) where
  pub place_put : (copy : List Path) (r : Option Path) (first : Path) (old new : List AbsentCells) → copy ≡ those → r ≡ Some first → IsFirstAbsent way those r →
      new ≡ old ++ record { first = first; named = copy } ∷ [] → Puts old new (IsPlacePut named way)
  place_put copy r first old new copy_is is absent new_is = (
    record { first = first; named = those_alike (first_cell way) named } ∷ [],
    new_is ∙ ap (λ (cells : List Path). old ++ record { first = first; named = cells } ∷ []) (copy_is ∙ those_is),
    an_absent (subst (λ cells. IsFirstAbsent way cells (Some first)) those_is (subst (IsFirstAbsent way those) is absent)),
  )

  pub no_place_put : (r : Option Path) (old : List AbsentCells) → r ≡ None → IsFirstAbsent way those r → Puts old old (IsPlacePut named way)
  no_place_put r old is absent = ([], sym (append-nil old), no_absent (subst (λ cells. IsFirstAbsent way cells None) those_is (subst (IsFirstAbsent way those) is absent)))

-- ---- the members of a struct

abbrev pub AreMembersPut : (ℕ → List Ty) → List Path → List Turn → List Ty → ℕ → List AbsentCells → Type 0
AreMembersPut fields named way ts k added = (rest : List AbsentCells) → ArePutFrom fields named way ts k rest → ArePutFrom fields named way ts 0 (added ++ rest)

module _ (fields : ℕ → List Ty) (named : List Path) (way : List Turn) (ts : List Ty) where
  pub no_members_put : (old : List AbsentCells) → Puts old old (AreMembersPut fields named way ts 0)
  no_members_put old = ([], sym (append-nil old), λ rest are. are)

  pub member_put : (old mid new : List AbsentCells) (k j : ℕ) (t : Ty) (inner : List Turn) → j ≡ suc k → slice_get ts k ≡ Some t → inner ≡ way ++ Member k ∷ [] →
      Puts old mid (AreMembersPut fields named way ts k) → Puts mid new (ArePut fields named inner t) → Puts old new (AreMembersPut fields named way ts j)
  member_put old mid new k j t inner next there inner_is before one = (
    before.0 ++ one.0,
    one.1 ∙ (ap (λ xs. xs ++ one.0) before.1 ∙ append_assoc old before.0 one.0),
    λ rest are. subst (ArePutFrom fields named way ts 0) (sym (append_assoc before.0 one.0 rest))
        (before.2 (one.0 ++ rest) (member there (subst (λ w. ArePut fields named w t one.0) inner_is one.2) (subst (λ n. ArePutFrom fields named way ts n rest) next are))),
  )

  pub all_members_put : (s : ℕ) (old new : List AbsentCells) (k : ℕ) (t : Ty) → t ≡ Struct s → ts ≡ fields s → length ts ≤ k → Puts old new (AreMembersPut fields named way ts k) →
      Puts old new (ArePut fields named way t)
  all_members_put s old new k t is ts_is past before = (
    before.0,
    before.1,
    subst (λ u. ArePut fields named way u before.0) (sym is)
        (a_struct (subst (λ us. ArePutFrom fields named way us 0 before.0) ts_is (subst (ArePutFrom fields named way ts 0) (append-nil before.0) (before.2 [] (no_more past))))),
  )

-- ---- by the form of a type

module _ (fields : ℕ → List Ty) (named : List Path) (way : List Turn) (old new : List AbsentCells) (t : Ty) where
  pub scalar_put : (u : Ty) → t ≡ u → is_scalar u ≡ true → Puts old new (IsPlacePut named way) → Puts old new (ArePut fields named way t)
  scalar_put u is scalar put = (put.0, put.1, subst (λ u. ArePut fields named way u put.0) (sym is) (a_scalar scalar put.2))

  pub lock_put : (u : Ty) → t ≡ u → is_lock u ≡ true → Puts old new (IsPlacePut named way) → Puts old new (ArePut fields named way t)
  lock_put u is lock put = (put.0, put.1, subst (λ u. ArePut fields named way u put.0) (sym is) (a_lock lock put.2))

  pub array_put : (u : Ty) (n : ℕ) (inner : List Turn) → t ≡ Array u n → 0 < n → inner ≡ way ++ Element n ∷ [] → Puts old new (ArePut fields named inner u) → Puts old new (ArePut fields named way t)
  array_put u n inner is some inner_is put = (put.0, put.1, subst (λ u. ArePut fields named way u put.0) (sym is) (an_array some (subst (λ w. ArePut fields named w u put.0) inner_is put.2)))

  pub empty_put : (u : Ty) (n : ℕ) → t ≡ Array u n → n ≡ 0 → new ≡ old → Puts old new (ArePut fields named way t)
  empty_put u n is empty same = ([], same ∙ sym (append-nil old), subst (λ u. ArePut fields named way u []) (sym (is ∙ ap (Array u) empty)) no_elements)

  pub nothing_put : (u : Ty) → t ≡ u → is_scalar u ≡ false → is_lock u ≡ false → is_array u ≡ false → is_struct u ≡ false → new ≡ old → Puts old new (ArePut fields named way t)
  nothing_put u is scalar lock array struct same = ([], same ∙ sym (append-nil old), subst (λ u. ArePut fields named way u []) (sym is) (no_object scalar lock array struct))

module _ (fields : ℕ → List Ty) (named : List Path) (way : List Turn) (m : ℕ → Ty) (t : Ty) (f : CType) (is : t ≡ tree_of m f) where
  pub nothing_by : (f ≡ form.Void) ⊎ (((r : ℕ) × (ps : List ℕ) × (dots : Bool) × (f ≡ form.Function r ps dots)) ⊎ ((n : ℕ) × (f ≡ form.Opaque n))) → (old : List AbsentCells) →
      Puts old old (ArePut fields named way t)
  nothing_by (inl e) old = nothing_put fields named way old old t Void (is ∙ ap (tree_of m) e) refl refl refl refl refl
  nothing_by (inr (inl e)) old = nothing_put fields named way old old t (tree_of m (form.Function e.0 e.1 e.2)) (is ∙ ap (tree_of m) e.3) refl refl refl refl refl
  nothing_by (inr (inr e)) old = nothing_put fields named way old old t (Opaque e.0) (is ∙ ap (tree_of m) e.1) refl refl refl refl refl

  pub cell_by : ((k : Kind) × (f ≡ form.Int k)) ⊎ ((f ≡ form.ThreadId) ⊎ (((u : ℕ) × (f ≡ form.Pointer u)) ⊎ ((f ≡ form.Mutex) ⊎ (f ≡ form.Cond)))) → (old new : List AbsentCells) →
      Puts old new (IsPlacePut named way) → Puts old new (ArePut fields named way t)
  cell_by (inl e) old new put = scalar_put fields named way old new t (Int e.0) (is ∙ ap (tree_of m) e.1) refl put
  cell_by (inr (inl e)) old new put = scalar_put fields named way old new t ThreadId (is ∙ ap (tree_of m) e) refl put
  cell_by (inr (inr (inl e))) old new put = scalar_put fields named way old new t (Pointer (m e.0)) (is ∙ ap (tree_of m) e.1) refl put
  cell_by (inr (inr (inr (inl e)))) old new put = lock_put fields named way old new t Mutex (is ∙ ap (tree_of m) e) refl put
  cell_by (inr (inr (inr (inr e)))) old new put = lock_put fields named way old new t Cond (is ∙ ap (tree_of m) e) refl put
