-- The roots and slots of a source, one part of it after the other.
use Rattle.std.proofs.Common.{arith, ap, sym, subst, ◌∙◌, ◌≡◌, ◌<◌, ◌+◌, ◌++◌, inl, inr, ℕ, zero, suc, List, [], ◌∷◌, length, get_or, drop, slice_get, Bool, true, false, Some, refl, add-one, drop-cons, append_assoc}
use Rattle.std.specs.Prelude.{nat_eq, if◌then◌else◌}
use Rattle.std.specs.List.{Contains}
use Rattle.std.specs.List.Sorted.{IsPermutation}
use Rattle.std.proofs.lemmas.Bool.{and_from, and_parts, cases_lt, eqb-true, eq-eqb, false≢true}
use Rattle.std.proofs.lemmas.List.{get_or_append_left, get_or_push}
use Rattle.std.proofs.lemmas.List.Sorted.{Contains-permutation, IsPermutation-sym}
use Rattle.std.proofs.lemmas.Option.{get_or_from_slice_get, none-some, same_Some}
use Rattle.lk_lower_parts.specs.Tables.{HasMore}
use Rattle.lk_lower_parts.specs.Wanted.{AreAmong, AreDifferent, AreLater, array_in, is_array_of}
use Rattle.lk_types.specs.Table.{Table}
use Rattle.lk_types.specs.declared.c_type.CType.{CType}
use Rattle.lk_types.specs.declared.c_type.CType.TheVariants.{Void, Int, ThreadId, Mutex, Cond, Pointer, Array, Struct, Function, Opaque}

-- ---- types

is_array : (t : ℕ) → is_array_of t (Array t 0) ≡ true
is_array t = and_from (nat_eq t t) (nat_eq 0 0) (eq-eqb t t refl) refl

pub the_array : (t : ℕ) (form : CType) → is_array_of t form ≡ true → form ≡ Array t 0
the_array t Void is = absurd (false≢true is)
the_array t (Int k) is = absurd (false≢true is)
the_array t ThreadId is = absurd (false≢true is)
the_array t Mutex is = absurd (false≢true is)
the_array t Cond is = absurd (false≢true is)
the_array t (Pointer u) is = absurd (false≢true is)
the_array t (Array u n) is =
    let parts = and_parts (nat_eq u t) (nat_eq n 0) is in
    ap (λ v. Array v n) (eqb-true u t parts.0) ∙ ap (Array t) (eqb-true n 0 parts.1)
the_array t (Struct s) is = absurd (false≢true is)
the_array t (Function result params dots) is = absurd (false≢true is)
the_array t (Opaque n) is = absurd (false≢true is)

at_head : (form : CType) (forms : List CType) (t : ℕ) (b : Bool) → is_array_of t form ≡ b → form ≡ Array t 0 → slice_get (form ∷ forms) (if b then 0 else suc (array_in forms t)) ≡ Some (Array t 0)
at_head form forms t true is so = ap Some so
at_head form forms t false is so = absurd (false≢true (sym is ∙ (ap (is_array_of t) so ∙ is_array t)))

behind_head : (form : CType) (forms : List CType) (t : ℕ) (b : Bool) → is_array_of t form ≡ b → slice_get forms (array_in forms t) ≡ Some (Array t 0) → slice_get (form ∷ forms) (if b then 0 else suc (array_in forms t)) ≡ Some (Array t 0)
behind_head form forms t true is there = ap Some (the_array t form is)
behind_head form forms t false is there = there

array_there : (forms : List CType) (t u : ℕ) → slice_get forms u ≡ Some (Array t 0) → slice_get forms (array_in forms t) ≡ Some (Array t 0)
array_there [] t u at = absurd (none-some _ at)
array_there (form ∷ forms) t zero at = at_head form forms t (is_array_of t form) refl (same_Some form (Array t 0) at)
array_there (form ∷ forms) t (suc u) at = behind_head form forms t (is_array_of t form) refl (array_there forms t u at)

-- an array without a size that stands among types stands where it is looked for
pub array_is : (forms : List CType) (t u : ℕ) → AreDifferent forms → slice_get forms u ≡ Some (Array t 0) → u ≡ array_in forms t
array_is forms t u different at = different u (array_in forms t) (Array t 0) at (array_there forms t u at)

kept_at : {A : Type 0} (xs ys : List A) (i : ℕ) (x : A) → slice_get xs i ≡ Some x → slice_get (xs ++ ys) i ≡ Some x
kept_at [] ys i x at = absurd (none-some x at)
kept_at (y ∷ xs) ys zero x at = at
kept_at (y ∷ xs) ys (suc i) x at = kept_at xs ys i x at

pub later_array : (table : Table) (forms : List CType) (t u : ℕ) → AreLater table forms → slice_get table.types u ≡ Some (Array t 0) → u ≡ array_in forms t
later_array table forms t u later at = array_is forms t u later.different (ap (λ all. slice_get all u) later.types ∙ kept_at table.types later.more u (Array t 0) at)

-- types that are later than a table's are later than those of each table before it
pub later_before : (old new : Table) (forms : List CType) → HasMore old new → AreLater new forms → AreLater old forms
later_before old new forms more later = record {
  more = more.more ++ later.more;
  types = later.types ∙ (ap (λ all. all ++ later.more) more.types ∙ append_assoc old.types more.more later.more);
  different = later.different;
}

-- ---- lists

-- some and then others
pub both : {A : Type 0} (old mid new a b : List A) → mid ≡ old ++ a → new ≡ mid ++ b → new ≡ old ++ (a ++ b)
both old mid new a b first then_ = then_ ∙ (ap (λ xs. xs ++ b) first ∙ append_assoc old a b)

pub three : {A : Type 0} (old one two new a b c : List A) → one ≡ old ++ a → two ≡ one ++ b → new ≡ two ++ c → new ≡ old ++ (a ++ (b ++ c))
three old one two new a b c first second third = both old one new a (b ++ c) first (both one two new b c second third)

module _ {A B : Type 0} (g : ℕ → List A → List B) (f : ℕ → A → List B) (of_cons : (e : ℕ) (x : A) (xs : List A) → g e (x ∷ xs) ≡ f e x ++ g (e + 1) xs) (list : List A) where
  -- a loop over a list adds what each element has, by its place
  pub place_more : (i e : ℕ) (x : A) (total old new : List B) → i < length list → x ≡ get_or list i x → total ≡ old ++ g e (drop i list) → new ≡ old ++ f e x → total ≡ new ++ g (e + 1) (drop (i + 1) list)
  place_more i e x total old new within is was put =
      was ∙ ap (λ xs. old ++ g e xs) turn ∙ ap (λ bs. old ++ bs) (of_cons e x (drop (suc i) list)) ∙ sym (append_assoc old (f e x) (g (e + 1) (drop (suc i) list))) ∙
      ap (λ bs. bs ++ g (e + 1) (drop (suc i) list)) (sym put) ∙ ap (λ n. new ++ g (e + 1) (drop n list)) (sym (add-one i))
    where
      turn : drop i list ≡ x ∷ drop (suc i) list
      turn = drop-cons list i x within ∙ ap (λ y. y ∷ drop (suc i) list) (sym is)

-- what is put in order is the same
pub in_order : {A : Type 0} (wanted found sorted : List A) → found ≡ wanted → IsPermutation found sorted → AreAmong wanted sorted
in_order wanted found sorted same moved = record {
  each = λ x there. Contains-permutation found sorted x moved (subst (λ xs. Contains xs x) (sym same) there);
  only = λ x there. subst (λ xs. Contains xs x) same (Contains-permutation sorted found x (IsPermutation-sym found sorted moved) there);
}

module _ {A B : Type 0} (R : A → List B → Type 0) (xs : List A) (i : ℕ) (x : A) (rows more : List (List B)) (row : List B) (as_many : length rows ≡ i) (put : more ≡ rows ++ (row ∷ [])) (is : x ≡ get_or xs i x) (here : R x row) where
  row_at_end : (k : ℕ) (y : A) → k ≡ i → slice_get xs k ≡ Some y → R y (get_or more k [])
  row_at_end k y so at = rw (same, so, put, get_or_push rows row [] i as_many) here
    where
      same : y ≡ x
      same = sym (get_or_from_slice_get xs k y x at) ∙ (ap (λ n. get_or xs n x) so ∙ sym is)

  -- one row more
  pub row_more : ((k : ℕ) (y : A) → k < i → slice_get xs k ≡ Some y → R y (get_or rows k [])) → (k : ℕ) (y : A) → k < i + 1 → slice_get xs k ≡ Some y → R y (get_or more k [])
  row_more was k y within at = elim (cases_lt k i) [
    | inl before ↦ rw (put, get_or_append_left rows (row ∷ []) [] k (omega (arith, before, as_many))) (was k y before at)
    | inr not ↦ row_at_end k y (omega (arith, within, not)) at
  ]
