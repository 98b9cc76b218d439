-- Lists with one element changed.
use Rattle.std.proofs.Common.{◌≡◌, ℕ, ◌<◌, ◌≤◌, zero, suc, List, [], ◌∷◌, ◌++◌, length, Option, None, Some, take, refl, ap, sym, ◌∙◌, arith}
use Rattle.std.proofs.lemmas.List.{length-set, set-append_left, set-set, set-get_or, take-set}
use Rattle.std.proofs.lemmas.Option.{slice_get_past, get_or_from_slice_get}
use Rattle.std.specs.Option.{option_map_or}
use Rattle.std.specs.Prelude.{slice_get, slice_set}
use Rattle.lk_birth.specs.Births.{changed_at}

-- what was put there last counts
pub set_twice : {X : Type 0} → (xs : List X) (i : ℕ) (a b : X) → slice_set (slice_set xs i a) i b ≡ slice_set xs i b
set_twice xs i a b = set-set xs i a b

-- what is there, put there again
pub set_same : {X : Type 0} → (xs : List X) (i : ℕ) (x : X) → slice_get xs i ≡ Some x → slice_set xs i x ≡ xs
set_same xs i x there = ap (λ y. slice_set xs i y) (sym (get_or_from_slice_get xs i x x there)) ∙ set-get_or xs i x

-- what was there, put back, changes nothing
pub set_back : {X : Type 0} → (xs : List X) (i : ℕ) (a x : X) → slice_get xs i ≡ Some x → slice_set (slice_set xs i a) i x ≡ xs
set_back xs i a x there = set_twice xs i a x ∙ set_same xs i x there

-- what was there, changed
pub set_changed : {X : Type 0} → (xs : List X) (i : ℕ) (a x y : X) (f : X → X) → slice_get xs i ≡ Some x → y ≡ f x → slice_set (slice_set xs i a) i y ≡ changed_at xs i f
set_changed xs i a x y f there is = rw there (rw is (set_twice xs i a (f x)))

-- where nothing is there, nothing is changed
pub changed_past : {X : Type 0} → (xs : List X) (i : ℕ) (f : X → X) → length xs ≤ i → changed_at xs i f ≡ xs
changed_past xs i f past = rw (slice_get_past xs i past) refl

length_by : {X : Type 0} → (xs : List X) (i : ℕ) (f : X → X) (found : Option X) → length (option_map_or (λ x. slice_set xs i (f x)) found xs) ≡ length xs
length_by xs i f None = refl
length_by xs i f (Some x) = length-set xs i (f x)

pub length_changed : {X : Type 0} → (xs : List X) (i : ℕ) (f : X → X) → length (changed_at xs i f) ≡ length xs
length_changed xs i f = length_by xs i f (slice_get xs i)

get_left : {X : Type 0} → (xs ys : List X) (i : ℕ) → i < length xs → slice_get (xs ++ ys) i ≡ slice_get xs i
get_left [] ys i within = grind (arith, within)
get_left (x ∷ xs) ys zero within = refl
get_left (x ∷ xs) ys (suc i) within = get_left xs ys i (omega (arith, within))

append_by : {X : Type 0} → (xs ys : List X) (i : ℕ) (f : X → X) → i < length xs → (found : Option X) →
    option_map_or (λ x. slice_set (xs ++ ys) i (f x)) found (xs ++ ys) ≡ option_map_or (λ x. slice_set xs i (f x)) found xs ++ ys
append_by xs ys i f within None = refl
append_by xs ys i f within (Some x) = set-append_left xs ys i (f x) within

-- an element of the first part is changed there
pub changed_append : {X : Type 0} → (xs ys : List X) (i : ℕ) (f : X → X) → i < length xs → changed_at (xs ++ ys) i f ≡ changed_at xs i f ++ ys
changed_append xs ys i f within = rw (get_left xs ys i within) (append_by xs ys i f within (slice_get xs i))

-- the elements before the one that is put
pub take_set : {X : Type 0} → (xs : List X) (i : ℕ) (a : X) → take i (slice_set xs i a) ≡ take i xs
take_set xs i a = take-set xs i a

-- the elements before those that were put at the end
pub take_front : {X : Type 0} → (xs ys : List X) → take (length xs) (xs ++ ys) ≡ xs
take_front [] ys = refl
take_front (x ∷ xs) ys = ap (λ zs. x ∷ zs) (take_front xs ys)

-- two changes of an element of the first part
pub changed_twice : {X : Type 0} → (xs ys : List X) (i : ℕ) (f g : X → X) → i < length xs → changed_at (changed_at (xs ++ ys) i f) i g ≡ changed_at (changed_at xs i f) i g ++ ys
changed_twice xs ys i f g within = rw (changed_append xs ys i f within) (changed_append (changed_at xs i f) ys i g (rw (length_changed xs i f) within))

-- a change to the same changes nothing
pub unchanged : {X : Type 0} → (xs : List X) (i : ℕ) (x : X) (f : X → X) → slice_get xs i ≡ Some x → f x ≡ x → xs ≡ changed_at xs i f
unchanged xs i x f there same = rw there (rw same (sym (set_same xs i x there)))
