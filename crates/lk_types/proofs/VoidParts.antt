-- Which lists of types may be the Parts of void.
use Rattle.std.proofs.Common.{◌≡◌, ◌∙◌, ◌+◌, ◌++◌, ◌⊎◌, inl, inr, ℕ, zero, suc, Bool, true, false, List, [], ◌∷◌, length, refl, sym, ap, subst, arith, Some, take}
use Rattle.std.specs.List.{slice_get, list_any}
use Rattle.std.specs.Prelude.{◌==◌, ◌||◌, nat_eq}
use Rattle.std.proofs.lemmas.Bool.{eqb-true, false≢true}
use Rattle.std.proofs.lemmas.Bool.Decides.{nat_tests}
use Rattle.std.proofs.lemmas.List.Elements.{All-append, All-cons, All-nil}
use Rattle.std.proofs.lemmas.Option.{none-some, same_Some}
use Rattle.lk_types.specs.Building.{IsPart, ArePartsOf}
use Rattle.lk_types.specs.Table.{Table}
use Rattle.lk_types.proofs.FormEq.{take_more, got_take}
use Rattle.lk_types.proofs.PlaceLemmas.{get-either, single}

-- a number that is found stands at some place, and one that isn't stands nowhere
found : (xs : List ℕ) (x : ℕ) → list_any (λ y. y == x) xs ≡ true → (k : ℕ) × (slice_get xs k ≡ Some x)
found [] x any = absurd (false≢true any)
found (y ∷ xs) x any = of (found xs x) (nat_eq y x) refl
  where
    of : (list_any (λ y. y == x) xs ≡ true → (k : ℕ) × (slice_get xs k ≡ Some x)) → (b : Bool) → nat_eq y x ≡ b → (k : ℕ) × (slice_get (y ∷ xs) k ≡ Some x)
    of later true is = (0, ap Some (eqb-true y x is))
    of later false is = let rest = later (sym (ap (λ b. b || list_any (λ y. y == x) xs) is) ∙ any) in (suc rest.0, rest.1)

not_found : (xs : List ℕ) (x : ℕ) → list_any (λ y. y == x) xs ≡ false → (k : ℕ) → slice_get xs k ≡ Some x → ⊥
not_found [] x any k at = none-some x at
not_found (y ∷ xs) x any k at = of (not_found xs x) (nat_eq y x) refl k at
  where
    of : (list_any (λ y. y == x) xs ≡ false → (k : ℕ) → slice_get xs k ≡ Some x → ⊥) → (b : Bool) → nat_eq y x ≡ b → (k : ℕ) → slice_get (y ∷ xs) k ≡ Some x → ⊥
    of later true is k at = false≢true (sym any ∙ ap (λ b. b || list_any (λ y. y == x) xs) is)
    of later false is zero at = let same = same_Some y x at in let e : nat_eq y x ≡ true = grind (arith, nat_tests, same) in false≢true (sym is ∙ e)
    of later false is (suc k) at = later (sym (ap (λ b. b || list_any (λ y. y == x) xs) is) ∙ any) k at

-- t stands at place i of the first list, or of the list of x behind it
abbrev Either : List ℕ → ℕ → ℕ → ℕ → Type 0
Either xs x i t = (slice_get xs i ≡ Some t) ⊎ ((k : ℕ) × (i ≡ length xs + k) × (slice_get (x ∷ []) k ≡ Some t))

-- one part more
and_part : (table : Table) (xs : List ℕ) (x : ℕ) → ArePartsOf table xs → IsPart table x → list_any (λ y. y == x) xs ≡ false → ArePartsOf table (xs ++ x ∷ [])
and_part table xs x parts part none = record {
  each = All-append (IsPart table) xs (x ∷ []) parts.each (All-cons (IsPart table) x [] part (All-nil (IsPart table)));
  different = λ i j t at bt. of i j t (get-either xs (x ∷ []) i t at) (get-either xs (x ∷ []) j t bt);
}
  where
    of : (i j t : ℕ) → Either xs x i t → Either xs x j t → i ≡ j
    of i j t (inl at) (inl bt) = parts.different i j t at bt
    of i j t (inl at) (inr last) = absurd (not_found xs x none i (at ∙ ap Some (single x last.0 t last.2).1))
    of i j t (inr last) (inl bt) = absurd (not_found xs x none j (bt ∙ ap Some (single x last.0 t last.2).1))
    of i j t (inr last) (inr last') = let p = (single x last.0 t last.2).0 in let q = (single x last'.0 t last'.2).0 in omega (arith, last.1, last'.1, p, q)

pub more_parts : (table : Table) (parts : List ℕ) (k t : ℕ) → slice_get parts k ≡ Some t → ArePartsOf table (take k parts) → IsPart table t → list_any (λ y. y == t) (take k parts) ≡ false →
    ArePartsOf table (take (k + 1) parts)
more_parts table parts k t at ok part none = subst (ArePartsOf table) (take_more parts k t at) (and_part table (take k parts) t ok part none)

pub no_part_twice : (table : Table) (parts : List ℕ) (k t : ℕ) → slice_get parts k ≡ Some t → ArePartsOf table parts → list_any (λ y. y == t) (take k parts) ≡ true → ⊥
no_part_twice table parts k t at ok any =
    let first = found (take k parts) t any in
    let there = got_take parts k first.0 t first.1 in
    let same = ok.different first.0 k t there.1 at in
    omega (arith, there.0, same)
