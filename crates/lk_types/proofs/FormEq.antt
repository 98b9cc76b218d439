-- `==` on forms says whether they are the same, and what that tells of a map with forms as keys.
use Rattle.std.proofs.Common.{◌≡◌, ◌∙◌, ◌++◌, ◌∷◌, ◌+◌, [], ℕ, zero, suc, Bool, true, false, List, Option, Some, None, refl, sym, ap, subst, rules, take, arith, ◌<◌}
use Rattle.std.proofs.lemmas.Bool.{false≢true}
use Rattle.std.proofs.lemmas.Map.Entries.{place_from_lookup, lookup_head, lookup_tail}
use Rattle.std.proofs.lemmas.Map.Keys.{IsDistinct-head, IsDistinct-tail}
use Rattle.std.proofs.lemmas.Map.Made.{lookup_key_passes}
use Rattle.std.proofs.lemmas.Option.{none-some, same_Some}
use Rattle.std.specs.Cmp.{IsEquivalence}
use Rattle.std.specs.HashMap.{HashMap, get, get_key_by}
use Rattle.std.specs.List.{slice_get, IsDistinct, AllByRecursion}
use Rattle.std.specs.Map.{keys_of, lookup}
use Rattle.indexmap.proofs.CallerLemmas.{insert_entry-new}
use Rattle.indexmap.specs.IndexMap.{insert_entry}
use Rattle.lk_types.specs.Forms.{IsAbsent, AreApart}
use Rattle.lk_types.specs.contracts.c_type.CTypePartialEq.TheImpl.{eq-value}
use Rattle.lk_types.specs.declared.c_type.CType.{CType}

pub same_form : (a b : CType) → eq-value.it a b ≡ true → a ≡ b
same_form a b h = search rules

pub same_itself : (a : CType) → eq-value.it a a ≡ true
same_itself a = search rules

bools : (x y : Bool) → (x ≡ true → y ≡ true) → (y ≡ true → x ≡ true) → x ≡ y
bools true true p q = refl
bools true false p q = sym (p refl)
bools false true p q = q refl
bools false false p q = refl

pub same_laws : IsEquivalence eq-value.it
same_laws = record {
  refl = same_itself;
  symm = λ a b. bools (eq-value.it a b) (eq-value.it b a) (λ h. subst (λ c. eq-value.it c a ≡ true) (same_form a b h) (same_itself a))
      (λ h. subst (λ c. eq-value.it c b ≡ true) (same_form b a h) (same_itself b));
  congr = λ a b c h. ap (λ d. eq-value.it d c) (same_form a b h);
}

suc_one : (p : ℕ) → suc p + 1 ≡ suc (p + 1)
suc_one p = omega arith

take-nil : {X : Type 0} (p : ℕ) → ◌≡◌ {A = List X} (take p []) []
take-nil zero = refl
take-nil (suc p) = refl

pub take_more : {X : Type 0} (xs : List X) (p : ℕ) (x : X) → slice_get xs p ≡ Some x → take p xs ++ x ∷ [] ≡ take (p + 1) xs
take_more [] p x at = absurd (none-some x at)
take_more (y ∷ xs) zero x at = ap (λ z. z ∷ []) (sym (same_Some y x at))
take_more (y ∷ xs) (suc p) x at = rw (suc_one p) (ap (λ ys. y ∷ ys) (take_more xs p x at))

pub got_take : {X : Type 0} (xs : List X) (p q : ℕ) (x : X) → slice_get (take p xs) q ≡ Some x → (q < p) × (slice_get xs q ≡ Some x)
got_take [] p q x is = absurd (none-some x (sym (ap (λ ys. slice_get ys q) (take-nil p)) ∙ is))
got_take (y ∷ xs) zero q x is = absurd (none-some x is)
got_take (y ∷ xs) (suc p) zero x is = (omega arith, is)
got_take (y ∷ xs) (suc p) (suc q) x is = let r = got_take xs p q x is in (omega (arith, r.0), r.1)

module _ {V : Type 0} where
  none_later : (es : List (CType × V)) (k : CType) → AllByRecursion (λ y. eq-value.it k y ≡ false) (keys_of es) → (j : ℕ) (v : V) → slice_get es j ≡ Some (k, v) → ⊥
  none_later [] k all j v is = none-some _ is
  none_later (e ∷ es) k all zero v is = false≢true (sym all.0 ∙ subst (λ c. eq-value.it k c.0 ≡ true) (sym (same_Some e (k, v) is)) (same_itself k))
  none_later (e ∷ es) k all (suc j) v is = none_later es k all.1 j v is

  -- no form stands at two places
  pub apart_from_unique : (es : List (CType × V)) → IsDistinct eq-value.it (keys_of es) → AreApart es
  apart_from_unique [] distinct form i j v w at at' = absurd (none-some _ at)
  apart_from_unique (e ∷ es) distinct form zero zero v w at at' = refl
  apart_from_unique (e ∷ es) distinct form zero (suc j) v w at at' =
      absurd (none_later es form (subst (λ c. AllByRecursion (λ y. eq-value.it c.0 y ≡ false) (keys_of es)) (same_Some e (form, v) at) (IsDistinct-head eq-value.it e.0 (keys_of es) distinct)) j w at')
  apart_from_unique (e ∷ es) distinct form (suc i) zero v w at at' =
      absurd (none_later es form (subst (λ c. AllByRecursion (λ y. eq-value.it c.0 y ≡ false) (keys_of es)) (same_Some e (form, w) at') (IsDistinct-head eq-value.it e.0 (keys_of es) distinct)) i v at)
  apart_from_unique (e ∷ es) distinct form (suc i) (suc j) v w at at' = ap suc (apart_from_unique es (IsDistinct-tail eq-value.it e.0 (keys_of es) distinct) form i j v w at at')

  -- a form that stands at a place stands nowhere before it
  pub absent_before : (es : List (CType × V)) → AreApart es → (p : ℕ) (form : CType) (kept : V) → slice_get es p ≡ Some (form, kept) → IsAbsent (take p es) form
  absent_before es apart p form kept at q other at' =
      let within = got_take es p q (form, other) at' in
      let same = apart form q p other kept within.1 at in
      omega (arith, within.0, same)

  -- a look-up that finds nothing says that the form is absent
  pub absent_from_lookup : (es : List (CType × V)) (form : CType) → lookup (eq-value.it form) es ≡ None → IsAbsent es form
  absent_from_lookup [] form none place kept at = none-some (form, kept) at
  absent_from_lookup (e ∷ es) form none zero kept at =
      let same = subst (λ c. eq-value.it form c.0 ≡ true) (sym (same_Some e (form, kept) at)) (same_itself form) in
      none-some e.1 (sym none ∙ lookup_head (eq-value.it form) e es same)
  absent_from_lookup (e ∷ es) form none (suc place) kept at = of (λ rest. absent_from_lookup es form rest place kept at) (eq-value.it form e.0) refl
    where
      of : (lookup (eq-value.it form) es ≡ None → ⊥) → (b : Bool) → eq-value.it form e.0 ≡ b → ⊥
      of later true is = none-some e.1 (sym none ∙ lookup_head (eq-value.it form) e es is)
      of later false is = later (sym (lookup_tail (eq-value.it form) e es is) ∙ none)

  -- the list up to a place and the entry there
  pub copied_more : (es fs : List (CType × V)) (p : ℕ) (entry : CType × V) → slice_get es p ≡ Some entry → fs ≡ take p es → fs ++ entry ∷ [] ≡ take (p + 1) es
  copied_more es fs p entry at is = ap (λ gs. gs ++ entry ∷ []) is ∙ take_more es p entry at

module _ {V S : Type 0} where
  pub get_from_absent : (m : HashMap CType V S) (form : CType) → IsAbsent m.entries form → get eq-value.it m form ≡ None
  get_from_absent m form absent = of (get eq-value.it m form) refl
    where
      of : (o : Option V) → get eq-value.it m form ≡ o → o ≡ None
      of None is = refl
      of (Some v) is =
          let found = place_from_lookup (eq-value.it form) m.entries v is in
          absurd (absent found.0 v (subst (λ k. slice_get m.entries found.0 ≡ Some (k, v)) (sym (same_form form found.1 found.3)) found.2))

  -- a new form goes last
  pub put_last : (m : HashMap CType V S) (form : CType) (kept : V) → IsAbsent m.entries form → insert_entry eq-value.it m.entries form kept ≡ m.entries ++ (form, kept) ∷ []
  put_last m form kept absent = insert_entry-new eq-value.it m form kept (get_from_absent m form absent)

  -- the key that was found is the form
  pub key_found : (m : HashMap CType V S) (form key : CType) → get_key_by (eq-value.it form) m ≡ Some key → form ≡ key
  key_found m form key is = same_form form key (lookup_key_passes (eq-value.it form) m.entries key is)
