-- Pairs of structs that are met: when two are the same, and what a list has with one more.
use Rattle.std.proofs.Common.{◌≡◌, ◌∙◌, ◌⊎◌, inl, inr, ℕ, zero, suc, Bool, true, false, not, nat_eq, ◌||◌, ◌&&◌, List, [], ◌∷◌, ◌++◌, Some, refl, sym, ap, subst, eqb, if◌then◌else◌}
use Rattle.std.proofs.lemmas.Bool.{false≢true, and_from, and_parts, eqb-true, eq-eqb}
use Rattle.std.proofs.lemmas.Option.{none-some, same_Some}
use Rattle.std.proofs.Math.Bool.{beq}
use Rattle.std.proofs.lemmas.Slice.Eq.{bytes_eq-Decides}
use Rattle.std.specs.Cmp.Lexicographic.{pointwise}
use Rattle.std.specs.List.{slice_get, list_any}
use Rattle.indexmap.specs.IndexSet.{insert_key}
use Rattle.lk_link.specs.Comparing.{SideTable, IsOfSides, IsAnsweredHere, AreOnePair}
use Rattle.lk_link.specs.Pairs.{IsAmong, IsAnswered}
use Rattle.lk_link.specs.declared.place.StructOf.{StructOf}
use Rattle.lk_link.specs.declared.place.StructPair.{StructPair}
use Rattle.lk_link.proofs.Answering.{answered_by, answered_same, answered_weaker}

abbrev pub same_struct : StructOf → StructOf → Bool
same_struct a b = eqb a.source b.source && eqb a.number b.number

abbrev pub same_pair : StructPair → StructPair → Bool
same_pair a b = same_struct a.first b.first && same_struct a.second b.second

pub struct_is : (a b : StructOf) → same_struct a b ≡ true → a ≡ b
struct_is a b same =
    let parts = and_parts (eqb a.source b.source) (eqb a.number b.number) same in
    let source = eqb-true a.source b.source parts.0 in
    let number = eqb-true a.number b.number parts.1 in
    (λ i. record { source = source i; number = number i })

pub struct_itself : (a : StructOf) → same_struct a a ≡ true
struct_itself a = and_from _ _ (eq-eqb a.source a.source refl) (eq-eqb a.number a.number refl)

pub structs_differ : (a b : StructOf) → same_struct a b ≡ false → a ≡ b → ⊥
structs_differ a b other is = false≢true (sym other ∙ subst (λ x. same_struct a x ≡ true) is (struct_itself a))

pub pair_of : (a b : StructPair) → a.first ≡ b.first → a.second ≡ b.second → a ≡ b
pair_of a b first second = (λ i. record { first = first i; second = second i })

pub pair_is : (a b : StructPair) → same_pair a b ≡ true → a ≡ b
pair_is a b same =
    let parts = and_parts (same_struct a.first b.first) (same_struct a.second b.second) same in
    pair_of a b (struct_is a.first b.first parts.0) (struct_is a.second b.second parts.1)

kept_at : (xs : List StructPair) (y : StructPair) (place : ℕ) (p : StructPair) → slice_get xs place ≡ Some p → slice_get (xs ++ y ∷ []) place ≡ Some p
kept_at [] y place p at = absurd (none-some p at)
kept_at (x ∷ xs) y zero p at = at
kept_at (x ∷ xs) y (suc k) p at = kept_at xs y k p at

pushed_cases : (xs : List StructPair) (y : StructPair) (place : ℕ) (p : StructPair) → slice_get (xs ++ y ∷ []) place ≡ Some p → IsAmong xs p ⊎ (y ≡ p)
pushed_cases [] y zero p at = inr (same_Some y p at)
pushed_cases [] y (suc k) p at = absurd (none-some p at)
pushed_cases (x ∷ xs) y zero p at = inl (zero, at)
pushed_cases (x ∷ xs) y (suc k) p at = elim (pushed_cases xs y k p at) [ inl h ↦ inl (suc h.0, h.1) | inr e ↦ inr e ]

last_among : (xs : List StructPair) (y : StructPair) → IsAmong (xs ++ y ∷ []) y
last_among [] y = (zero, refl)
last_among (x ∷ xs) y = let h = last_among xs y in (suc h.0, h.1)

found_among : (xs : List StructPair) (p : StructPair) → list_any (same_pair p) xs ≡ true → IsAmong xs p
found_among [] p found = absurd (false≢true found)
found_among (x ∷ xs) p found = by (same_pair p x) refl (λ e. found_among xs p (sym (ap (λ c. c || list_any (same_pair p) xs) e) ∙ found))
  where
    by : (b : Bool) → same_pair p x ≡ b → (same_pair p x ≡ false → IsAmong xs p) → IsAmong (x ∷ xs) p
    by true e rest = (zero, ap Some (sym (pair_is p x e)))
    by false e rest = let h = rest e in (suc h.0, h.1)

pushed : (old : List StructPair) (pair : StructPair) → IsAnswered (λ p. p ≡ pair) old (old ++ pair ∷ []) (λ ps. IsAmong ps pair) true
pushed old pair = record {
  longer = kept_at old pair;
  from = λ p is. elim (pushed_cases old pair is.0 p is.1) [ inl h ↦ inl h | inr e ↦ inr (sym e) ];
  holds = λ yes ps among. among pair (last_among old pair);
  needed = λ ps among asked. (refl, λ p is. elim (pushed_cases old pair is.0 p is.1) [ inl h ↦ among p h | inr e ↦ subst (IsAmong ps) e asked ]);
}

pub put_answered : (old : List StructPair) (pair : StructPair) → IsAnswered (λ p. p ≡ pair) old (insert_key same_pair old pair) (λ ps. IsAmong ps pair) true
put_answered old pair = by (list_any (same_pair pair) old) refl
  where
    by : (b : Bool) → list_any (same_pair pair) old ≡ b → IsAnswered (λ p. p ≡ pair) old (insert_key same_pair old pair) (λ ps. IsAmong ps pair) true
    by true e = subst (λ new. IsAnswered (λ p. p ≡ pair) old new (λ ps. IsAmong ps pair) true) (sym (ap (λ c. if c then old else old ++ pair ∷ []) e))
        (record { longer = λ place p at. at; from = λ p is. inl is; holds = λ yes ps among. among pair (found_among old pair e); needed = λ ps among asked. (refl, among) })
    by false e = subst (λ new. IsAnswered (λ p. p ≡ pair) old new (λ ps. IsAmong ps pair) true) (sym (ap (λ c. if c then old else old ++ pair ∷ []) e)) (pushed old pair)

module _ (first second : SideTable) (a b : ℕ) (r q : StructOf) (at : slice_get first.becomes a ≡ Some r) (bt : slice_get second.becomes b ≡ Some q) where
  pub same_structs : (ps : List StructPair) → r ≡ q → IsAnsweredHere first second ps ps (λ ps. AreOnePair first second ps a b) true
  same_structs ps is = answered_by ps (λ ps. AreOnePair first second ps a b) true (λ yes ps. (record { first = r; second = q }, at, bt, inl is)) (λ ps asked. refl)

  pub met_structs : (old new : List StructPair) → (r ≡ q → ⊥) → IsAnswered (λ p. p ≡ record { first = r; second = q }) old new (λ ps. IsAmong ps (record { first = r; second = q })) true →
      IsAnsweredHere first second old new (λ ps. AreOnePair first second ps a b) true
  met_structs old new other h =
      answered_same (λ ps. IsAmong ps (record { first = r; second = q })) (λ ps. AreOnePair first second ps a b) (λ ps among. (record { first = r; second = q }, at, bt, inr among)) back
      (answered_weaker (λ ps. IsAmong ps (record { first = r; second = q })) of_sides h)
    where
      of_sides : (p : StructPair) → p ≡ record { first = r; second = q } → IsOfSides first second p
      of_sides p is = record { a = a; b = b; first_is = at ∙ ap (λ x. Some x.first) (sym is); second_is = bt ∙ ap (λ x. Some x.second) (sym is) }

      back : (ps : List StructPair) → AreOnePair first second ps a b → IsAmong ps (record { first = r; second = q })
      back ps asked =
          let one = same_Some asked.0.first r (sym asked.1 ∙ at) in
          let two = same_Some asked.0.second q (sym asked.2 ∙ bt) in
          elim asked.3 [
            | inl is ↦ absurd (other (sym one ∙ is ∙ two))
            | inr among ↦ subst (IsAmong ps) (pair_of asked.0 (record { first = r; second = q }) one two) among
          ]

pub bools_same : (a b : Bool) → not (beq a b) ≡ false → a ≡ b
bools_same true true h = refl
bools_same true false h = absurd (false≢true (sym h))
bools_same false true h = absurd (false≢true (sym h))
bools_same false false h = refl

-- names are compared byte by byte
pub name_is : (a b : List ℕ) → pointwise nat_eq a b ≡ true → a ≡ b
name_is a b h = (bytes_eq-Decides a b).0 h

pub name_itself : (a b : List ℕ) → a ≡ b → pointwise nat_eq a b ≡ true
name_itself a b h = (bytes_eq-Decides a b).1 h

not_false : (b : Bool) → not b ≡ false → b ≡ true
not_false true h = refl
not_false false h = absurd (false≢true (sym h))

not_true : (b : Bool) → not b ≡ true → b ≡ false
not_true true h = absurd (false≢true h)
not_true false h = refl

pub names_same : (a b : List ℕ) → not (pointwise nat_eq a b) ≡ false → a ≡ b
names_same a b h = name_is a b (not_false (pointwise nat_eq a b) h)

pub names_differ : (a b : List ℕ) → not (pointwise nat_eq a b) ≡ true → a ≡ b → ⊥
names_differ a b h is = false≢true (sym (not_true (pointwise nat_eq a b) h) ∙ name_itself a b is)
