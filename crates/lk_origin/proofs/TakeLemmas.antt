-- Rows that take what stands in the rows of another relation.
use Rattle.std.proofs.Common.{ℕ, ◌+◌, ◌<◌, ◌≡◌, ◌↔◌, ◌⊎◌, ◌||◌, ◌&&◌, Bool, true, false, eqb, List, [], ◌∷◌, refl, sym, ap, ◌∙◌, subst, inl, inr, arith}
use Rattle.std.proofs.lemmas.Bool.{and_from, and_parts, both_ways, cases_eq, eqb-true, eq-eqb, or_cases, or_right}
use Rattle.lk_sets.specs.Closing.{Grows}
use Rattle.lk_sets.specs.Ids.{has_id}
use Rattle.lk_sets.specs.Rows.{Rows, has, row_of}
use Rattle.lk_sets.proofs.Closing.{grows_none, grows_twice}
use Rattle.lk_sets.proofs.Reading.{has_id-row, left_later, read_cases, read_here}

-- Where the loop stands that takes row a: what is left of the row is still to be taken.
pub record Taking (from first now : Rows) (a : ℕ) (left : List ℕ) (changed : Bool) : Type 0 where
  pub inside : (y : ℕ) → has_id left y ≡ true → has from a y ≡ true
  pub there : (x y : ℕ) → has now x y ≡ true → (has first x y ≡ true) ⊎ ((x ≡ a) × (has from x y ≡ true))
  pub done : (y : ℕ) → has from a y ≡ true → (has_id left y ≡ true) ⊎ (has now a y ≡ true)
  pub grows : Grows first now changed

pub taking_none : (from first : Rows) (a : ℕ) (row : List ℕ) → row ≡ row_of from a → Taking from first first a row false
taking_none from first a row is = record {
  inside = λ y h. sym (has_id-row from a y row is) ∙ h;
  there = λ x y h. inl h;
  done = λ y h. inl (has_id-row from a y row is ∙ h);
  grows = grows_none first;
}

pub taking_more : {from first mid now : Rows} {a b : ℕ} {left rest : List ℕ} {p q : Bool} → left ≡ b ∷ rest → Taking from first mid a left p → ((x y : ℕ) → has now x y ≡ (has mid x y || (eqb x a && eqb y b))) → Grows mid now q → Taking from first now a rest (p || q)
taking_more {from} {first} {mid} {now} {a} {b} {left} {rest} step t pairs grows = record {
  inside = λ y h. t.inside y (left_later step y h);
  there = λ x y h.
      elim (or_cases (has mid x y) _ (sym (pairs x y) ∙ h)) [
        | inl before ↦ t.there x y before
        | inr here ↦
            let parts = and_parts (eqb x a) (eqb y b) here in
            let same = eqb-true x a parts.0 in
            let stands : has from a y ≡ true = subst (λ z. has from a z ≡ true) (sym (eqb-true y b parts.1)) (t.inside b (read_here step)) in
            inr (same, subst (λ z. has from z y ≡ true) (sym same) stands)
      ];
  done = λ y h.
      elim (t.done y h) [
        | inl was_left ↦ elim (read_cases step y was_left) [
          | inl same ↦ inr (pairs a y ∙ or_right (has mid a y) _ (and_from _ _ (eq-eqb a a refl) (eq-eqb y b (sym same))))
          | inr later ↦ inl later
        ]
        | inr taken ↦ inr (grows.kept a y taken)
      ];
  grows = grows_twice t.grows grows;
}

pub taking_all : {from first now : Rows} {a : ℕ} {left : List ℕ} {p : Bool} → left ≡ [] → Taking from first now a left p → (x y : ℕ) → (has now x y ≡ true) ↔ ((has first x y ≡ true) ⊎ ((x ≡ a) × (has from x y ≡ true)))
taking_all {from} {first} {now} {a} {left} empty t x y = (t.there x y, back)
  where
    done : has from a y ≡ true → has now a y ≡ true
    done h = elim (t.done y h) [ inl was_left ↦ absurd (both_ways false refl (sym (ap (λ ids. has_id ids y) empty) ∙ was_left)) | inr taken ↦ taken ]

    back : (has first x y ≡ true) ⊎ ((x ≡ a) × (has from x y ≡ true)) → has now x y ≡ true
    back (inl before) = t.grows.kept x y before
    back (inr here) = subst (λ z. has now z y ≡ true) (sym here.0) (done (subst (λ z. has from z y ≡ true) here.0 here.1))

-- Where a loop over rows stands: it has taken those of the rows below k that are wanted.
pub record TakenBelow (Wanted : ℕ → Type 0) (from first now : Rows) (k : ℕ) (changed : Bool) : Type 0 where
  pub there : (x y : ℕ) → has now x y ≡ true → (has first x y ≡ true) ⊎ (Wanted x × (has from x y ≡ true))
  pub done : (x y : ℕ) → Wanted x → x < k → has from x y ≡ true → has now x y ≡ true
  pub grows : Grows first now changed

pub taken_none : (Wanted : ℕ → Type 0) (from first : Rows) → TakenBelow Wanted from first first 0 false
taken_none Wanted from first = record { there = λ x y h. inl h; done = λ x y w below h. absurd (omega (arith, below)); grows = grows_none first }

pub taken_more : {Wanted : ℕ → Type 0} {from first mid now : Rows} {k : ℕ} {p q : Bool} → TakenBelow Wanted from first mid k p → ((x y : ℕ) → (has now x y ≡ true) ↔ ((has mid x y ≡ true) ⊎ (Wanted x × (x ≡ k) × (has from x y ≡ true)))) → Grows mid now q → TakenBelow Wanted from first now (k + 1) (p || q)
taken_more {k = k} t pairs grows = record {
  there = λ x y h. elim ((pairs x y).0 h) [ inl before ↦ t.there x y before | inr here ↦ inr (here.0, here.2) ];
  done = λ x y w below h.
      elim (cases_eq x k) [
        | inl same ↦ (pairs x y).1 (inr (w, same, h))
        | inr other ↦ (pairs x y).1 (inl (t.done x y w (omega arith) h))
      ];
  grows = grows_twice t.grows grows;
}

pub taken_all : {Wanted : ℕ → Type 0} {from first now : Rows} {k : ℕ} {p : Bool} → ((x y : ℕ) → has from x y ≡ true → x < k) → TakenBelow Wanted from first now k p → (x y : ℕ) → (has now x y ≡ true) ↔ ((has first x y ≡ true) ⊎ (Wanted x × (has from x y ≡ true)))
taken_all below t x y = (t.there x y, λ h. elim h [ inl before ↦ t.grows.kept x y before | inr here ↦ t.done x y here.0 (below x y here.1) here.1 ])
