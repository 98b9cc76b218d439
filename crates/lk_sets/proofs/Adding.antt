-- Loops that add to a list what each element of another gives.
use Rattle.std.proofs.Common.{ℕ, ◌+◌, ◌<◌, ◌≤◌, ◌≡◌, ◌↔◌, ◌⊎◌, List, [], ◌∷◌, ◌++◌, length, get_or, take, Contains, refl, sym, ◌∙◌, subst, inl, inr, arith}
use Rattle.std.proofs.lemmas.List.{take_all, take_more}
use Rattle.std.proofs.lemmas.List.Elements.{Contains-append_cases, Contains-append_left, Contains-get_or, Contains-push, Contains-push_cases}
use Rattle.lk_sets.specs.Adding.{Adds, IsGiven}

module _ {X : Type 0} where
  -- nothing is added
  pub adds_none : (P : X → Type 0) (xs : List X) → ((x : X) → P x → ⊥) → Adds P xs xs
  adds_none P xs never = record { members = λ x. (λ h. inl h, λ h. elim h [ inl there ↦ there | inr p ↦ absurd (never x p) ]) }

  -- one element is put behind the others
  pub adds_push : (xs : List X) (y : X) → Adds (λ x. y ≡ x) xs (xs ++ y ∷ [])
  adds_push xs y = record {
    members = λ x.
        (λ h. Contains-push_cases xs y x h, λ h. elim h [ inl there ↦ Contains-append_left xs (y ∷ []) x there | inr same ↦ subst (Contains (xs ++ y ∷ [])) same (Contains-push xs y) ]);
  }

  -- what is added, said in another way
  pub adds_as : {P Q : X → Type 0} {old new : List X} → ((x : X) → P x ↔ Q x) → Adds P old new → Adds Q old new
  adds_as same adds = record {
    members = λ x.
        (λ h. elim ((adds.members x).0 h) [ inl there ↦ inl there | inr p ↦ inr ((same x).0 p) ], λ h. (adds.members x).1 (elim h [ inl there ↦ inl there | inr q ↦ inr ((same x).1 q) ]));
  }

  -- a list to which things were added when it was empty
  pub adds_to_none : {P : X → Type 0} {old new : List X} → old ≡ [] → Adds P old new → (x : X) → Contains new x ↔ P x
  adds_to_none {P} {old} none adds x =
      (λ h. elim ((adds.members x).0 h) [ inl there ↦ lacks (subst (λ ys. Contains ys x) none there) | inr p ↦ p ], λ p. (adds.members x).1 (inr p))
    where
      lacks : Contains [] x → P x
      lacks there = absurd (omega (arith, there.1))

  module _ {E : Type 0} (Gives : E → X → Type 0) where
    -- a loop over a list: before it
    pub adds_each_none : (es : List E) (xs : List X) → Adds (IsGiven Gives (take 0 es)) xs xs
    adds_each_none es xs = adds_none (IsGiven Gives (take 0 es)) xs (λ x given. omega (arith, given.1.1))

    -- one element more
    pub adds_each_more : (es : List E) (i : ℕ) (d : E) {old mid new : List X} → i < length es → Adds (IsGiven Gives (take i es)) old mid → Adds (Gives (get_or es i d)) mid new → Adds (IsGiven Gives (take (i + 1) es)) old new
    adds_each_more es i d {old} {mid} {new} within before adds = record { members = λ x. (there x, back x) }
      where
        more : take (i + 1) es ≡ take i es ++ get_or es i d ∷ []
        more = take_more es i d within

        given_more : (x : X) → IsGiven Gives (take i es) x → IsGiven Gives (take (i + 1) es) x
        given_more x given = (given.0, subst (λ ys. Contains ys given.0) (sym more) (Contains-append_left (take i es) _ given.0 given.1), given.2)

        given_here : (x : X) → Gives (get_or es i d) x → IsGiven Gives (take (i + 1) es) x
        given_here x gives = (get_or es i d, subst (λ ys. Contains ys (get_or es i d)) (sym more) (Contains-push (take i es) (get_or es i d)), gives)

        there : (x : X) → Contains new x → Contains old x ⊎ IsGiven Gives (take (i + 1) es) x
        there x h = elim ((adds.members x).0 h) [ inl earlier ↦ elim ((before.members x).0 earlier) [ inl first ↦ inl first | inr given ↦ inr (given_more x given) ] | inr gives ↦ inr (given_here x gives) ]

        from : (x : X) → IsGiven Gives (take (i + 1) es) x → Contains new x
        from x given =
            elim (Contains-push_cases (take i es) (get_or es i d) given.0 (subst (λ ys. Contains ys given.0) more given.1)) [
              | inl earlier ↦ (adds.members x).1 (inl ((before.members x).1 (inr (given.0, earlier, given.2))))
              | inr same ↦ (adds.members x).1 (inr (subst (λ e. Gives e x) (sym same) given.2))
            ]

        back : (x : X) → Contains old x ⊎ IsGiven Gives (take (i + 1) es) x → Contains new x
        back x h = elim h [ inl first ↦ (adds.members x).1 (inl ((before.members x).1 (inl first))) | inr given ↦ from x given ]

    -- one element more, as it was read
    pub adds_each_read : (es : List E) (i : ℕ) (e : E) {old mid new : List X} → i < length es → e ≡ get_or es i e → Adds (IsGiven Gives (take i es)) old mid → Adds (Gives e) mid new → Adds (IsGiven Gives (take (i + 1) es)) old new
    adds_each_read es i e {old} {mid} {new} within same before adds = adds_each_more es i e within before (subst (λ y. Adds (Gives y) mid new) same adds)

    -- behind it
    pub adds_each_all : (es : List E) (i : ℕ) {old new : List X} → length es ≤ i → Adds (IsGiven Gives (take i es)) old new → Adds (IsGiven Gives es) old new
    adds_each_all es i {old} {new} past adds = subst (λ ys. Adds (IsGiven Gives ys) old new) (take_all i es past) adds
