-- The numbers of holders: there is one list of them all, and each holder has one number.
use Rattle.std.proofs.Common.{◌≡◌, ℕ, suc, ◌+◌, ◌<◌, List, [], ◌∷◌, ◌++◌, take, length, get_or, Some, Contains, inl, inr, refl, sym, ap, ◌∙◌, subst, arith}
use Rattle.std.specs.Prelude.{slice_get, AllPairs}
use Rattle.std.proofs.lemmas.Bool.{cases_lt}
use Rattle.std.proofs.lemmas.Grind.{common_steps}
use Rattle.std.proofs.lemmas.List.{take_more}
use Rattle.std.proofs.lemmas.Option.{slice_get-get_or, slice_get_within, get_or_from_slice_get}
use Rattle.lk_facts.specs.LabelRules.{AreHolders, IsHolder, IsNumberOfHolder, StandsBefore}
use Rattle.lk_facts.specs.Places.{AreDifferent, IsMissing, IsPut}
use Rattle.lk_facts.specs.Places.IsPut.{there as was_there, added}
use Rattle.lk_facts.specs.declared.program.Program.{Program}
use Rattle.lk_facts.specs.declared.root.Holder.{Holder}
use Rattle.lk_facts.specs.declared.root.Holder.TheVariants.{Root, Slot, Result, Point}
use Rattle.lk_label.proofs.Walks.{Contains-first, Contains-behind, Contains-cons_cases, Contains-none}
use Rattle.lk_label.proofs.WalkSteps.{got_contains}

never_both : (h g : Holder) → StandsBefore h g → StandsBefore g h → ⊥
never_both (Root r) (Root q) less more = omega (arith, less, more)
never_both (Root r) (Slot g l) less more = more
never_both (Root r) (Result g) less more = more
never_both (Root r) (Point q) less more = more
never_both (Slot f k) (Root q) less more = less
never_both (Slot f k) (Slot g l) less more = elim less [
  | inl a ↦ elim more [ inl b ↦ omega (arith, a, b) | inr b ↦ (let same = b.0 in omega (arith, a, same)) ]
  | inr a ↦ elim more [ inl b ↦ (let same = a.0 in omega (arith, b, same)) | inr b ↦ (let x = a.1 in let y = b.1 in omega (arith, x, y)) ]
]
never_both (Slot f k) (Result g) less more = more
never_both (Slot f k) (Point q) less more = more
never_both (Result f) (Root q) less more = less
never_both (Result f) (Slot g l) less more = less
never_both (Result f) (Result g) less more = omega (arith, less, more)
never_both (Result f) (Point q) less more = more
never_both (Point p) (Root q) less more = less
never_both (Point p) (Slot g l) less more = less
never_both (Point p) (Result g) less more = less
never_both (Point p) (Point q) less more = omega (arith, less, more)

tail_pairs : {X : Type 0} (R : X → X → Type 0) (x : X) (xs : List X) → AllPairs R (x ∷ xs) → AllPairs R xs
tail_pairs R x xs all i j d less within = all (suc i) (suc j) d (omega (arith, less)) (omega (arith, within))

head_pairs : {X : Type 0} (R : X → X → Type 0) (x : X) (xs : List X) → AllPairs R (x ∷ xs) → (z : X) → Contains xs z → R x z
head_pairs R x xs all z there = subst (R x) there.2 (all 0 (suc there.0) z (omega arith) (omega (arith, there.1)))

-- two lists with the same things in one order are equal
same_order : {X : Type 0} (R : X → X → Type 0) → ((x y : X) → R x y → R y x → ⊥) → (xs ys : List X) → AllPairs R xs → AllPairs R ys → ((x : X) → Contains xs x → Contains ys x) → ((x : X) → Contains ys x → Contains xs x) → xs ≡ ys
same_order R never [] [] p q to back = refl
same_order R never [] (y ∷ ys) p q to back = absurd (Contains-none y (back y (Contains-first y ys)))
same_order R never (x ∷ xs) [] p q to back = absurd (Contains-none x (to x (Contains-first x xs)))
same_order {X} R never (x ∷ xs) (y ∷ ys) p q to back =
    ap (λ a. a ∷ xs) same ∙ ap (λ zs. y ∷ zs) (same_order R never xs ys (tail_pairs R x xs p) (tail_pairs R y ys q) later earlier)
  where
    same : x ≡ y
    same = elim (Contains-cons_cases y x ys (to x (Contains-first x xs))) [
      | inl is ↦ sym is
      | inr behind ↦ elim (Contains-cons_cases x y xs (back y (Contains-first y ys))) [
        | inl is ↦ is
        | inr behind' ↦ absurd (never x y (head_pairs R x xs p y behind') (head_pairs R y ys q x behind))
      ]
    ]

    twice : (z : X) → R z z → ⊥
    twice z r = never z z r r

    later : (z : X) → Contains xs z → Contains ys z
    later z there = elim (Contains-cons_cases y z ys (to z (Contains-behind x z xs there))) [
      | inl is ↦ absurd (twice z (subst (λ a. R a z) (same ∙ is) (head_pairs R x xs p z there)))
      | inr behind ↦ behind
    ]

    earlier : (z : X) → Contains ys z → Contains xs z
    earlier z there = elim (Contains-cons_cases x z xs (back z (Contains-behind y z ys there))) [
      | inl is ↦ absurd (twice z (subst (λ a. R a z) (sym same ∙ is) (head_pairs R y ys q z there)))
      | inr behind ↦ behind
    ]

ordered_different : {X : Type 0} (R : X → X → Type 0) → ((x y : X) → R x y → R y x → ⊥) → (xs : List X) → AllPairs R xs → AreDifferent xs
ordered_different R never xs all i j x i_at j_at = elim (cases_lt i j) [
  | inl less ↦ absurd (twice (apart i j i_at j_at less))
  | inr more ↦ elim (cases_lt j i) [
    | inl less ↦ absurd (twice (apart j i j_at i_at less))
    | inr more' ↦ omega (arith, more, more')
  ]
]
  where
    twice : R x x → ⊥
    twice r = never x x r r

    apart : (a b : ℕ) → slice_get xs a ≡ Some x → slice_get xs b ≡ Some x → a < b → R x x
    apart a b a_at b_at less = subst (λ z. R z x) (get_or_from_slice_get xs a x x a_at) (subst (R (get_or xs a x)) (get_or_from_slice_get xs b x x b_at) (all a b x less (slice_get_within xs b x b_at)))

-- what is put next of a list of different things
pub put_next : {X : Type 0} (xs old new : List X) (k : ℕ) (d : X) {i : ℕ} → AreDifferent xs → k < length xs → old ≡ take k xs → IsPut old new (get_or xs k d) i → new ≡ take (k + 1) xs
put_next xs old new k d {i} different within so_far (was_there at same) =
    let x = get_or xs k d in
    let at' : slice_get (take k xs) i ≡ Some x = subst (λ zs. slice_get zs i ≡ Some x) so_far at in
    let short : i < length (take k xs) = slice_get_within (take k xs) i x at' in
    let less : i < k = grind (arith, common_steps) in
    let here : get_or (take k xs) i x ≡ x = get_or_from_slice_get (take k xs) i x x at' in
    let level : get_or (take k xs) i x ≡ get_or xs i x = grind (arith, common_steps) in
    let there : slice_get xs i ≡ Some x = slice_get-get_or xs i x (omega (arith, less, within)) ∙ ap Some (sym level ∙ here) in
    let two = different i k x there (slice_get-get_or xs k d within) in
    absurd (omega (arith, two, less))
put_next xs old new k d different within so_far (added out put) = put ∙ (ap (λ zs. zs ++ get_or xs k d ∷ []) so_far ∙ sym (take_more xs k d within))

module _ (program : Program) where
  pub holders_different : (holders : List Holder) → AreHolders program holders → AreDifferent holders
  holders_different holders are = ordered_different StandsBefore never_both holders are.ordered

  -- a holder has one number
  pub number_again : (holders : List Holder) (h : Holder) (number n : ℕ) → AreHolders program holders → slice_get holders number ≡ Some h → IsNumberOfHolder program h n → n ≡ number
  number_again holders h number n are at (others, these, n_at) =
      let same = same_order StandsBefore never_both others holders these.ordered are.ordered (λ x there. (are.each x).1 ((these.each x).0 there)) (λ x there. (these.each x).1 ((are.each x).0 there)) in
      holders_different holders are n number h (subst (λ xs. slice_get xs n ≡ Some h) same n_at) at

  pub number_there : (holders : List Holder) (h : Holder) → AreHolders program holders → IsHolder program h → IsMissing holders h → ⊥
  number_there holders h are is out = let there = (are.each h).1 is in out there.0 (got_contains holders h there)
