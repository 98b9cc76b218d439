-- One merge of two ascending lists. `keeps` says whether a number stays, by whether it is in the one list and in the other.
use Rattle.std.proofs.Common.{ℕ, ◌<◌, ◌≤◌, ◌≡◌, ◌||◌, ◌&&◌, Bool, true, false, cond, eqb, ltb, List, [], ◌∷◌, ◌++◌, length, refl, sym, ap, ◌∙◌, subst, ◌⊎◌, inl, inr, arith, rules}
use Rattle.std.specs.List.{IsFirstAndRest}
use Rattle.std.specs.List.Sorted.{IsStrictlyIncreasing}
use Rattle.std.proofs.Math.Bool.{or-false, and-true, and-false}
use Rattle.std.proofs.lemmas.Bool.{cases_order, false≢true, false_from_ne_true, eqb-true, eq-eqb, ne_eqb, lt-ltb, le-ltb, ltb-true, or_cases, or_left, or_right, and_parts}
use Rattle.std.proofs.lemmas.List.{append-nil, nil_from_length}
use Rattle.lk_sets.specs.Ids.{has_id, IsSetOf}
use Rattle.lk_sets.proofs.Members.{same_answers}
use Rattle.lk_sets.proofs.Rising.{tail_rises, tail_above, head_least, has_id-append, append_rises}

-- a step past v: what is left of a list are its numbers above v
pub record IsPast (v : ℕ) (ids rest : List ℕ) : Type 0 where
  pub sorted : IsStrictlyIncreasing rest
  pub from : (x : ℕ) → has_id ids x ≡ true → v ≤ x
  pub members : (x : ℕ) → has_id rest x ≡ (has_id ids x && ltb v x)

-- where a merge of the lists `all` and `others` stands
pub record Merges (keeps : Bool → Bool → Bool) (all others done left right : List ℕ) : Type 0 where
  pub rises : IsStrictlyIncreasing done
  pub left_rises : IsStrictlyIncreasing left
  pub right_rises : IsStrictlyIncreasing right
  pub above : (x y : ℕ) → has_id done x ≡ true → (has_id left y || has_id right y) ≡ true → x < y
  pub members : (x : ℕ) → (has_id done x || keeps (has_id left x) (has_id right x)) ≡ keeps (has_id all x) (has_id others x)

-- past the head of a list
pub past_head : (x : ℕ) (xs : List ℕ) → IsStrictlyIncreasing (x ∷ xs) → IsPast x (x ∷ xs) xs
past_head x xs up = record {
  sorted = tail_rises x xs up;
  from = head_least x xs up;
  members = λ y. same_answers (has_id xs y) _
      (λ h. rw (h, lt-ltb x y (tail_above x xs up y h)) (search rules))
      (λ h.
      let parts = and_parts (has_id (x ∷ xs) y) (ltb x y) h in
      elim (or_cases (eqb x y) (has_id xs y) parts.0) [
        | inl same ↦ absurd (omega (arith, eqb-true x y same, ltb-true x y parts.1))
        | inr later ↦ later
      ]);
}

-- past a number below the head of a list
pub past_less : (v x : ℕ) (xs : List ℕ) → IsStrictlyIncreasing (x ∷ xs) → v < x → IsPast v (x ∷ xs) (x ∷ xs)
past_less v x xs up less = record {
  sorted = up;
  from = λ y h. omega (arith, head_least x xs up y h);
  members = λ y. same_answers (has_id (x ∷ xs) y) _
      (λ h. rw (h, lt-ltb v y (omega (arith, head_least x xs up y h))) refl)
      (λ h. (and_parts (has_id (x ∷ xs) y) (ltb v y) h).0);
}

pub merge_none : (keeps : Bool → Bool → Bool) (all others : List ℕ) → IsStrictlyIncreasing all → IsStrictlyIncreasing others → Merges keeps all others [] all others
merge_none keeps all others up ups = record {
  rises = λ k lt. absurd (omega arith);
  left_rises = up;
  right_rises = ups;
  above = λ x y h. absurd (false≢true h);
  members = λ x. refl;
}

-- one number, or none
abbrev one_if : Bool → ℕ → List ℕ
one_if b v = cond b (v ∷ []) []

has_id-one_if : (b : Bool) (v x : ℕ) → has_id (one_if b v) x ≡ (b && eqb v x)
has_id-one_if true v x = or-false (eqb v x)
has_id-one_if false v x = refl

one_if_rises : (b : Bool) (v : ℕ) → IsStrictlyIncreasing (one_if b v)
one_if_rises true v k lt = absurd (omega arith)
one_if_rises false v k lt = absurd (omega arith)

one_if_is : (b : Bool) (v x : ℕ) → has_id (one_if b v) x ≡ true → v ≡ x
one_if_is b v x h = eqb-true v x (and_parts b (eqb v x) (sym (has_id-one_if b v x) ∙ h)).1

has_id-pushed : (ids : List ℕ) (b : Bool) (v x : ℕ) → has_id (ids ++ one_if b v) x ≡ (has_id ids x || (b && eqb v x))
has_id-pushed ids b v x = has_id-append ids (one_if b v) x ∙ ap (λ c. has_id ids x || c) (has_id-one_if b v x)

module _ (keeps : Bool → Bool → Bool) (none : keeps false false ≡ false) (all others done left right left' right' : List ℕ) (v : ℕ) (m : Merges keeps all others done left right) (there : (has_id left v || has_id right v) ≡ true) (past : IsPast v left left') (past' : IsPast v right right') where
  abbrev stays : Bool
  stays = keeps (has_id left v) (has_id right v)

  still_there : (y : ℕ) → (has_id left' y || has_id right' y) ≡ true → ((has_id left y || has_id right y) ≡ true) × (v < y)
  still_there y h =
      elim (or_cases (has_id left' y) (has_id right' y) h) [
        | inl l ↦ let parts = and_parts _ _ (sym (past.members y) ∙ l) in (or_left _ _ parts.0, ltb-true v y parts.1)
        | inr r ↦ let parts = and_parts _ _ (sym (past'.members y) ∙ r) in (or_right _ _ parts.0, ltb-true v y parts.1)
      ]

  -- what is below v is in none of what was left
  members_at : (x : ℕ) → ((has_id done x || (stays && eqb v x)) || keeps (has_id left x && ltb v x) (has_id right x && ltb v x)) ≡ (has_id done x || keeps (has_id left x) (has_id right x))
  members_at x =
      elim (cases_order v x) [
        | inl same ↦ rw (← same, eq-eqb v v refl, le-ltb v v (omega arith), and-true stays, and-false (has_id left v), and-false (has_id right v), none, or-false)
        | inr (inl more) ↦
            rw (ne_eqb v x (λ e. omega arith), lt-ltb v x more, and-false stays, or-false, and-true (has_id left x), and-true (has_id right x))
        | inr (inr less) ↦
            let no_left : has_id left x ≡ false = false_from_ne_true _ (λ h. omega (arith, past.from x h)) in
            let no_right : has_id right x ≡ false = false_from_ne_true _ (λ h. omega (arith, past'.from x h)) in
            rw (ne_eqb v x (λ e. omega arith), no_left, no_right, and-false stays, or-false)
      ]

  -- one step: the least number of what is left is v
  pub merge_more : Merges keeps all others (done ++ one_if stays v) left' right'
  merge_more = record {
    rises = append_rises done (one_if stays v) m.rises (one_if_rises stays v) (λ x y h k. subst (λ z. x < z) (one_if_is stays v y k) (m.above x v h there));
    left_rises = past.sorted;
    right_rises = past'.sorted;
    above = λ x y h k.
        let later = still_there y k in
        elim (or_cases (has_id done x) (has_id (one_if stays v) x) (sym (has_id-append done (one_if stays v) x) ∙ h)) [
          | inl before ↦ m.above x y before later.0
          | inr now ↦ subst (λ z. z < y) (one_if_is stays v x now) later.1
        ];
    members = λ x. rw (has_id-pushed done stays v x, past.members x, past'.members x) (members_at x ∙ m.members x);
  }

has_head : (x : ℕ) (xs : List ℕ) → has_id (x ∷ xs) x ≡ true
has_head x xs = or_left _ _ (eq-eqb x x refl)

lacks_less : (v x : ℕ) (xs : List ℕ) → IsStrictlyIncreasing (x ∷ xs) → v < x → has_id (x ∷ xs) v ≡ false
lacks_less v x xs up less = false_from_ne_true _ (λ h. omega (arith, head_least x xs up v h))

module _ (keeps : Bool → Bool → Bool) (none : keeps false false ≡ false) (all others done left right : List ℕ) (x : ℕ) (xs : List ℕ) (y : ℕ) (ys : List ℕ) (m : Merges keeps all others done left right) (e : IsFirstAndRest left x xs) (f : IsFirstAndRest right y ys) where
  rises : IsStrictlyIncreasing (x ∷ xs)
  rises = rw e.0 at m.left_rises

  rises' : IsStrictlyIncreasing (y ∷ ys)
  rises' = rw f.0 at m.right_rises

  has_x : has_id left x ≡ true
  has_x = rw e.0 (has_head x xs)

  has_y : has_id right y ≡ true
  has_y = rw f.0 (has_head y ys)

  -- a step past the head of the one list
  pub merge_left : x < y → Merges keeps all others (done ++ one_if (keeps true false) x) xs right
  merge_left less =
      let lacks : has_id right x ≡ false = rw f.0 (lacks_less x y ys rises' less) in
      let stay : keeps (has_id left x) (has_id right x) ≡ keeps true false = rw (has_x, lacks) in
      subst (λ b. Merges keeps all others (done ++ one_if b x) xs right) stay
      (merge_more keeps none all others done left right xs right x m (or_left _ _ has_x) (rw e.0 (past_head x xs rises)) (rw f.0 (past_less x y ys rises' less)))

  -- of the other
  pub merge_right : y < x → Merges keeps all others (done ++ one_if (keeps false true) y) left ys
  merge_right less =
      let lacks : has_id left y ≡ false = rw e.0 (lacks_less y x xs rises less) in
      let stay : keeps (has_id left y) (has_id right y) ≡ keeps false true = rw (has_y, lacks) in
      subst (λ b. Merges keeps all others (done ++ one_if b y) left ys) stay
      (merge_more keeps none all others done left right left ys y m (or_right _ _ has_y) (rw e.0 (past_less y x xs rises less)) (rw f.0 (past_head y ys rises')))

  -- of both
  pub merge_both : x ≡ y → Merges keeps all others (done ++ one_if (keeps true true) x) xs ys
  merge_both same =
      let here : has_id right x ≡ true = rw same has_y in
      let stay : keeps (has_id left x) (has_id right x) ≡ keeps true true = rw (has_x, here) in
      let past : IsPast x right ys = rw (same, f.0) (past_head y ys rises') in
      subst (λ b. Merges keeps all others (done ++ one_if b x) xs ys) stay
      (merge_more keeps none all others done left right xs ys x m (or_left _ _ has_x) (rw e.0 (past_head x xs rises)) past)

appended : (all others done rest : List ℕ) → IsStrictlyIncreasing done → IsStrictlyIncreasing rest → ((x y : ℕ) → has_id done x ≡ true → has_id rest y ≡ true → x < y) → ((x : ℕ) → (has_id done x || has_id rest x) ≡ (has_id all x || has_id others x)) → IsSetOf (λ x. has_id all x || has_id others x) (done ++ rest)
appended all others done rest up ups above members = record {
  sorted = append_rises done rest up ups above;
  members = λ x. has_id-append done rest x ∙ members x;
}

-- one of the lists has come to its end, and what is left of the other goes behind
pub merge_end : (all others done left right : List ℕ) → Merges ◌||◌ all others done left right → (length left ≡ 0) ⊎ (length right ≡ 0) → IsSetOf (λ x. has_id all x || has_id others x) ((done ++ left) ++ right)
merge_end all others done left right m (inl none) =
    let e = nil_from_length left none in
    let members : (x : ℕ) → (has_id done x || has_id right x) ≡ (has_id all x || has_id others x) = λ x. let h = m.members x in rw e at h in
    rw (e, append-nil) (appended all others done right m.rises m.right_rises (λ x y h k. m.above x y h (or_right _ _ k)) members)
merge_end all others done left right m (inr none) =
    let e = nil_from_length right none in
    let members : (x : ℕ) → (has_id done x || has_id left x) ≡ (has_id all x || has_id others x) = λ x. let h = m.members x in rw (e, or-false (has_id left x)) at h in
    rw (e, append-nil) (appended all others done left m.rises m.left_rises (λ x y h k. m.above x y h (or_left _ _ k)) members)
