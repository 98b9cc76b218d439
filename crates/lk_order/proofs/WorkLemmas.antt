-- What is found and followed, step by step.
use Rattle.std.proofs.Common.{◌≡◌, ◌<◌, ◌≤◌, ◌+◌, ◌↔◌, ◌⊎◌, ◌++◌, ◌||◌, ◌∷◌, [], ℕ, Bool, true, false, List, Some, None, All, Contains, length, length-append, take, get_or, refl, sym, subst, ap, ◌∙◌, ⊎_elim, inl, inr, arith}
use Rattle.std.specs.Prelude.{if◌then◌else◌}
use Rattle.std.specs.List.{list_any, slice_get}
use Rattle.std.proofs.lemmas.List.{get_or_append_left, take_all}
use Rattle.std.proofs.lemmas.List.Elements.{All-contains, All-contains_itself, All-weaker}
use Rattle.lk_facts.proofs.Numbers.{contains}
use Rattle.lk_facts.specs.Places.{IsMissing}
use Rattle.lk_held.proofs.ProgressLemmas.{progress_more, progress_none}
use Rattle.lk_held.specs.Progress.{Progress}
use Rattle.lk_links.proofs.ListLemmas.{contained}
use Rattle.lk_rise.proofs.ListLemmas.{there_more}
use Rattle.lk_sets.proofs.Adding.{adds_each_more, adds_each_none, adds_none, adds_push}
use Rattle.lk_sets.specs.Adding.{IsGiven}
use Rattle.std.proofs.lemmas.Bool.{cases_eq, cases_lt}
use Rattle.std.proofs.lemmas.Option.{none-some, same_Some, slice_get-get_or, slice_get_cases, slice_get_within, get_or_from_slice_get}
use Rattle.lk_order.specs.Work.{Finds, IsWork}

module _ {X : Type 0} where
  places_append : (xs ys : List X) (i : ℕ) (x : X) → slice_get xs i ≡ Some x → slice_get (xs ++ ys) i ≡ Some x
  places_append xs ys i x at =
      let within = slice_get_within xs i x at in
      slice_get-get_or (xs ++ ys) i x (omega (arith, length-append xs ys)) ∙ ap Some (get_or_append_left xs ys x i within ∙ get_or_from_slice_get xs i x x at)

  -- what the list doesn't contain is missing from it
  pub is_missing : (xs : List X) (x : X) → (Contains xs x → ⊥) → IsMissing xs x
  is_missing xs x lacks i at = lacks (contained xs i x at)

  -- what is read at a place
  pub read_is : (xs : List X) (i : ℕ) (d : X) → i < length xs → get_or xs i d ≡ get_or xs i (get_or xs i d)
  read_is xs i d within = sym (get_or_from_slice_get xs i (get_or xs i d) (get_or xs i d) (slice_get-get_or xs i d within))

  -- nothing stands at a place past the end
  pub past_none : (xs : List X) (k : ℕ) → slice_get xs k ≡ None → length xs ≤ k
  past_none xs k none = elim (cases_lt k (length xs)) [
    | inl within ↦ of (slice_get_cases xs k).1
    | inr past ↦ past
  ]
    where
      of : ((x : X) × (k < length xs) × (slice_get xs k ≡ Some x) × (get_or xs k x ≡ x)) ⊎ ((length xs ≤ k) × (slice_get xs k ≡ None)) → length xs ≤ k
      of (inl found) = absurd (none-some found.0 (sym none ∙ found.2))
      of (inr past) = past.0

  -- nothing is found
  pub finds_none : (P : X → Type 0) (xs : List X) → ((x : X) → P x → ⊥) → Finds P xs xs
  finds_none P xs never = record { places = λ i x at. at; adds = adds_none P xs never }

  -- one is put behind the others
  pub finds_push : (xs : List X) (x : X) → Finds (λ y. x ≡ y) xs (xs ++ x ∷ [])
  finds_push xs x = record { places = places_append xs (x ∷ []); adds = adds_push xs x }

  -- one is there already
  pub finds_there : (xs : List X) (x : X) → Contains xs x → Finds (λ y. x ≡ y) xs xs
  finds_there xs x there = record {
    places = λ i y at. at;
    adds = record { members = λ y. (λ h. inl h, λ h. elim h [ inl known ↦ known | inr same ↦ subst (Contains xs) same there ]) };
  }

  -- what is found, said in another way
  pub finds_as : (P Q : X → Type 0) (old new : List X) → ((x : X) → P x ↔ Q x) → Finds P old new → Finds Q old new
  finds_as P Q old new same finds = record {
    places = finds.places;
    adds = record {
      members = λ x.
          (λ there. ⊎_elim (λ known. inl known) (λ is. inr ((same x).0 is)) ((finds.adds.members x).0 there), λ either. (finds.adds.members x).1 (⊎_elim (λ known. inl known) (λ is. inr ((same x).1 is)) either));
    };
  }

  -- what holds of all that was there and of what is found holds of all
  pub finds_all : (P Q : X → Type 0) (old new : List X) → Finds P old new → All Q old → ((x : X) → P x → Q x) → All Q new
  finds_all P Q old new finds before each =
      All-weaker (Contains new) Q (λ x there. ⊎_elim (All-contains Q old x before) (each x) ((finds.adds.members x).0 there)) new (All-contains_itself new)

  -- an insertion by a test of what is the same
  module _ (test : X → X → Bool) (same : (a b : X) → test a b ≡ true → a ≡ b) (itself : (a : X) → test a a ≡ true) where
    pub finds_put : (old new : List X) (x : X) → new ≡ (if list_any (test x) old then old else old ++ x ∷ []) → Finds (λ y. x ≡ y) old new
    finds_put old new x keys = of (list_any (test x) old) refl keys
      where
        of : (there : Bool) → list_any (test x) old ≡ there → new ≡ (if there then old else old ++ x ∷ []) → Finds (λ y. x ≡ y) old new
        of true is keys' = subst (Finds (λ y. x ≡ y) old) (sym keys') (finds_there old x ((contains test same itself old x true (sym is)).0 refl))
        of false is keys' = subst (Finds (λ y. x ≡ y) old) (sym keys') (finds_push old x)

  -- what holds of all, one element more
  pub all_more : (P : X → Type 0) (xs : List X) (k : ℕ) (x : X) → k < length xs → x ≡ get_or xs k x → ((y : X) → Contains (take k xs) y → P y) → P x → (y : X) → Contains (take (k + 1) xs) y → P y
  all_more P xs k x within is before here y there = ⊎_elim (before y) (λ same. subst P (sym same) here) ((there_more xs k x y within is).0 there)

  -- a loop over a list of what gives what is found
  module _ {E : Type 0} (Gives : E → X → Type 0) (es : List E) where
    pub finds_each_none : (xs : List X) → Finds (IsGiven Gives (take 0 es)) xs xs
    finds_each_none xs = record { places = λ i x at. at; adds = adds_each_none Gives es xs }

    pub finds_each_more : (i : ℕ) (d : E) (old mid new : List X) → i < length es → Finds (IsGiven Gives (take i es)) old mid → Finds (Gives (get_or es i d)) mid new → Finds (IsGiven Gives (take (i + 1) es)) old new
    finds_each_more i d old mid new within before finds = record {
      places = λ j x at. finds.places j x (before.places j x at);
      adds = adds_each_more Gives es i d within before.adds finds.adds;
    }

    pub finds_each_read : (i : ℕ) (e : E) (old mid new : List X) → i < length es → e ≡ get_or es i e → Finds (IsGiven Gives (take i es)) old mid → Finds (Gives e) mid new → Finds (IsGiven Gives (take (i + 1) es)) old new
    finds_each_read i e old mid new within is before finds = finds_each_more i e old mid new within before (subst (λ y. Finds (Gives y) mid new) is finds)

    pub finds_each_all : (i : ℕ) (old new : List X) → length es ≤ i → Finds (IsGiven Gives (take i es)) old new → Finds (IsGiven Gives es) old new
    finds_each_all i old new past finds = subst (λ ys. Finds (IsGiven Gives ys) old new) (take_all i es past) finds

-- a loop over a list, each element of which takes a step
module _ {S X : Type 0} (measure : S → ℕ) (Keeps : S → S → Type 0) (Step : X → S → Type 0) (xs : List X) where
  pub progress_each_none : (s : S) → Keeps s s → Progress measure Keeps (λ new. (x : X) → Contains (take 0 xs) x → Step x new) s s false
  progress_each_none s keeps = progress_none measure Keeps (λ new. (x : X) → Contains (take 0 xs) x → Step x new) s keeps (λ x there. absurd (omega (arith, there.1)))

  pub progress_each_more : (k : ℕ) (x : X) (old mid new : S) (b c : Bool) → k < length xs → x ≡ get_or xs k x → (Keeps old mid → Keeps mid new → Keeps old new) →
      Progress measure Keeps (λ s. (y : X) → Contains (take k xs) y → Step y s) old mid b → Progress measure Keeps (Step x) mid new c → Progress measure Keeps (λ s. (y : X) → Contains (take (k + 1) xs) y → Step y s) old new (b || c)
  progress_each_more k x old mid new b c within is joins first second =
      progress_more measure Keeps (λ s. (y : X) → Contains (take k xs) y → Step y s) (Step x) (λ s. (y : X) → Contains (take (k + 1) xs) y → Step y s) old mid new b c joins
      (λ done here y there. ⊎_elim (done y) (λ same. subst (λ z. Step z new) (sym same) here) ((there_more xs k x y within is).0 there))
      first second

  pub progress_each_all : (k : ℕ) (old new : S) (b : Bool) → length xs ≤ k → Progress measure Keeps (λ s. (y : X) → Contains (take k xs) y → Step y s) old new b → Progress measure Keeps (λ s. (y : X) → Contains xs y → Step y s) old new b
  progress_each_all k old new b past step = subst (λ ys. Progress measure Keeps (λ s. (y : X) → Contains ys y → Step y s) old new b) (take_all k xs past) step

module _ {X : Type 0} (Seed : X → Type 0) (Follows : X → X → Type 0) where
  -- nothing is followed yet
  pub work_none : (found : List X) → ((x : X) → Seed x → Contains found x) → IsWork Seed Follows found 0
  work_none found seeds = record { seeds = seeds; followed = λ i x y less is follows. absurd (omega (arith, less)) }

  -- one more is followed
  pub work_more : (old new : List X) (k : ℕ) (x : X) → slice_get old k ≡ Some x → Finds (Follows x) old new → IsWork Seed Follows old k → IsWork Seed Follows new (k + 1)
  work_more old new k x at finds before = record {
    seeds = λ y seed. (finds.adds.members y).1 (inl (before.seeds y seed));
    followed = λ i z y less is follows. elim (cases_eq i k) [
      | inl same ↦
          let here : x ≡ z = same_Some _ _ (sym (finds.places k x at) ∙ subst (λ j. slice_get new j ≡ Some z) same is) in
          (finds.adds.members y).1 (inr (subst (λ c. Follows c y) (sym here) follows))
      | inr other ↦
          let within : k < length old = slice_get_within old k x at in
          let earlier : slice_get old i ≡ Some (get_or old i x) = slice_get-get_or old i x (omega (arith, less, other, within)) in
          let there : get_or old i x ≡ z = same_Some _ _ (sym (finds.places i _ earlier) ∙ is) in
          (finds.adds.members y).1 (inl (before.followed i z y (omega (arith, less, other)) (earlier ∙ ap Some there) follows))
    ];
  }

  -- all are followed
  pub work_done : (found : List X) (k : ℕ) → length found ≤ k → IsWork Seed Follows found k → (x y : X) → Contains found x → Follows x y → Contains found y
  work_done found k past work x y there follows =
      work.followed there.0 x y (omega (arith, past, there.1)) (slice_get-get_or found there.0 x there.1 ∙ ap Some there.2) follows
