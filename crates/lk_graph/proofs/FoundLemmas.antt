-- Numbers that are found, and lists of what is found at the points one after the other.
use Rattle.std.proofs.Common.{◌≡◌, ◌<◌, ◌≤◌, ◌+◌, ◌++◌, ◌↔◌, ℕ, Bool, true, false, List, [], ◌∷◌, Some, Contains, All, length, take, get_or, refl, sym, subst, ap, ◌∙◌, arith, inl, inr}
use Rattle.std.proofs.Math.ListN.{get_or-append}
use Rattle.std.proofs.lemmas.Bool.{false≢true, cases_eq, cases_lt}
use Rattle.std.proofs.lemmas.List.{length-append, get_or_past}
use Rattle.std.proofs.lemmas.List.Elements.{Contains-get_or}
use Rattle.std.proofs.lemmas.Option.{same_Some, slice_get-get_or, slice_get_within, get_or_from_slice_get}
use Rattle.lk_sets.specs.Adding.{Adds, IsGiven}
use Rattle.lk_sets.specs.Ids.{has_id}
use Rattle.lk_sets.proofs.Adding.{adds_as, adds_each_all, adds_each_none, adds_each_more, adds_none, adds_push}
use Rattle.lk_sets.proofs.Members.{Contains-from_has_id, has_id-from_Contains}
use Rattle.lk_graph.specs.Found.{FoundList, Finds, KeepsPlaces, found_of}
use Rattle.lk_graph.specs.Order.{AreMarked}

-- what is marked was found
pub marked_there : (seen : List Bool) (list : List ℕ) (x : ℕ) (b : Bool) → x < length seen → b ≡ get_or seen x b → b ≡ true → AreMarked seen list → Contains list x
marked_there seen list x b within read is marked =
    let same : get_or seen x false ≡ get_or seen x b = same_Some _ _ (sym (slice_get-get_or seen x false within) ∙ slice_get-get_or seen x b within) in
    Contains-from_has_id list x (marked x ∙ same ∙ sym read ∙ is)

-- what is marked is below the size
pub marked_below : (seen : List Bool) (list : List ℕ) → AreMarked seen list → All (λ x. x < length seen) list
marked_below seen list marked i d within =
    let x = get_or list i d in
    let there : has_id list x ≡ true = has_id-from_Contains list x (Contains-get_or list i d within) in
    elim (cases_lt x (length seen)) [
      | inl below ↦ below
      | inr past ↦ absurd (false≢true (sym (get_or_past seen x false past) ∙ sym (marked x) ∙ there))
    ]

places_append : (xs ys : List ℕ) → KeepsPlaces xs (xs ++ ys)
places_append xs ys i x at =
    let within = slice_get_within xs i x at in
    slice_get-get_or (xs ++ ys) i x (omega (arith, length-append xs ys)) ∙ ap Some (get_or-append xs ys x i within ∙ get_or_from_slice_get xs i x x at)

-- a number is put behind the others
pub finds_push : (size size' : ℕ) (list list' : List ℕ) (x : ℕ) → size' ≡ size → list' ≡ list ++ x ∷ [] → Finds (λ y. x ≡ y) (found_of size list) (found_of size' list')
finds_push size size' list list' x same is = record {
  size = same;
  places = subst (KeepsPlaces list) (sym is) (places_append list (x ∷ []));
  adds = subst (Adds (λ y. x ≡ y) list) (sym is) (adds_push list x);
}

-- a number that is there
pub finds_there : (found : FoundList) (x : ℕ) → Contains found.list x → Finds (λ y. x ≡ y) found found
finds_there found x there = record {
  size = refl;
  places = λ i y at. at;
  adds = record { members = λ y. (λ h. inl h, λ h. elim h [ inl known ↦ known | inr same ↦ subst (Contains found.list) same there ]) };
}

-- where something holds a number is put, and else none
module _ (x : ℕ) (P : Type 0) where
  pub finds_where : (old new : FoundList) → P → Finds (λ y. x ≡ y) old new → Finds (λ y. (x ≡ y) × P) old new
  finds_where old new holds finds = record { size = finds.size; places = finds.places; adds = adds_as (λ y. (λ same. (same, holds), λ both. both.0)) finds.adds }

  pub finds_never : (found : FoundList) → (P → ⊥) → Finds (λ y. (x ≡ y) × P) found found
  finds_never found never = record { size = refl; places = λ i y at. at; adds = adds_none (λ y. (x ≡ y) × P) found.list (λ y both. never both.1) }

module _ {E : Type 0} (Gives : E → ℕ → Type 0) (es : List E) where
  pub finds_each_none : (found : FoundList) → Finds (IsGiven Gives (take 0 es)) found found
  finds_each_none found = record { size = refl; places = λ i x at. at; adds = adds_each_none Gives es found.list }

  pub finds_each_more : (i : ℕ) (d : E) (old mid new : FoundList) → i < length es → Finds (IsGiven Gives (take i es)) old mid → Finds (Gives (get_or es i d)) mid new → Finds (IsGiven Gives (take (i + 1) es)) old new
  finds_each_more i d old mid new within before finds = record {
    size = finds.size ∙ before.size;
    places = λ j x at. finds.places j x (before.places j x at);
    adds = adds_each_more Gives es i d within before.adds finds.adds;
  }

  pub finds_each_all : (i : ℕ) (old new : FoundList) → length es ≤ i → Finds (IsGiven Gives (take i es)) old new → Finds (IsGiven Gives es) old new
  finds_each_all i old new past finds = record { size = finds.size; places = finds.places; adds = adds_each_all Gives es i past finds.adds }

-- lists of what each number below n gives
module _ {X : Type 0} (Gives : ℕ → X → Type 0) where
  abbrev pub AreGivenBelow : ℕ → List X → Type 0
  AreGivenBelow n xs = (x : X) → Contains xs x ↔ ((q : ℕ) × (q < n) × Gives q x)

  pub below_none : (xs : List X) → xs ≡ [] → AreGivenBelow 0 xs
  below_none xs none x = (λ there. absurd (omega (arith, subst (λ ys. there.0 < length ys) none there.1)), λ given. absurd (omega (arith, given.1)))

  pub below_more : (n : ℕ) (old new : List X) → Adds (Gives n) old new → AreGivenBelow n old → AreGivenBelow (n + 1) new
  below_more n old new adds before x = (
    λ there. elim ((adds.members x).0 there) [
      | inl known ↦ let given = (before x).0 known in (given.0, omega (arith, given.1), given.2)
      | inr here ↦ (n, omega arith, here)
    ],
    λ given. (adds.members x).1 (elim (cases_eq given.0 n) [
      | inl same ↦ inr (subst (λ q. Gives q x) same given.2)
      | inr other ↦ inl ((before x).1 (given.0, omega (arith, given.1), given.2))
    ]),
  )
