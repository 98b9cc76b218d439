-- Arrows that are put one after the other.
use Rattle.std.proofs.Common.{◌≡◌, ◌<◌, ◌≤◌, ◌+◌, ◌&&◌, ◌||◌, ℕ, Bool, true, false, eqb, nat_lt, List, [], All, length, get_or, take, refl, sym, subst, ap, ◌∙◌, arith, inl, inr}
use Rattle.std.proofs.lemmas.Bool.{false≢true, and_from, and_parts, cases_eq, cases_lt, both_ways, eq-eqb, eqb-true, lt-ltb, ltb-true, or_cases, or_left, or_right}
use Rattle.std.proofs.lemmas.List.{get_or_past}
use Rattle.std.proofs.lemmas.List.Elements.{All-contains}
use Rattle.std.proofs.lemmas.List.Folds.{list_any_more}
use Rattle.lk_graph.specs.Graph.{IsGraph, ends_of, leads}
use Rattle.lk_sets.proofs.Members.{Contains-from_has_id, same_answers}
use Rattle.lk_sets.specs.Ids.{has_id}

-- lists that are all empty
pub empty_graph : (n : ℕ) (graph : List (List ℕ)) → length graph ≡ n → All (λ ends. ends ≡ []) graph → IsGraph n graph
empty_graph n graph all empty = record {
  all = all;
  within = λ i d below. subst (All (λ b. b < n)) (sym (empty i d below)) (λ j e less. absurd (omega (arith, less)));
}

pub empty_leads : (graph : List (List ℕ)) → All (λ ends. ends ≡ []) graph → (a b : ℕ) → leads graph a b ≡ false
empty_leads graph empty a b = elim (cases_lt a (length graph)) [
  | inl below ↦ ap (λ ends. has_id ends b) (empty a [] below)
  | inr past ↦ ap (λ ends. has_id ends b) (get_or_past graph a [] past)
]

-- arrows lead from numbers below the size to such
pub leads_within : (n : ℕ) (graph : List (List ℕ)) → IsGraph n graph → (a b : ℕ) → leads graph a b ≡ true → (a < length graph) × (b < length graph)
leads_within n graph is a b there = elim (cases_lt a (length graph)) [
  | inl below ↦ (below, omega (arith, is.all, All-contains (λ x. x < n) (ends_of graph a) b (is.within a [] below) (Contains-from_has_id (ends_of graph a) b there)))
  | inr past ↦ absurd (false≢true (sym (ap (λ ends. has_id ends b) (get_or_past graph a [] past)) ∙ there))
]

pub leads_from : (graph : List (List ℕ)) (a b : ℕ) → leads graph a b ≡ true → a < length graph
leads_from graph a b there = elim (cases_lt a (length graph)) [
  | inl below ↦ below
  | inr past ↦ absurd (false≢true (sym (ap (λ ends. has_id ends b) (get_or_past graph a [] past)) ∙ there))
]

pub eqb_turned : (a b : ℕ) → eqb a b ≡ eqb b a
eqb_turned a b = same_answers (eqb a b) (eqb b a) (λ h. eq-eqb b a (sym (eqb-true a b h))) (λ h. eq-eqb a b (sym (eqb-true b a h)))

spread_bits : (l t e i : Bool) → ((l || (t && i)) || (e && i)) ≡ (l || ((t || e) && i))
spread_bits true t e i = refl
spread_bits false true true true = refl
spread_bits false true true false = refl
spread_bits false true false true = refl
spread_bits false true false false = refl
spread_bits false false true true = refl
spread_bits false false true false = refl
spread_bits false false false true = refl
spread_bits false false false false = refl

pub gather_bits : (l p a e : Bool) → ((l || (p && a)) || (p && e)) ≡ (l || (p && (a || e)))
gather_bits true p a e = refl
gather_bits false true a e = refl
gather_bits false false a e = refl

-- one more number of a list
pub has_id_more : (ids : List ℕ) (i d x : ℕ) → i < length ids → has_id (take (i + 1) ids) x ≡ (has_id (take i ids) x || eqb (get_or ids i d) x)
has_id_more ids i d x within = list_any_more (λ y. eqb y x) ids i d within

-- arrows from one number more
pub puts_more : (from : List ℕ) (i d into : ℕ) (old mid new : List (List ℕ)) → i < length from →
    ((x y : ℕ) → leads mid x y ≡ (leads old x y || (has_id (take i from) x && eqb y into))) →
    ((x y : ℕ) → leads new x y ≡ (leads mid x y || (eqb x (get_or from i d) && eqb y into))) →
    (x y : ℕ) → leads new x y ≡ (leads old x y || (has_id (take (i + 1) from) x && eqb y into))
puts_more from i d into old mid new within before put x y =
    let a = get_or from i d in
    put x y
    ∙ ap (λ b. b || (eqb x a && eqb y into)) (before x y)
    ∙ ap (λ b. (leads old x y || (has_id (take i from) x && eqb y into)) || (b && eqb y into)) (eqb_turned x a)
    ∙ spread_bits (leads old x y) (has_id (take i from) x) (eqb a x) (eqb y into)
    ∙ ap (λ b. leads old x y || (b && eqb y into)) (sym (has_id_more from i d x within))

-- arrows to one number more, of a list of which some count
module _ (counts : ℕ → Bool) (ids : List ℕ) (i d : ℕ) (within : i < length ids) where
  counted_more : (q : ℕ) → counts (get_or ids i d) ≡ true → ((counts q && has_id (take i ids) q) || eqb q (get_or ids i d)) ≡ (counts q && has_id (take (i + 1) ids) q)
  counted_more q is = same_answers _ _
      (λ h. elim (or_cases (counts q && has_id (take i ids) q) _ h) [
        | inl known ↦ let both = and_parts (counts q) _ known in and_from _ _ both.0 (has_id_more ids i d q within ∙ or_left _ _ both.1)
        | inr same ↦
            let here = eqb-true q (get_or ids i d) same in
            and_from _ _ (subst (λ x. counts x ≡ true) (sym here) is) (has_id_more ids i d q within ∙ or_right (has_id (take i ids) q) _ (eq-eqb (get_or ids i d) q (sym here)))
      ])
      (λ h.
      let both = and_parts (counts q) _ h in
      elim (or_cases (has_id (take i ids) q) _ (sym (has_id_more ids i d q within) ∙ both.1)) [
        | inl known ↦ or_left _ _ (and_from _ _ both.0 known)
        | inr same ↦ or_right (counts q && has_id (take i ids) q) _ (eq-eqb q (get_or ids i d) (sym (eqb-true (get_or ids i d) q same)))
      ])

  counted_skip : (q : ℕ) → counts (get_or ids i d) ≡ false → (counts q && has_id (take i ids) q) ≡ (counts q && has_id (take (i + 1) ids) q)
  counted_skip q is = same_answers _ _
      (λ h. let both = and_parts (counts q) _ h in and_from _ _ both.0 (has_id_more ids i d q within ∙ or_left _ _ both.1))
      (λ h.
      let both = and_parts (counts q) _ h in
      elim (or_cases (has_id (take i ids) q) _ (sym (has_id_more ids i d q within) ∙ both.1)) [
        | inl known ↦ and_from _ _ both.0 known
        | inr same ↦ absurd (both_ways (counts q) (subst (λ x. counts x ≡ false) (eqb-true (get_or ids i d) q same) is) both.0)
      ])

  pub counted_put : (a : ℕ) (old mid new : List (List ℕ)) → counts (get_or ids i d) ≡ true →
      ((p q : ℕ) → leads mid p q ≡ (leads old p q || (eqb p a && (counts q && has_id (take i ids) q)))) →
      ((p q : ℕ) → leads new p q ≡ (leads mid p q || (eqb p a && eqb q (get_or ids i d)))) →
      (p q : ℕ) → leads new p q ≡ (leads old p q || (eqb p a && (counts q && has_id (take (i + 1) ids) q)))
  counted_put a old mid new is before put p q =
      put p q
      ∙ ap (λ b. b || (eqb p a && eqb q (get_or ids i d))) (before p q)
      ∙ gather_bits (leads old p q) (eqb p a) (counts q && has_id (take i ids) q) (eqb q (get_or ids i d))
      ∙ ap (λ b. leads old p q || (eqb p a && b)) (counted_more q is)

  pub counted_not : (a : ℕ) (old new : List (List ℕ)) → counts (get_or ids i d) ≡ false →
      ((p q : ℕ) → leads new p q ≡ (leads old p q || (eqb p a && (counts q && has_id (take i ids) q)))) →
      (p q : ℕ) → leads new p q ≡ (leads old p q || (eqb p a && (counts q && has_id (take (i + 1) ids) q)))
  counted_not a old new is before p q = before p q ∙ ap (λ b. leads old p q || (eqb p a && b)) (counted_skip q is)

-- one more number, at which a test holds
pub one_below : (test : ℕ → Bool) (n y : ℕ) → ((nat_lt y n && test y) || (eqb y n && test n)) ≡ (nat_lt y (n + 1) && test y)
one_below test n y = same_answers _ _
    (λ h. elim (or_cases (nat_lt y n && test y) _ h) [
      | inl before ↦ let both = and_parts (nat_lt y n) _ before in and_from _ _ (lt-ltb y (n + 1) (omega (arith, ltb-true y n both.0))) both.1
      | inr here ↦
          let both = and_parts (eqb y n) _ here in
          let same = eqb-true y n both.0 in
          and_from _ _ (lt-ltb y (n + 1) (omega (arith, same))) (subst (λ z. test z ≡ true) (sym same) both.1)
    ])
    (λ h.
    let both = and_parts (nat_lt y (n + 1)) _ h in
    elim (cases_eq y n) [
      | inl same ↦ or_right (nat_lt y n && test y) _ (and_from _ _ (eq-eqb y n same) (subst (λ z. test z ≡ true) same both.1))
      | inr other ↦ or_left _ _ (and_from _ _ (lt-ltb y n (omega (arith, ltb-true y (n + 1) both.0, other))) both.1)
    ])

turn_and : (a b : Bool) → (a && b) ≡ (b && a)
turn_and true true = refl
turn_and true false = refl
turn_and false true = refl
turn_and false false = refl

-- the arrows from one number more, turned
pub turned_more : (graph old new : List (List ℕ)) (n : ℕ) →
    ((x y : ℕ) → leads old x y ≡ (nat_lt y n && leads graph y x)) →
    ((x y : ℕ) → leads new x y ≡ (leads old x y || (leads graph n x && eqb y n))) →
    (x y : ℕ) → leads new x y ≡ (nat_lt y (n + 1) && leads graph y x)
turned_more graph old new n before put x y =
    put x y
    ∙ ap (λ b. b || (leads graph n x && eqb y n)) (before x y)
    ∙ ap (λ b. (nat_lt y n && leads graph y x) || b) (turn_and (leads graph n x) (eqb y n))
    ∙ one_below (λ z. leads graph z x) n y

-- all of them
pub turned_all : (graph turned : List (List ℕ)) (n : ℕ) → length graph ≤ n → ((x y : ℕ) → leads turned x y ≡ (nat_lt y n && leads graph y x)) → (a b : ℕ) → leads turned a b ≡ leads graph b a
turned_all graph turned n past all a b = same_answers _ _
    (λ h. (and_parts (nat_lt b n) _ (sym (all a b) ∙ h)).1)
    (λ h. all a b ∙ and_from _ _ (lt-ltb b n (omega (arith, past, leads_from graph b a h))) h)

-- the steps at one point more
pub steps_more : (at : ℕ → List ℕ) (old new : List (List ℕ)) (n : ℕ) →
    ((p q : ℕ) → leads old p q ≡ (nat_lt p n && has_id (at p) q)) →
    ((p q : ℕ) → leads new p q ≡ (leads old p q || (eqb p n && has_id (at n) q))) →
    (p q : ℕ) → leads new p q ≡ (nat_lt p (n + 1) && has_id (at p) q)
steps_more at old new n before put p q =
    put p q
    ∙ ap (λ b. b || (eqb p n && has_id (at n) q)) (before p q)
    ∙ one_below (λ z. has_id (at z) q) n p
