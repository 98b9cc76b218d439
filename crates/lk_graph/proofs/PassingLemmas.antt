-- Rows that are passed on along arrows, each where it has grown.
use Rattle.std.proofs.Common.{◌≡◌, ◌<◌, ◌≤◌, ◌+◌, ◌⊎◌, ◌||◌, ◌&&◌, ◌↔◌, ℕ, Bool, true, false, eqb, nat_lt, List, Contains, All, length, get_or, take, refl, sym, subst, ap, ◌∙◌, arith, inl, inr}
use Rattle.std.specs.Prelude.{⊤, slice_set}
use Rattle.std.proofs.lemmas.Bool.{and_from, and_parts, both_ways, cases_eq, eqb-true, lt-ltb, or_cases, or_parts}
use Rattle.std.proofs.lemmas.List.{get_or-set_other, get_or-set_same, length-set, take_all}
use Rattle.std.proofs.lemmas.List.Elements.{All-contains, All-contains_itself, All-more, All-weaker}
use Rattle.lk_facts.specs.Reach.{Plus}
use Rattle.lk_facts.specs.Reach.Plus.{one, more}
use Rattle.lk_graph.specs.Graph.{ends_of, leads}
use Rattle.lk_graph.specs.Passing.{ArePassed, ArePassedOrMarked, AreReached, IsPassed, IsRowPassed}
use Rattle.lk_graph.specs.Search.{IsArrow, IsTurned}
use Rattle.lk_graph.proofs.GraphLemmas.{eqb_turned, gather_bits, has_id_more, leads_from, one_below}
use Rattle.lk_sets.proofs.Closing.{Grown, going_more, going_none, grows_none, grows_twice}
use Rattle.lk_sets.proofs.Members.{Contains-from_has_id, has_id-from_Contains, same_answers}
use Rattle.lk_sets.specs.Closing.{Going, Grows}
use Rattle.lk_sets.specs.Ids.{has_id}
use Rattle.lk_sets.specs.Marks.{AreMarked, is_marked}
use Rattle.lk_sets.specs.Rows.{Rows, has}

pub unmarked : (r : Rows) (marks : List Bool) → AreMarked r r marks marks false
unmarked r marks = record { long = refl; grown = λ a b h. inl h; kept = λ a h. h; none = λ h. refl }

marked_twice : {old mid new : Rows} {none before now : List Bool} {b c : Bool} → AreMarked old mid none before b → AreMarked mid new before now c → AreMarked old new none now (b || c)
marked_twice {b = b} {c = c} g h = record {
  long = h.long ∙ g.long;
  grown = λ x y p. elim (h.grown x y p) [ inl before ↦ elim (g.grown x y before) [ inl first ↦ inl first | inr marked ↦ inr (h.kept x marked) ] | inr marked ↦ inr marked ];
  kept = λ x p. h.kept x (g.kept x p);
  none = λ nothing. let parts = or_parts b c nothing in h.none parts.1 ∙ g.none parts.0;
}

-- one row is passed on to another
pub passed_one : (graph : List (List ℕ)) (from into : ℕ) (old new : Rows) → IsArrow graph from into → ((x y : ℕ) → has new x y ≡ (has old x y || (eqb x into && has old from y))) → AreReached graph old → AreReached graph new
passed_one graph from into old new arrow pairs sound a b there = elim (or_cases (has old a b) _ (sym (pairs a b) ∙ there)) [
  | inl before ↦ sound a b before
  | inr now ↦
      let both = and_parts (eqb a into) _ now in
      subst (λ x. Plus (λ x y. IsArrow graph y x) x b) (sym (eqb-true a into both.0)) (more arrow (sound from b both.1))
]

-- a row passed on to the first of the numbers
pub record IsPassedTo (from : ℕ) (into : List ℕ) (i : ℕ) (old new : Rows) (before now : List Bool) (changed : Bool) : Type 0 where
  pub grows : Grows old new changed
  pub sound : (graph : List (List ℕ)) → All (IsArrow graph from) into → AreReached graph old → AreReached graph new
  pub marks : AreMarked old new before now changed
  pub passed : All (IsPassed new from) (take i into)
  pub same : (b : ℕ) → has new from b ≡ has old from b

pub passed_none : (from : ℕ) (into : List ℕ) (rows : Rows) (marks : List Bool) → IsPassedTo from into 0 rows rows marks marks false
passed_none from into rows marks = record {
  grows = grows_none rows;
  sound = λ graph arrows sound. sound;
  marks = unmarked rows marks;
  passed = λ i d below. absurd (omega (arith, below));
  same = λ b. refl;
}

pub passed_more : {from : ℕ} {into : List ℕ} {old mid new : Rows} {before lent now : List Bool} {b c : Bool} (i d : ℕ) → i < length into → IsPassedTo from into i old mid before lent b →
    Grows mid new c → ((graph : List (List ℕ)) → IsArrow graph from (get_or into i d) → AreReached graph mid → AreReached graph new) → AreMarked mid new lent now c → IsPassed new from (get_or into i d) → ((y : ℕ) → has new from y ≡ has mid from y) →
    IsPassedTo from into (i + 1) old new before now (b || c)
passed_more {from} {into} {old} {mid} {new} i d below p grows sound marks here same = record {
  grows = grows_twice p.grows grows;
  sound = λ graph arrows before. sound graph (arrows i d below) (p.sound graph arrows before);
  marks = marked_twice p.marks marks;
  passed = All-more (IsPassed new from) into i d below (All-weaker (IsPassed mid from) (IsPassed new from) (λ x passes y there. grows.kept x y (passes y (sym (same y) ∙ there))) (take i into) p.passed) here;
  same = λ y. same y ∙ p.same y;
}

pub passed_all : {from : ℕ} {into : List ℕ} {old new : Rows} {before now : List Bool} {changed : Bool} (i : ℕ) → length into ≤ i → IsPassedTo from into i old new before now changed → All (IsPassed new from) into
passed_all {from} {into} {new = new} i past p = subst (All (IsPassed new from)) (take_all i into past) p.passed

-- a row that is passed on to all of them
module _ (graph : List (List ℕ)) (a : ℕ) (old new : Rows) (before mid now : List Bool) (changed : Bool) (within : a < length before)
    (grows : Grows old new changed) (sound : All (IsArrow graph a) (ends_of graph a) → AreReached graph old → AreReached graph new) (marks : AreMarked old new before mid changed) (clear : now ≡ slice_set mid a false) (passed : All (IsPassed new a) (ends_of graph a)) where
  marked_now : (x : ℕ) → (x ≡ a → ⊥) → is_marked now x ≡ is_marked mid x
  marked_now x other = ap (λ list. is_marked list x) clear ∙ get_or-set_other mid a x false false other

  here_not : is_marked now a ≡ false
  here_not = ap (λ list. is_marked list a) clear ∙ get_or-set_same mid a false false (omega (arith, within, marks.long))

  pub row_passed : IsRowPassed graph a old new before now changed
  row_passed = record {
    going = record {
      grows = grows;
      sound = sound (All-weaker (Contains (ends_of graph a)) (IsArrow graph a) (λ b there. has_id-from_Contains (ends_of graph a) b there) (ends_of graph a) (All-contains_itself (ends_of graph a)));
      done = λ _. tt;
    };
    long = ap length clear ∙ length-set mid a false ∙ marks.long;
    waits = λ waits x y arrow. elim (cases_eq x a) [
      | inl same ↦ inl (subst (λ z. IsPassed new z y) (sym same) (All-contains (IsPassed new a) (ends_of graph a) y passed (Contains-from_has_id (ends_of graph a) y (subst (λ z. leads graph z y ≡ true) same arrow))))
      | inr other ↦ elim (waits x y arrow) [
        | inr is ↦ inr (marked_now x other ∙ marks.kept x is)
        | inl passes ↦ still x y other passes
      ]
    ];
    fewer = λ nothing x is. elim (cases_eq x a) [
      | inl same ↦ absurd (both_ways (is_marked now x) (subst (λ z. is_marked now z ≡ false) (sym same) here_not) is)
      | inr other ↦ subst (λ list. is_marked list x ≡ true) (marks.none nothing) (sym (marked_now x other) ∙ is)
    ];
    done = λ nothing. here_not;
  }
    where
      still : (x y : ℕ) → (x ≡ a → ⊥) → IsPassed old x y → IsPassed new x y ⊎ (is_marked now x ≡ true)
      still x y other passes = by (is_marked mid x) refl
        where
          by : (q : Bool) → is_marked mid x ≡ q → IsPassed new x y ⊎ (is_marked now x ≡ true)
          by true is = inr (marked_now x other ∙ is)
          by false is = inl (λ b there. elim (marks.grown x b there) [
            | inl was ↦ grows.kept y b (passes b was)
            | inr grown ↦ absurd (both_ways false refl (sym is ∙ grown))
          ])

pub row_rests : (graph : List (List ℕ)) (a : ℕ) (rows : Rows) (marks : List Bool) → is_marked marks a ≡ false → IsRowPassed graph a rows rows marks marks false
row_rests graph a rows marks none = record {
  going = going_none (AreReached graph) _ rows tt;
  long = refl;
  waits = λ waits. waits;
  fewer = λ nothing x is. is;
  done = λ nothing. none;
}

-- where a round over the numbers of an order stands
pub record IsRound (graph : List (List ℕ)) (order : List ℕ) (i : ℕ) (old new : Rows) (marks : List Bool) (changed : Bool) : Type 0 where
  pub going : Going (AreReached graph) (λ _. ⊤) old new changed
  pub long : length marks ≡ length graph
  pub waits : ArePassedOrMarked graph marks new
  pub done : changed ≡ false → (x : ℕ) → has_id (take i order) x ≡ true → is_marked marks x ≡ false

pub round_more : {graph : List (List ℕ)} {order : List ℕ} {old mid new : Rows} {before now : List Bool} {b c : Bool} (i d : ℕ) → i < length order → IsRound graph order i old mid before b → IsRowPassed graph (get_or order i d) mid new before now c → IsRound graph order (i + 1) old new now (b || c)
round_more {graph} {order} {old} {mid} {new} {before} {now} {b} {c} i d below round row = record {
  going = going_more (λ _ _ _. tt) round.going row.going;
  long = row.long ∙ round.long;
  waits = row.waits round.waits;
  done = λ nothing x there.
      let none = or_parts b c nothing in
      elim (or_cases (has_id (take i order) x) _ (sym (has_id_more order i d x below) ∙ there)) [
        | inr same ↦ subst (λ y. is_marked now y ≡ false) (eqb-true (get_or order i d) x same) (row.done none.1)
        | inl earlier ↦ not_now x (round.done none.0 x earlier) none.1
      ];
}
  where
    not_now : (x : ℕ) → is_marked before x ≡ false → c ≡ false → is_marked now x ≡ false
    not_now x was nothing = by (is_marked now x) refl
      where
        by : (q : Bool) → is_marked now x ≡ q → is_marked now x ≡ false
        by false is = is
        by true is = absurd (both_ways (is_marked before x) was (row.fewer nothing x is))

pub round_all : {graph : List (List ℕ)} {order : List ℕ} {old new : Rows} {marks : List Bool} {changed : Bool} (i : ℕ) → length order ≤ i → ((a : ℕ) → (has_id order a ≡ true) ↔ (a < length graph)) → IsRound graph order i old new marks changed → Going (AreReached graph) (ArePassed graph) old new changed
round_all {graph} {order} {old} {new} {marks} i past all round = record {
  grows = round.going.grows;
  sound = round.going.sound;
  done = λ nothing a b arrow. elim (round.waits a b arrow) [
    | inl passes ↦ passes
    | inr is ↦ absurd (both_ways (is_marked marks a) (round.done nothing a (subst (λ ids. has_id ids a ≡ true) (sym (take_all i order past)) ((all a).1 (leads_from graph a b arrow)))) is)
  ];
}

-- rows that have the arrows, and that all arrows the other way round have passed on, have all that arrows lead to
module _ (graph back : List (List ℕ)) (turned : IsTurned graph back) where
  to_graph : {a b : ℕ} → Plus (λ x y. IsArrow back y x) a b → Plus (IsArrow graph) a b
  to_graph (one {a} {b} step) = one (sym (turned.arrows b a) ∙ step)
  to_graph (more {a} {b} {c} step rest) = more (sym (turned.arrows b a) ∙ step) (to_graph rest)

  all_there : (rows : Rows) → ((a b : ℕ) → leads graph a b ≡ true → has rows a b ≡ true) → ArePassed back rows → {a b : ℕ} → Plus (IsArrow graph) a b → has rows a b ≡ true
  all_there rows first passed (one {a} {b} step) = first a b step
  all_there rows first passed (more {a} {b} {c} step rest) = passed b a (turned.arrows b a ∙ step) c (all_there rows first passed rest)

  pub closed_rows : (first rows : Rows) → ((a b : ℕ) → has first a b ≡ leads graph a b) → Grown (AreReached back) first rows → ArePassed back rows → (a b : ℕ) → (has rows a b ≡ true) ↔ Plus (IsArrow graph) a b
  closed_rows first rows are grown passed a b = (
    λ there. to_graph (grown.sound (λ x y h. one (turned.arrows y x ∙ sym (are x y) ∙ h)) a b there),
    λ chain. all_there rows (λ x y h. grown.kept x y (are x y ∙ h)) passed chain,
  )

-- at first each row is marked
pub all_marked : (graph : List (List ℕ)) (rows : Rows) (marks : List Bool) → ((a : ℕ) → a < length graph → is_marked marks a ≡ true) → ArePassedOrMarked graph marks rows
all_marked graph rows marks are a b arrow = inr (are a (leads_from graph a b arrow))

-- one number more in a row
pub row_more : (ids : List ℕ) (i d a : ℕ) (old mid new : Rows) → i < length ids → ((x y : ℕ) → has mid x y ≡ (has old x y || (eqb x a && has_id (take i ids) y))) → ((x y : ℕ) → has new x y ≡ (has mid x y || (eqb x a && eqb y (get_or ids i d)))) → (x y : ℕ) → has new x y ≡ (has old x y || (eqb x a && has_id (take (i + 1) ids) y))
row_more ids i d a old mid new below before put x y =
    put x y
    ∙ ap (λ b. b || (eqb x a && eqb y (get_or ids i d))) (before x y)
    ∙ ap (λ b. (has old x y || (eqb x a && has_id (take i ids) y)) || (eqb x a && b)) (eqb_turned y (get_or ids i d))
    ∙ gather_bits (has old x y) (eqb x a) (has_id (take i ids) y) (eqb (get_or ids i d) y)
    ∙ ap (λ b. has old x y || (eqb x a && b)) (sym (has_id_more ids i d y below))

-- the rows of one number more
pub rows_more : (graph : List (List ℕ)) (n : ℕ) (old new : Rows) → ((x y : ℕ) → has old x y ≡ (nat_lt x n && leads graph x y)) → ((x y : ℕ) → has new x y ≡ (has old x y || (eqb x n && leads graph n y))) → (x y : ℕ) → has new x y ≡ (nat_lt x (n + 1) && leads graph x y)
rows_more graph n old new before put x y = put x y ∙ ap (λ b. b || (eqb x n && leads graph n y)) (before x y) ∙ one_below (λ z. leads graph z y) n x

pub rows_all : (graph : List (List ℕ)) (n : ℕ) (rows : Rows) → length graph ≤ n → ((x y : ℕ) → has rows x y ≡ (nat_lt x n && leads graph x y)) → (a b : ℕ) → has rows a b ≡ leads graph a b
rows_all graph n rows past are a b = same_answers _ _
    (λ h. (and_parts (nat_lt a n) _ (sym (are a b) ∙ h)).1)
    (λ h. are a b ∙ and_from _ _ (lt-ltb a n (omega (arith, past, leads_from graph a b h))) h)
