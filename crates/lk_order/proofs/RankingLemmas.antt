-- Ranks that rise by pairs of places, and the places before others.
use Rattle.std.proofs.Common.{◌≡◌, ◌<◌, ◌≤◌, ◌-◌, ◌+◌, ◌&&◌, ◌||◌, ◌↔◌, ℕ, suc, eqb, map, take, true, false, List, Contains, All, length, get_or, replicate, set, refl, sym, subst, ap, ◌∙◌, inl, inr, arith}
use Rattle.std.proofs.lemmas.Bool.{and_from, and_parts, cases_eq, cases_lt, eqb-true, eq-eqb, false≢true, or_cases, or_left, or_right}
use Rattle.std.proofs.lemmas.List.{get_or-replicate, get_or-set_other, get_or-set_same, get_or_past, length-replicate, length-set}
use Rattle.std.proofs.lemmas.List.Elements.{All-contains, All-contains_itself, All-weaker}
use Rattle.std.proofs.lemmas.List.Sums.{sum_by-set}
use Rattle.lk_facts.specs.Reach.{Plus}
use Rattle.lk_facts.specs.Reach.Plus.{one, more}
use Rattle.lk_graph.proofs.StepLemmas.{plus_end}
use Rattle.lk_links.proofs.SetLemmas.{All-from_has_id, at_most, shorter}
use Rattle.lk_held.proofs.ProgressLemmas.{progress_none}
use Rattle.lk_held.specs.Progress.{Progress}
use Rattle.lk_order.specs.Ranking.{Leads, AreBefore, AreOrdered, AreRising, AreRanksBy, HasRisen, IsPairWithin, Rises, rank_in, to_rise}
use Rattle.lk_order.specs.Table.{pair_of}
use Rattle.lk_order.specs.declared.order.Pair.{Pair}
use Rattle.lk_order.proofs.WorkLemmas.{read_is}
use Rattle.lk_rise.proofs.ListLemmas.{in_map, there_more}
use Rattle.lk_sets.specs.Rows.{Rows, has, row_of}
use Rattle.lk_sets.specs.Spread.{IsWithin, Spread}
use Rattle.lk_sets.specs.declared.spread.Arrow.{Arrow}

-- rows that arrows spread
module _ (pairs : List Pair) (arrows : List Arrow) (rows : Rows) (first : (q o : ℕ) → (has rows q o ≡ true) ↔ Leads pairs o q)
    (arrow : (o q : ℕ) → Leads pairs o q → Contains arrows (record { from = o; into = q })) (pair : (a : Arrow) → Contains arrows a → Leads pairs a.from a.into) where
  spread_before : {q o : ℕ} → Spread arrows rows q o → Plus (Leads pairs) o q
  spread_before {q} {o} (Spread.stands there) = one ((first q o).0 there)
  spread_before (Spread.passed a there before) = plus_end (spread_before before) (pair a there)

  carried : {o b q : ℕ} → Spread arrows rows b o → Plus (Leads pairs) b q → Spread arrows rows q o
  carried {o} {b} {q} before (one leads) = Spread.passed (record { from = b; into = q }) (arrow b q leads) before
  carried {o} {b} {q} before (more {b = c} leads rest) = carried (Spread.passed (record { from = b; into = c }) (arrow b c leads) before) rest

  before_spread : {o q : ℕ} → Plus (Leads pairs) o q → Spread arrows rows q o
  before_spread {o} {q} (one leads) = Spread.stands ((first q o).1 leads)
  before_spread {o} {q} (more {b = b} leads rest) = carried (Spread.stands ((first b o).1 leads)) rest

  pub before_are : (size : ℕ) (before : Rows) → before.size ≡ size → ((q o : ℕ) → (has before q o ≡ true) ↔ Spread arrows rows q o) → AreBefore pairs size before
  before_are size before same spread = record {
    size = same;
    members = λ q o. (λ there. spread_before ((spread q o).0 there), λ plus. (spread q o).1 (before_spread plus));
  }

abbrev pub arrow_of : Pair → Arrow
arrow_of pair = record { from = pair.held; into = pair.wanted }

pub arrows_within : (pairs : List Pair) (size : ℕ) → All (IsPairWithin size) pairs → All (IsWithin size) (map arrow_of pairs)
arrows_within pairs size within =
    All-weaker (Contains (map arrow_of pairs)) (IsWithin size)
    (λ a there.
    let found = (in_map arrow_of pairs a).0 there in
    subst (IsWithin size) found.2 (All-contains (IsPairWithin size) pairs found.0 within found.1))
    (map arrow_of pairs) (All-contains_itself (map arrow_of pairs))

-- rows that have the pairs, and arrows for these
module _ (pairs : List Pair) (rows before : Rows) (size : ℕ) (same : before.size ≡ size) (first : (q o : ℕ) → (has rows q o ≡ true) ↔ Leads pairs o q) (spread : (q o : ℕ) → (has before q o ≡ true) ↔ Spread (map arrow_of pairs) rows q o) where
  pub before_is : AreBefore pairs size before
  before_is =
      before_are pairs (map arrow_of pairs) rows first
      (λ o q leads. (in_map arrow_of pairs (record { from = o; into = q })).1 (pair_of o q, leads, refl))
      (λ a there. let found = (in_map arrow_of pairs a).0 there in subst (λ (b : Arrow). Leads pairs b.from b.into) found.2 found.1)
      size before same spread

-- one pair more
pub leads_more : (pairs : List Pair) (k : ℕ) (d : Pair) (old new : Rows) → k < length pairs → ((x y : ℕ) → has new x y ≡ (has old x y || eqb x (get_or pairs k d).wanted && eqb y (get_or pairs k d).held)) →
    ((q o : ℕ) → (has old q o ≡ true) ↔ Leads (take k pairs) o q) → (q o : ℕ) → (has new q o ≡ true) ↔ Leads (take (k + 1) pairs) o q
leads_more pairs k d old new within put before q o =
    let pair = get_or pairs k d in
    let more = there_more pairs k pair (pair_of o q) within (read_is pairs k d within) in (
      λ there.
          elim (or_cases (has old q o) (eqb q pair.wanted && eqb o pair.held) (sym (put q o) ∙ there)) [
            | inl earlier ↦ more.1 (inl ((before q o).0 earlier))
            | inr now ↦
                let parts = and_parts (eqb q pair.wanted) (eqb o pair.held) now in
                let wanted = eqb-true q pair.wanted parts.0 in
                let held = eqb-true o pair.held parts.1 in
                more.1 (inr (λ i. record { held = held i; wanted = wanted i }))
          ],
      λ leads.
          put q o ∙ elim (more.0 leads) [
            | inl earlier ↦ or_left _ _ ((before q o).1 earlier)
            | inr same ↦
                let wanted : q ≡ pair.wanted = ap (λ (p : Pair). p.wanted) same in
                let held : o ≡ pair.held = ap (λ (p : Pair). p.held) same in
                or_right (has old q o) _ (and_from (eqb q pair.wanted) (eqb o pair.held) (eq-eqb q pair.wanted wanted) (eq-eqb o pair.held held))
          ],
    )

-- ranks that rise
module _ (pairs : List Pair) (before : Rows) (ordered : AreOrdered pairs before) where
  -- more places are before what a pair wants
  more_before : (q r : ℕ) → Leads pairs q r → length (row_of before q) < length (row_of before r)
  unfolding has
  more_before q r leads =
      shorter (row_of before q) (row_of before r) (ordered.square.sorted q) (ordered.square.sorted r)
      (λ o there. (ordered.first.members r o).1 (plus_end ((ordered.first.members q o).0 there) leads)) q ((ordered.first.members r q).1 (one leads)) (ordered.acyclic q)

  pub at_most_size : (q : ℕ) → length (row_of before q) ≤ before.size
  unfolding has
  at_most_size q = at_most before.size (row_of before q) (ordered.square.sorted q) (All-from_has_id (λ x. x < before.size) (row_of before q) (λ x there. (ordered.square.within q x there).1))

  pub pair_within : (pair : Pair) → Contains pairs pair → IsPairWithin before.size pair
  pair_within pair there = All-contains (IsPairWithin before.size) pairs pair ordered.within there

  -- a rank that is put above that of what is held
  module _ (ranks : List ℕ) (q r rank : ℕ) (is : rank ≡ rank_in ranks q + 1) (leads : Leads pairs q r) (within : r < before.size) (less : rank_in ranks r < rank) (rising : AreRising pairs before ranks) where
    here : rank_in (set ranks r rank) r ≡ rank
    here = get_or-set_same ranks r rank 0 (omega (arith, within, rising.size))

    others : (k : ℕ) → (k ≡ r → ⊥) → rank_in (set ranks r rank) k ≡ rank_in ranks k
    others k other = get_or-set_other ranks r k rank 0 other

    grows : (k : ℕ) → rank_in ranks k ≤ rank_in (set ranks r rank) k
    grows k = elim (cases_eq k r) [
      | inl same ↦ subst (λ j. rank_in ranks j ≤ rank_in (set ranks r rank) j) (sym same) (omega (arith, here, less))
      | inr other ↦ omega (arith, others k other)
    ]

    pub risen_more : AreRising pairs before (set ranks r rank)
    risen_more = record {
      size = length-set ranks r rank ∙ rising.size;
      reason = λ k some. elim (cases_eq k r) [
        | inl same ↦ (q, subst (Leads pairs q) (sym same) leads, subst (λ j. rank_in (set ranks r rank) j ≤ suc (rank_in (set ranks r rank) q)) (sym same) (omega (arith, here, is, grows q)))
        | inr other ↦
            let why = rising.reason k (omega (arith, others k other, some)) in
            (why.0, why.1, omega (arith, others k other, why.2, grows why.0))
      ];
      bounded = λ k. elim (cases_eq k r) [
        | inl same ↦ subst (λ j. rank_in (set ranks r rank) j ≤ length (row_of before j)) (sym same) (omega (arith, here, is, rising.bounded q, more_before q r leads))
        | inr other ↦ omega (arith, others k other, rising.bounded k)
      ];
    }

    risen_falls : to_rise before.size (set ranks r rank) < to_rise before.size ranks
    unfolding to_rise
    risen_falls =
        let sums = sum_by-set (λ k. before.size - k) ranks r rank 0 (omega (arith, within, rising.size)) in
        omega (arith, sums, less, is, rising.bounded q, more_before q r leads, at_most_size r)

    pub raised : (pair : Pair) → Progress (to_rise before.size) (Rises pairs before) (HasRisen pair) ranks (set ranks r rank) true
    raised pair = record {
      keeps = λ _. risen_more;
      falls = λ yes. risen_falls;
      same = λ not. absurd (false≢true (sym not));
      done = λ not. absurd (false≢true (sym not));
    }

  pub not_raised : (ranks : List ℕ) (pair : Pair) → HasRisen pair ranks → Progress (to_rise before.size) (Rises pairs before) (HasRisen pair) ranks ranks false
  not_raised ranks pair risen = progress_none (to_rise before.size) (Rises pairs before) (HasRisen pair) ranks (λ rising. rising) risen

-- no rank has risen yet
pub flat_rising : (pairs : List Pair) (before : Rows) (n : ℕ) → n ≡ before.size → AreRising pairs before (replicate n 0)
flat_rising pairs before n is = record {
  size = length-replicate n 0 ∙ is;
  reason = λ r some. absurd (omega (arith, some, none r));
  bounded = λ r. omega (arith, none r);
}
  where
    none : (r : ℕ) → rank_in (replicate n 0) r ≡ 0
    none r = elim (cases_lt r n) [
      | inl within ↦ get_or-replicate n r 0 0 within
      | inr past ↦ get_or_past (replicate n 0) r 0 (omega (arith, past, length-replicate {A = ℕ} n 0))
    ]

-- where each pair's rank has risen, the ranks are those by the pairs
pub ranks_are : (pairs : List Pair) (before : Rows) (ranks : List ℕ) → AreRising pairs before ranks → ((pair : Pair) → Contains pairs pair → HasRisen pair ranks) → AreRanksBy pairs ranks
ranks_are pairs before ranks rising risen = record {
  above = λ q r leads. risen (pair_of q r) leads;
  next = λ r some.
      let why = rising.reason r some in
      (why.0, why.1, omega (arith, why.2, risen (pair_of why.0 r) why.1));
}
