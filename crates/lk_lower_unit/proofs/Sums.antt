-- Running sums number what is counted, in its order.
use Rattle.std.proofs.Common.{arith, sym, ap, subst, ◌∙◌, ◌≡◌, ◌<◌, ◌≤◌, ◌+◌, ◌-◌, inl, inr, ℕ, zero, suc, List, [], ◌∷◌, ◌++◌, get_or, drop, length, refl}
use Rattle.std.proofs.lemmas.Bool.{cases_lt}
use Rattle.std.proofs.lemmas.List.{append-nil, drop_all}
use Rattle.std.proofs.lemmas.List.Sums.{sum_by-cons}
use Rattle.std.specs.List.{sum}
use Rattle.lk_lower_expr.specs.Lowering.{ComesBefore, Counts, source, node, step}
use Rattle.lk_lower_parts.specs.Givens.{at_node}
use Rattle.lk_lower_unit.specs.Counting.{AreBases, Has, number_by, total}
use Rattle.lk_lower_unit.specs.Prefixes.{rows_from, sums_from}
use Rattle.lk_lower_unit.specs.declared.bases.Bases.{Bases}

sum-cons : (n : ℕ) (ns : List ℕ) → sum (n ∷ ns) ≡ n + sum ns
sum-cons n ns = sum_by-cons (λ x. x) n ns

total-cons : (ns : List ℕ) (rows : List (List ℕ)) → total (ns ∷ rows) ≡ sum ns + total rows
total-cons ns rows = sum_by-cons sum ns rows

-- ---- one source

least_in : (first : ℕ) (ns : List ℕ) (o k : ℕ) → k < get_or ns o 0 → first ≤ get_or (sums_from first ns) o 0
least_in first [] o k has = grind arith
least_in first (n ∷ ns) zero k has = omega arith
least_in first (n ∷ ns) (suc o) k has = let later : first + n ≤ get_or (sums_from (first + n) ns) o 0 = least_in (first + n) ns o k has in omega (arith, later)

end_in : (first : ℕ) (ns : List ℕ) (o : ℕ) → get_or (sums_from first ns) o 0 + get_or ns o 0 ≤ first + sum ns
end_in first [] o = omega arith
end_in first (n ∷ ns) zero = let e = sum-cons n ns in omega (arith, e)
end_in first (n ∷ ns) (suc o) =
    let e = sum-cons n ns in
    let later : get_or (sums_from (first + n) ns) o 0 + get_or ns o 0 ≤ first + n + sum ns = end_in (first + n) ns o in omega (arith, e, later)

rising_in : (first : ℕ) (ns : List ℕ) (o p k l : ℕ) → o < p → k < get_or ns o 0 → l < get_or ns p 0 → get_or (sums_from first ns) o 0 + k < get_or (sums_from first ns) p 0 + l
rising_in first [] o p k l before has too = absurd (omega (arith, has))
rising_in first (n ∷ ns) zero zero k l before has too = absurd (omega (arith, before))
rising_in first (n ∷ ns) zero (suc p) k l before has too = let later : first + n ≤ get_or (sums_from (first + n) ns) p 0 = least_in (first + n) ns p l too in omega (arith, later, has)
rising_in first (n ∷ ns) (suc o) zero k l before has too = absurd (omega (arith, before))
rising_in first (n ∷ ns) (suc o) (suc p) k l before has too = rising_in (first + n) ns o p k l (omega (arith, before)) has too

abbrev Numbered : ℕ → List ℕ → ℕ → Type 0
Numbered first ns m = (o : ℕ) × (k : ℕ) × (k < get_or ns o 0) × (get_or (sums_from first ns) o 0 + k ≡ first + m)

further : (first n m : ℕ) (ns : List ℕ) → n ≤ m → Numbered (first + n) ns (m - n) → Numbered first (n ∷ ns) m
further first n m ns behind later =
    let is : get_or (sums_from (first + n) ns) later.0 0 + later.1 ≡ first + n + (m - n) = later.3 in (suc later.0, later.1, later.2, is ∙ same)
  where
    same : first + n + (m - n) ≡ first + m
    same = omega (arith, behind)

onto_in : (first : ℕ) (ns : List ℕ) (m : ℕ) → m < sum ns → Numbered first ns m
onto_in first [] m within = absurd (omega (arith, within))
onto_in first (n ∷ ns) m within = elim (cases_lt m n) [
  | inl inside ↦ (0, m, inside, refl)
  | inr behind ↦ further first n m ns behind (onto_in (first + n) ns (m - n) (left_over n m (sum ns) (within_rest n m ns within) behind))
]
  where
    left_over : (n m rest : ℕ) → m < n + rest → n ≤ m → m - n < rest
    left_over n m rest within behind = omega (arith, within, behind)

    within_rest : (n m : ℕ) (ns : List ℕ) → m < sum (n ∷ ns) → m < n + sum ns
    within_rest n m ns within = let e = sum-cons n ns in omega (arith, e, within)

-- ---- several sources

-- ---- several sources

least : (first : ℕ) (rows : List (List ℕ)) (s o k : ℕ) → Has rows s o k → first ≤ at_node (rows_from first rows) s o
least first [] s o k has = absurd (omega (arith, has))
least first (ns ∷ rows) zero o k has = least_in first ns o k has
least first (ns ∷ rows) (suc s) o k has = let later : first + sum ns ≤ at_node (rows_from (first + sum ns) rows) s o = least (first + sum ns) rows s o k has in omega (arith, later)

ends : (first : ℕ) (rows : List (List ℕ)) (s o : ℕ) → at_node (rows_from first rows) s o + at_node rows s o ≤ first + total rows
ends first [] s o = omega arith
ends first (ns ∷ rows) zero o = let e = total-cons ns rows in let one = end_in first ns o in omega (arith, e, one)
ends first (ns ∷ rows) (suc s) o =
    let e = total-cons ns rows in
    let later : at_node (rows_from (first + sum ns) rows) s o + at_node rows s o ≤ first + sum ns + total rows = ends (first + sum ns) rows s o in omega (arith, e, later)

rising_sources : (first : ℕ) (rows : List (List ℕ)) (s o k t p l : ℕ) → s < t → Has rows s o k → Has rows t p l → at_node (rows_from first rows) s o + k < at_node (rows_from first rows) t p + l
rising_sources first [] s o k t p l before has too = absurd (omega (arith, has))
rising_sources first (ns ∷ rows) zero o k zero p l before has too = absurd (omega (arith, before))
rising_sources first (ns ∷ rows) zero o k (suc t) p l before has too =
    let one = end_in first ns o in
    let later : first + sum ns ≤ at_node (rows_from (first + sum ns) rows) t p = least (first + sum ns) rows t p l too in omega (arith, one, later, has)
rising_sources first (ns ∷ rows) (suc s) o k zero p l before has too = absurd (omega (arith, before))
rising_sources first (ns ∷ rows) (suc s) o k (suc t) p l before has too = rising_sources (first + sum ns) rows s o k t p l (omega (arith, before)) has too

rising_nodes : (first : ℕ) (rows : List (List ℕ)) (s o k p l : ℕ) → o < p → Has rows s o k → Has rows s p l → at_node (rows_from first rows) s o + k < at_node (rows_from first rows) s p + l
rising_nodes first [] s o k p l before has too = absurd (omega (arith, has))
rising_nodes first (ns ∷ rows) zero o k p l before has too = rising_in first ns o p k l before has too
rising_nodes first (ns ∷ rows) (suc s) o k p l before has too = rising_nodes (first + sum ns) rows s o k p l before has too

rising : (first : ℕ) (rows : List (List ℕ)) (s o k t p l : ℕ) → Has rows s o k → Has rows t p l → ComesBefore s o k t p l → number_by (rows_from first rows) s o k < number_by (rows_from first rows) t p l
rising first rows s o k t p l has too (source before) = rising_sources first rows s o k t p l before has too
rising first rows s o k _ p l has too (node before) = rising_nodes first rows s o k p l before has too
rising first rows s o k _ _ l has too (step before) = omega (arith, before)

abbrev NumberedBy : ℕ → List (List ℕ) → ℕ → Type 0
NumberedBy first rows m = (s : ℕ) × (o : ℕ) × (k : ℕ) × Has rows s o k × (number_by (rows_from first rows) s o k ≡ first + m)

in_first : (first : ℕ) (ns : List ℕ) (rows : List (List ℕ)) (m : ℕ) → Numbered first ns m → NumberedBy first (ns ∷ rows) m
in_first first ns rows m is = (0, is.0, is.1, is.2, is.3)

in_later : (first m : ℕ) (ns : List ℕ) (rows : List (List ℕ)) → sum ns ≤ m → NumberedBy (first + sum ns) rows (m - sum ns) → NumberedBy first (ns ∷ rows) m
in_later first m ns rows behind later =
    let is : number_by (rows_from (first + sum ns) rows) later.0 later.1 later.2 ≡ first + sum ns + (m - sum ns) = later.4 in (suc later.0, later.1, later.2, later.3, is ∙ same (sum ns) behind)
  where
    same : (n : ℕ) → n ≤ m → first + n + (m - n) ≡ first + m
    same n behind = omega (arith, behind)

onto : (first : ℕ) (rows : List (List ℕ)) (m : ℕ) → m < total rows → NumberedBy first rows m
onto first [] m within = absurd (omega (arith, within))
onto first (ns ∷ rows) m within = elim (cases_lt m (sum ns)) [
  | inl inside ↦ in_first first ns rows m (onto_in first ns m inside)
  | inr behind ↦ in_later first m ns rows behind (onto (first + sum ns) rows (m - sum ns) (left_over (sum ns) m (total rows) (within_rest m ns rows within) behind))
]
  where
    left_over : (n m rest : ℕ) → m < n + rest → n ≤ m → m - n < rest
    left_over n m rest within behind = omega (arith, within, behind)

    within_rest : (m : ℕ) (ns : List ℕ) (rows : List (List ℕ)) → m < total (ns ∷ rows) → m < sum ns + total rows
    within_rest m ns rows within = let e = total-cons ns rows in omega (arith, e, within)

pub counted : (first : ℕ) (rows : List (List ℕ)) → Counts (Has rows) first (total rows) (number_by (rows_from first rows))
counted first rows = record {
  least = λ s o k has. let is = least first rows s o k has in omega (arith, is);
  below = λ s o k has. let is = ends first rows s o in omega (arith, is, has);
  rising = rising first rows;
  onto = onto first rows;
}

pub are_bases : (rows : List (List ℕ)) (first most : ℕ) (found : Bases) → found.bases ≡ rows_from first rows → found.count ≡ total rows → first + total rows ≤ most → AreBases rows first most found
are_bases rows first most found bases count few = record {
  order = subst (λ b. Counts (Has rows) first found.count (number_by b)) (sym bases) (subst (λ c. Counts (Has rows) first c (number_by (rows_from first rows))) (sym count) (counted first rows));
  all = count;
  few = few;
  bases = λ s o. subst (λ b. at_node b s o ≤ most) (sym bases) (let is = ends first rows s o in omega (arith, is, few));
}

-- at the end of all sources
pub all_numbered : (counts : List (List ℕ)) (first next most i : ℕ) (rows : List (List ℕ)) (found : Bases) → length counts ≤ i →
    rows_from first counts ≡ rows ++ rows_from next (drop i counts) → next + total (drop i counts) ≡ first + total counts → next ≤ most →
    found.bases ≡ rows → found.count ≡ next - first → AreBases counts first most found
all_numbered counts first next most i rows found past is sums few bases count =
    are_bases counts first most found (bases ∙ sym (is ∙ ap (λ left. rows ++ rows_from next left) (drop_all i counts past) ∙ append-nil rows)) (count ∙ counts_all) (subst (λ n. n ≤ most) whole few)
  where
    whole : next ≡ first + total counts
    whole = let none : total (drop i counts) ≡ 0 = ap total (drop_all i counts past) in omega (arith, none, sums)

    counts_all : next - first ≡ total counts
    counts_all = omega (arith, whole)
