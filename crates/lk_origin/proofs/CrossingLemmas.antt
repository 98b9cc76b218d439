-- What crosses sites: lists of labels, and for each label inside the labels outside.
use Rattle.std.proofs.Common.{ℕ, ◌+◌, ◌<◌, ◌≤◌, ◌≡◌, ◌↔◌, Bool, true, false, eqb, List, [], ◌∷◌, ◌++◌, length, get_or, take, All, Contains, Some, refl, sym, ap, ◌∙◌, subst, inl, inr, arith}
use Rattle.std.specs.Prelude.{slice_get}
use Rattle.std.specs.Option.{option_map_or}
use Rattle.std.specs.List.{position_or_len}
use Rattle.std.specs.List.Sorted.{IsStrictlyIncreasing}
use Rattle.std.proofs.lemmas.Bool.{both_ways, cases_eq, cases_lt}
use Rattle.std.proofs.lemmas.List.{get_or_append_left, get_or_default, get_or_past, get_or_push, length-append}
use Rattle.lk_facts.specs.declared.edge.Edge.{Edge}
use Rattle.lk_facts.specs.declared.edge.Mark.TheVariants.{Enter}
use Rattle.lk_facts.specs.Paths.{HasEdge, edge_of}
use Rattle.lk_facts.specs.PathTables.{IsEdgeWithin}
use Rattle.lk_match.specs.Passages.{IsPassage}
use Rattle.lk_match.specs.declared.passage.Side.TheVariants.{Into}
use Rattle.std.proofs.lemmas.List.Elements.{All-push, All-contains, All-contains_itself, All-more, All-weaker, Contains-append_cases, Contains-append_left, Contains-append_right, Contains-get_or}
use Rattle.std.proofs.lemmas.Option.{get_or_from_slice_get, slice_get_cases, slice_get_past, unwrap_or-slice_get}
use Rattle.lk_sets.specs.Adding.{Adds, IsGiven}
use Rattle.lk_sets.specs.Ids.{has_id}
use Rattle.lk_sets.specs.Rows.{Rows, has, row_of, IsSquare}
use Rattle.lk_sets.proofs.Members.{Contains-from_has_id, has_id-from_Contains}
use Rattle.lk_sets.proofs.Reading.{has_id-row}
use Rattle.lk_facts.specs.Origins.{outside_of, IsSetBelow, IsCrossingInRange}
use Rattle.lk_facts.specs.declared.crossing.Crossing.{Crossing}
use Rattle.lk_facts.proofs.Sets.{place_found, place_missing}
use Rattle.lk_match.specs.declared.passage.Passage.{Passage}
use Rattle.lk_origin.specs.Crossings.{IsPassageWithin, LeadsTo, LeadsInto, crossed_of}

-- a row is put behind the others
pub adds_row : (levels : Rows) (x : Passage) (old new : List ℕ) → new ≡ old ++ row_of levels x.to → Adds (LeadsTo levels x) old new
adds_row levels x old new is = record {
  members = λ b. (
    λ h. elim (Contains-append_cases old (row_of levels x.to) b (subst (λ ys. Contains ys b) is h)) [
      | inl before ↦ inl before
      | inr here ↦ inr (sym (has_id-row levels x.to b (row_of levels x.to) refl) ∙ has_id-from_Contains (row_of levels x.to) b here)
    ],
    λ h. subst (λ ys. Contains ys b) (sym is) (elim h [
      | inl before ↦ Contains-append_left old (row_of levels x.to) b before
      | inr leads ↦ Contains-append_right old (row_of levels x.to) b (Contains-from_has_id (row_of levels x.to) b (has_id-row levels x.to b (row_of levels x.to) refl ∙ leads))
    ]),
  );
}

-- the numbers of a list in ascending order are those that it was given
pub given_ids : {P : ℕ → Type 0} (list lent ids : List ℕ) → ((x : ℕ) → Contains list x ↔ P x) → lent ≡ list → ((x : ℕ) → has_id ids x ≡ has_id lent x) → (x : ℕ) → (has_id ids x ≡ true) ↔ P x
given_ids list lent ids are lends same x =
    let both : has_id ids x ≡ has_id list x = same x ∙ ap (λ ys. has_id ys x) lends in
    (λ h. (are x).0 (Contains-from_has_id list x (sym both ∙ h)), λ p. both ∙ has_id-from_Contains list x ((are x).1 p))

pub set_below : {P : ℕ → Type 0} (count : ℕ) (ids : List ℕ) → IsStrictlyIncreasing ids → ((x : ℕ) → (has_id ids x ≡ true) ↔ P x) → ((x : ℕ) → P x → x < count) → IsSetBelow count ids
set_below count ids sorted are below = record {
  sorted = sorted;
  below = All-weaker (Contains ids) (λ x. x < count) (λ x h. below x ((are x).0 (has_id-from_Contains ids x h))) ids (All-contains_itself ids);
}

pub inside_below : (levels : Rows) (entrances : List Passage) → IsSquare levels → (b : ℕ) → IsGiven (LeadsTo levels) entrances b → b < levels.size
inside_below levels entrances square b given = (square.within given.0.to b given.2).1

pub outside_below : (levels : Rows) (entrances : List Passage) (b : ℕ) → All (IsPassageWithin levels.size) entrances → (m : ℕ) → IsGiven (LeadsInto levels b) entrances m → m < levels.size
outside_below levels entrances b within m given = subst (λ x. x < levels.size) given.2.1 (All-contains (IsPassageWithin levels.size) entrances given.0 within given.1).0

pub sites_more : (xs : List Passage) (i : ℕ) (x : Passage) (count now : ℕ) → i < length xs → x ≡ get_or xs i x → All (λ (y : Passage). y.site < count) (take i xs) → count ≤ now → x.site < now → All (λ (y : Passage). y.site < now) (take (i + 1) xs)
sites_more xs i x count now within is before more here =
    All-more (λ (y : Passage). y.site < now) xs i x within (All-weaker (λ (y : Passage). y.site < count) (λ (y : Passage). y.site < now) (λ y h. omega arith) (take i xs) before) (subst (λ (y : Passage). y.site < now) is here)

-- Where the loop stands that lists the labels outside for each label inside.
pub record Pairing (levels : Rows) (entrances : List Passage) (inside : List ℕ) (outside : List (List ℕ)) (k : ℕ) : Type 0 where
  pub long : length outside ≡ k
  pub below : (j : ℕ) (d : List ℕ) → j < k → IsSetBelow levels.size (get_or outside j d)
  pub members : (j : ℕ) (d : List ℕ) → j < k → (m : ℕ) → (has_id (get_or outside j d) m ≡ true) ↔ IsGiven (LeadsInto levels (get_or inside j 0)) entrances m

pub pairing_more : {levels : Rows} {entrances : List Passage} {inside : List ℕ} {outside now : List (List ℕ)} (k : ℕ) (ids : List ℕ) → now ≡ outside ++ ids ∷ [] → IsSetBelow levels.size ids → ((m : ℕ) → (has_id ids m ≡ true) ↔ IsGiven (LeadsInto levels (get_or inside k 0)) entrances m) → Pairing levels entrances inside outside k → Pairing levels entrances inside now (k + 1)
pairing_more {levels} {entrances} {inside} {outside} {now} k ids is below members p = record {
  long = ap length is ∙ (length-append outside (ids ∷ []) ∙ omega (arith, p.long));
  below = λ j d at.
      elim (cases_eq j k) [
        | inl same ↦ subst (IsSetBelow levels.size) (sym (last j d same)) below
        | inr other ↦ subst (IsSetBelow levels.size) (sym (earlier j d (omega arith))) (p.below j d (omega arith))
      ];
  members = λ j d at m.
      elim (cases_eq j k) [
        | inl same ↦
            subst (λ (ys : List ℕ). (has_id ys m ≡ true) ↔ IsGiven (LeadsInto levels (get_or inside j 0)) entrances m) (sym (last j d same))
            (subst (λ i. (has_id ids m ≡ true) ↔ IsGiven (LeadsInto levels (get_or inside i 0)) entrances m) (sym same) (members m))
        | inr other ↦ subst (λ (ys : List ℕ). (has_id ys m ≡ true) ↔ IsGiven (LeadsInto levels (get_or inside j 0)) entrances m) (sym (earlier j d (omega arith))) (p.members j d (omega arith) m)
      ];
}
  where
    last : (j : ℕ) (d : List ℕ) → j ≡ k → get_or now j d ≡ ids
    last j d same = ap (λ ys. get_or ys j d) is ∙ get_or_push outside ids d j (p.long ∙ sym same)

    earlier : (j : ℕ) (d : List ℕ) → j < k → get_or now j d ≡ get_or outside j d
    earlier j d at = ap (λ ys. get_or ys j d) is ∙ get_or_append_left outside (ids ∷ []) d j (omega (arith, p.long))

-- at the end of that loop
module _ (levels : Rows) (entrances : List Passage) (inside : List ℕ) (outside : List (List ℕ)) (below : IsSetBelow levels.size inside) (members : (b : ℕ) → (has_id inside b ≡ true) ↔ IsGiven (LeadsTo levels) entrances b) (p : Pairing levels entrances inside outside (length inside)) where
  pub paired_within : IsCrossingInRange levels.size (record { inside = inside; outside = outside })
  paired_within = record {
    inside = below;
    outside = record { each = λ k d at. p.below k d (omega (arith, p.long)) };
    paired = p.long;
  }

  pub paired_members : (b m : ℕ) → (has_id (outside_of (record { inside = inside; outside = outside }) b) m ≡ true) ↔ IsGiven (LeadsInto levels b) entrances m
  paired_members b m = by (has_id inside b) refl
    where
      place : ℕ
      place = position_or_len (λ x. eqb x b) inside

      at_place : has_id (outside_of (record { inside = inside; outside = outside }) b) m ≡ has_id (get_or outside place []) m
      at_place = ap (λ ys. has_id ys m) (unwrap_or-slice_get outside place [])

      by : (q : Bool) → has_id inside b ≡ q → (has_id (outside_of (record { inside = inside; outside = outside }) b) m ≡ true) ↔ IsGiven (LeadsInto levels b) entrances m
      by true there =
          let found = Contains-from_has_id inside b there in
          let j = found.0 in
          let is : get_or inside j 0 ≡ b = get_or_default inside j 0 b found.1 ∙ found.2 in
          let same : place ≡ j = place_found inside b j below.sorted found.1 is in
          let here : has_id (outside_of (record { inside = inside; outside = outside }) b) m ≡ has_id (get_or outside j []) m = at_place ∙ ap (λ i. has_id (get_or outside i []) m) same in
          let both = subst (λ x. (has_id (get_or outside j []) m ≡ true) ↔ IsGiven (LeadsInto levels x) entrances m) is (p.members j [] found.1 m) in
          (λ h. both.0 (sym here ∙ h), λ given. here ∙ both.1 given)
      by false lacks =
          let never : (k : ℕ) → k < length inside → get_or inside k 0 ≡ b → ⊥ = λ k at is. both_ways (has_id inside b) lacks (subst (λ x. has_id inside x ≡ true) is (has_id-from_Contains inside (get_or inside k 0) (Contains-get_or inside k 0 at))) in
          let same : place ≡ length inside = place_missing inside b never in
          let here : has_id (outside_of (record { inside = inside; outside = outside }) b) m ≡ has_id (get_or outside (length inside) []) m = at_place ∙ ap (λ i. has_id (get_or outside i []) m) same in
          let none : has_id (get_or outside (length inside) []) m ≡ false = ap (λ ys. has_id ys m) (get_or_past outside (length inside) [] (omega (arith, p.long))) in
          (λ h. absurd (both_ways _ none (sym here ∙ h)), λ given. absurd (both_ways (has_id inside b) lacks ((members b).1 (given.0, given.1, given.2.0))))

-- the passages through a site that lead from m into a level to b
abbrev pub ThroughSite : Rows → List Passage → ℕ → ℕ → ℕ → Type 0
ThroughSite levels entrances i b m = (x : Passage) × Contains entrances x × (x.site ≡ i) × LeadsInto levels b x m

-- Where the loop over sites stands.
pub record Sites (levels : Rows) (entrances : List Passage) (all : List Crossing) (k : ℕ) : Type 0 where
  pub long : length all ≡ k
  pub below : All (IsCrossingInRange levels.size) all
  pub members : (j : ℕ) (d : Crossing) → j < k → (b m : ℕ) → (has_id (outside_of (get_or all j d) b) m ≡ true) ↔ ThroughSite levels entrances j b m

pub site_more : {levels : Rows} {entrances : List Passage} (here : List Passage) {all now : List Crossing} (k : ℕ) (made : Crossing) → now ≡ all ++ made ∷ [] → IsCrossingInRange levels.size made → ((x : Passage) → Contains here x ↔ (Contains entrances x × (x.site ≡ k))) → ((b m : ℕ) → (has_id (outside_of made b) m ≡ true) ↔ IsGiven (LeadsInto levels b) here m) → Sites levels entrances all k → Sites levels entrances now (k + 1)
site_more {levels} {entrances} here {all} {now} k made is below of members s = record {
  long = ap length is ∙ (length-append all (made ∷ []) ∙ omega (arith, s.long));
  below = subst (All (IsCrossingInRange levels.size)) (sym is) (All-push (IsCrossingInRange levels.size) all made s.below below);
  members = λ j d at b m.
      elim (cases_eq j k) [
        | inl same ↦
            let last : get_or now j d ≡ made = ap (λ ys. get_or ys j d) is ∙ get_or_push all made d j (s.long ∙ sym same) in
            subst (λ (y : Crossing). (has_id (outside_of y b) m ≡ true) ↔ ThroughSite levels entrances j b m) (sym last) (subst (λ i. (has_id (outside_of made b) m ≡ true) ↔ ThroughSite levels entrances i b m) (sym same) (through b m))
        | inr other ↦
            let earlier : get_or now j d ≡ get_or all j d = ap (λ ys. get_or ys j d) is ∙ get_or_append_left all (made ∷ []) d j (omega (arith, s.long)) in
            subst (λ (y : Crossing). (has_id (outside_of y b) m ≡ true) ↔ ThroughSite levels entrances j b m) (sym earlier) (s.members j d (omega arith) b m)
      ];
}
  where
    through : (b m : ℕ) → (has_id (outside_of made b) m ≡ true) ↔ ThroughSite levels entrances k b m
    through b m = (
      λ h. let given = (members b m).0 h in let both = (of given.0).0 given.1 in (given.0, both.0, both.1, given.2),
      λ t. (members b m).1 (t.0, (of t.0).1 (t.1, t.2), t.3),
    )

-- at its end
pub sites_done : (es : List Edge) (levels : Rows) (entrances : List Passage) (all : List Crossing) (count : ℕ) → ((x : Passage) → Contains entrances x ↔ IsGiven (IsPassage Into) es x) → All (λ (x : Passage). x.site < count) entrances → Sites levels entrances all count → (i b m : ℕ) → (has_id (crossed_of all i b) m ≡ true) ↔ ((l : ℕ) × HasEdge es m l (Enter i) × (has levels l b ≡ true))
sites_done es levels entrances all count exact few s i b m =
    elim (cases_lt i count) [
      | inl at ↦
          let found : (x : Crossing) × (slice_get all i ≡ Some x) = some_at all i (subst (λ n. i < n) (sym s.long) at) in
          let is : get_or all i found.0 ≡ found.0 = get_or_from_slice_get all i found.0 found.0 found.1 in
          let both = subst (λ (y : Crossing). (has_id (outside_of y b) m ≡ true) ↔ ThroughSite levels entrances i b m) is (s.members i found.0 at b m) in
          let here : has_id (crossed_of all i b) m ≡ has_id (outside_of found.0 b) m = ap (λ o. has_id (option_map_or (λ (crossing : Crossing). outside_of crossing b) o []) m) found.1 in
          (λ h. edge_of_passage (both.0 (sym here ∙ h)), λ e. here ∙ both.1 (passage_of_edge e))
      | inr past ↦
          let here : has_id (crossed_of all i b) m ≡ false = ap (λ o. has_id (option_map_or (λ (crossing : Crossing). outside_of crossing b) o []) m) (slice_get_past all i (subst (λ n. n ≤ i) (sym s.long) past)) in
          (λ h. absurd (both_ways _ here h), λ e. let t = passage_of_edge e in absurd (omega (arith, past, t.2, All-contains (λ (x : Passage). x.site < count) entrances t.0 few t.1)))
    ]
  where
    some_at : (xs : List Crossing) (j : ℕ) → j < length xs → (x : Crossing) × (slice_get xs j ≡ Some x)
    some_at xs j at = elim (slice_get_cases xs j).1 [ inl found ↦ (found.0, found.2) | inr past ↦ absurd (omega (arith, at, past.0)) ]

    edge_of_passage : ThroughSite levels entrances i b m → (l : ℕ) × HasEdge es m l (Enter i) × (has levels l b ≡ true)
    edge_of_passage t =
        let x = t.0 in
        let given = (exact x).0 t.1 in
        let edge : HasEdge es x.from x.to (Enter x.site) = subst (Contains es) given.2 given.1 in
        (x.to, subst (λ f. HasEdge es f x.to (Enter i)) t.3.1 (subst (λ j. HasEdge es x.from x.to (Enter j)) t.2 edge), t.3.0)

    passage_of_edge : (l : ℕ) × HasEdge es m l (Enter i) × (has levels l b ≡ true) → ThroughSite levels entrances i b m
    passage_of_edge e =
        let x : Passage = record { site = i; from = m; to = e.0 } in
        (x, (exact x).1 (edge_of m e.0 (Enter i), e.1, refl), refl, (e.2, refl))

-- the edges into one site stay among the labels
pub site_within : (es : List Edge) (count i : ℕ) (entrances here : List Passage) → All (IsEdgeWithin count) es → ((x : Passage) → Contains entrances x ↔ IsGiven (IsPassage Into) es x) → ((x : Passage) → Contains here x ↔ (Contains entrances x × (x.site ≡ i))) → All (IsPassageWithin count) here
site_within es count i entrances here within exact of =
    All-weaker (Contains here) (IsPassageWithin count) (λ x h.
    let given = (exact x).0 ((of x).0 h).0 in
    All-contains (IsEdgeWithin count) es (edge_of x.from x.to (Enter x.site)) within (subst (Contains es) given.2 given.1)) here (All-contains_itself here)
