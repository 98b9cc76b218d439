-- What the edges of a list give of summary edges are just the summary edges.
use Rattle.std.proofs.Common.{ℕ, ◌<◌, ◌≡◌, ◌↔◌, Bool, true, false, List, [], All, Contains, refl, subst}
use Rattle.std.proofs.lemmas.List.Elements.{All-contains, All-contains_itself, All-weaker}
use Rattle.lk_sets.specs.Adding.{Adds, IsGiven}
use Rattle.lk_sets.proofs.Adding.{adds_to_none}
use Rattle.lk_sets.specs.Rows.{Rows, has}
use Rattle.lk_facts.specs.declared.edge.Edge.{Edge}
use Rattle.lk_facts.specs.declared.edge.Mark.{Mark}
use Rattle.lk_facts.specs.declared.edge.Mark.TheVariants.{Plain, Enter, Leave}
use Rattle.lk_facts.specs.PathRules.{Summary}
use Rattle.lk_facts.specs.PathRules.Summary.{plain, call}
use Rattle.lk_facts.specs.PathTables.{IsEdgeWithin}
use Rattle.lk_facts.specs.Paths.{HasEdge, edge_of}
use Rattle.lk_match.specs.Passages.{IsPassage}
use Rattle.lk_match.specs.declared.passage.Side.TheVariants.{OutOf}
use Rattle.lk_match.specs.Summaries.{summary_of, IsSummaryWithin, IsMatched, GivesSummary}
use Rattle.lk_match.specs.declared.passage.Passage.{Passage}
use Rattle.lk_match.specs.declared.summary.SummaryEdge.{SummaryEdge}

module _ (es : List Edge) (global : ℕ → Bool) (levels : Rows) (leavings : List Passage) (exact : (x : Passage) → Contains leavings x ↔ IsGiven (IsPassage OutOf) es x) where
  abbrev IsSummary : SummaryEdge → Type 0
  IsSummary s = Summary (HasEdge es) global (λ x y. has levels x y ≡ true) s.from s.to

  left_at : (i : ℕ) (x : Passage) → Contains leavings x → x.site ≡ i → HasEdge es x.from x.to (Leave i)
  left_at i x there same =
      let given = (exact x).0 there in
      subst (λ j. HasEdge es x.from x.to (Leave j)) same (subst (Contains es) given.2 given.1)

  gives_summary : (a b : ℕ) (m : Mark) (s : SummaryEdge) → HasEdge es a b m → GivesSummary global levels leavings a b m s → IsSummary s
  gives_summary a b Plain s there same = subst IsSummary same (plain there)
  gives_summary a b (Enter i) s there given =
      let leaving = given.1.0 in
      let ends = given.1.2.1 in
      subst IsSummary ends.2 (call i b leaving.from there given.0 ends.1 ends.0 (left_at i leaving given.1.1 given.1.2.0))
  gives_summary a b (Leave i) s there given = absurd given

  summary_given : (a b : ℕ) → Summary (HasEdge es) global (λ x y. has levels x y ≡ true) a b → IsGiven (λ (e : Edge) s. GivesSummary global levels leavings e.from e.to e.mark s) es (summary_of a b)
  summary_given a b (plain there) = (edge_of a b Plain, there, refl)
  summary_given a b (call i x y enters at inside at' leaves) =
      let leaving : Passage = record { site = i; from = y; to = b } in
      (edge_of a x (Enter i), enters, (at, (leaving, (exact leaving).1 (edge_of y b (Leave i), leaves, refl), (refl, (at', inside, refl)))))

  pub summaries_are : {old found : List SummaryEdge} → old ≡ [] → Adds (IsGiven (λ (e : Edge) s. GivesSummary global levels leavings e.from e.to e.mark s) es) old found → (s : SummaryEdge) → Contains found s ↔ IsSummary s
  summaries_are none adds s =
      let are = adds_to_none none adds s in
      (λ h. let given = are.0 h in gives_summary given.0.from given.0.to given.0.mark s given.1 given.2, λ h. are.1 (summary_given s.from s.to h))

  pub summary_within : (count : ℕ) → All (IsEdgeWithin count) es → (a b : ℕ) → Summary (HasEdge es) global (λ x y. has levels x y ≡ true) a b → IsSummaryWithin count (summary_of a b)
  summary_within count all a b (plain there) = All-contains (IsEdgeWithin count) es _ all there
  summary_within count all a b (call i x y enters at inside at' leaves) = ((All-contains (IsEdgeWithin count) es _ all enters).0, (All-contains (IsEdgeWithin count) es _ all leaves).1)

  pub summaries_within : (count : ℕ) → All (IsEdgeWithin count) es → (found : List SummaryEdge) → ((s : SummaryEdge) → Contains found s ↔ IsSummary s) → All (IsSummaryWithin count) found
  summaries_within count all found are = All-weaker (Contains found) (IsSummaryWithin count) (λ s h. summary_within count all s.from s.to ((are s).0 h)) found (All-contains_itself found)

  pub leavings_within : (count : ℕ) → All (IsEdgeWithin count) es → All (λ (x : Passage). x.from < count) leavings
  leavings_within count all =
      All-weaker (Contains leavings) (λ (x : Passage). x.from < count)
      (λ x h. (All-contains (IsEdgeWithin count) es _ all (left_at x.site x h refl)).0) leavings (All-contains_itself leavings)

-- what is matched by one of the Leave edges of a site
pub matched_gives : (global : ℕ → Bool) (levels : Rows) (all here : List Passage) (i a b : ℕ) → ((x : Passage) → Contains here x ↔ (Contains all x × (x.site ≡ i))) → (s : SummaryEdge) → IsMatched global levels here a b s ↔ GivesSummary global levels all a b (Enter i) s
matched_gives global levels all here i a b are s =
    (λ h. let there = (are h.1.0).0 h.1.1 in (h.0, (h.1.0, there.0, (there.1, h.1.2))), λ h. (h.0, (h.1.0, (are h.1.0).1 (h.1.1, h.1.2.0), h.1.2.1)))
