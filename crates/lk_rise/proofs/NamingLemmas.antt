-- What comes of the correlations of a table, in their order.
use Rattle.std.proofs.Common.{◌≡◌, ◌<◌, ◌+◌, ◌++◌, ℕ, List, [], ◌∷◌, map, take, get_or, Some, sym, ap, ◌∙◌, subst, inl, inr}
use Rattle.std.specs.Option.{option_map}
use Rattle.std.proofs.lemmas.List.{map-append, take_more}
use Rattle.std.proofs.lemmas.Option.{none-some, same_Some, slice_get_cases}
use Rattle.lk_facts.specs.Facts.{FactTable}
use Rattle.lk_rise.specs.Correlations.{AreInRange}
use Rattle.lk_rise.specs.Tables.{item_at}
use Rattle.lk_rise.specs.declared.correlations.Correlation.{Correlation}

-- one entry more
pub named_more : {Y : Type 0} (h : Correlation → Y) (entries : List (Correlation × List ℕ)) (i : ℕ) (c : Correlation) → item_at entries i ≡ Some c →
    map (λ (e : Correlation × List ℕ). h e.0) (take (i + 1) entries) ≡ map (λ (e : Correlation × List ℕ). h e.0) (take i entries) ++ h c ∷ []
named_more h entries i c at =
    elim (slice_get_cases entries i).1 [
      | inl found ↦
          let is : found.0.0 ≡ c = same_Some _ _ (sym (ap (option_map (λ (e : Correlation × List ℕ). e.0)) found.2) ∙ at) in
          ap (map (λ (e : Correlation × List ℕ). h e.0)) (take_more entries i found.0 found.1)
          ∙ map-append (λ (e : Correlation × List ℕ). h e.0) (take i entries) (get_or entries i found.0 ∷ [])
          ∙ ap (λ y. map (λ (e : Correlation × List ℕ). h e.0) (take i entries) ++ y ∷ []) (ap (λ (e : Correlation × List ℕ). h e.0) found.3 ∙ ap h is)
      | inr past ↦ absurd (none-some c (sym (ap (option_map (λ (e : Correlation × List ℕ). e.0)) past.1) ∙ at))
    ]

-- the subject of an entry is in range
pub subject_within : (facts : FactTable) (n : ℕ) (entries : List (Correlation × List ℕ)) (i : ℕ) (c : Correlation) → AreInRange facts n entries → item_at entries i ≡ Some c → c.subject < n
subject_within facts n entries i c ranged at =
    elim (slice_get_cases entries i).1 [
      | inl found ↦
          let is : found.0.0 ≡ c = same_Some _ _ (sym (ap (option_map (λ (e : Correlation × List ℕ). e.0)) found.2) ∙ at) in
          subst (λ (d : Correlation). d.subject < n) (ap (λ (e : Correlation × List ℕ). e.0) found.3 ∙ is) (ranged i found.0 found.1).subject
      | inr past ↦ absurd (none-some c (sym (ap (option_map (λ (e : Correlation × List ℕ). e.0)) past.1) ∙ at))
    ]
