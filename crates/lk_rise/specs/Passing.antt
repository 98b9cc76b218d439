-- An item with its locks, and what both are above by a way into its function. Only the private
-- calls of this crate speak of it.
use Rattle.std.specs.Prelude.{◌≡◌, ◌<◌, ◌↔◌, ℕ, true, List, length, All}
use Rattle.lk_facts.specs.Origins.{IsSetBelow, flow_of}
use Rattle.lk_facts.specs.declared.way.Way.{Way}
use Rattle.lk_links.specs.Only.{HaveRisen}
use Rattle.lk_rise.specs.Rising.{Carries, subjects_below}
use Rattle.lk_rise.specs.Tables.{Setting, Fits}
use Rattle.lk_rise.specs.declared.correlations.Correlation.{Correlation}
use Rattle.lk_rise.specs.declared.passing.Passage.{Passage}
use Rattle.lk_sets.specs.Ids.{has_id}

module _ (s : Setting) where
  -- what it says of its item, its locks and its way is so
  pub record IsPassage (passage : Passage) : Type 0 where
    pub fits : Fits s passage.item passage.locks
    pub subjects : (x : ℕ) → (has_id passage.subjects x ≡ true)
        ↔ Carries (flow_of s.facts.origins) s.subjects passage.way passage.item.subject x
    pub subjects_below : All (λ x. x < subjects_below s.facts s.subjects) passage.subjects
    pub risen : (y : ℕ) → (has_id passage.risen y ≡ true)
        ↔ HaveRisen (flow_of s.facts.origins) passage.way passage.locks y
    pub risen_below : IsSetBelow (length s.facts.labels.entries) passage.risen

  -- and they are these
  pub record IsUpBy (of : Correlation) (held : List ℕ) (by : Way) (passage : Passage) : Type 0 where
    pub item : passage.item ≡ of
    pub locks : passage.locks ≡ held
    pub way : passage.way ≡ by
    pub is : IsPassage passage
