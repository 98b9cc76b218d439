-- What each edge gives of the summary edges.
use Rattle.std.specs.Prelude.{◌≡◌, ℕ, ◌<◌, Bool, true, false, List}
use Rattle.lk_facts.specs.declared.edge.Edge.{Edge}
use Rattle.lk_facts.specs.declared.edge.Mark.{Mark}
use Rattle.lk_facts.specs.declared.edge.Mark.TheVariants.{Plain, Enter, Leave}
use Rattle.lk_match.specs.declared.passage.Passage.{Passage}
use Rattle.lk_match.specs.declared.summary.SummaryEdge.{SummaryEdge}
use Rattle.lk_sets.specs.Adding.{IsGiven}
use Rattle.lk_sets.specs.Rows.{Rows, has}

abbrev pub summary_of : ℕ → ℕ → SummaryEdge
summary_of a b = record { from = a; to = b }

-- both ends are numbers of labels
abbrev pub IsSummaryWithin : ℕ → SummaryEdge → Type 0
IsSummaryWithin count s = (s.from < count) × (s.to < count)

module _ (global : ℕ → Bool) (levels : Rows) where
  -- the Leave edge ends what was entered at the label inside
  abbrev pub Ends : ℕ → ℕ → Passage → SummaryEdge → Type 0
  Ends from inside leaving s =
      (global leaving.from ≡ false) × (has levels inside leaving.from ≡ true)
      × (summary_of from leaving.to ≡ s)

  -- what is entered at the label inside is left by one of these
  abbrev pub IsMatched : List Passage → ℕ → ℕ → SummaryEdge → Type 0
  IsMatched leavings from inside s = (global inside ≡ false) × IsGiven (Ends from inside) leavings s

  -- an edge with this mark gives the summary edge: itself, or what is entered by it and left at the same site
  abbrev pub GivesSummary : List Passage → ℕ → ℕ → Mark → SummaryEdge → Type 0
  GivesSummary leavings a b Plain s = summary_of a b ≡ s
  GivesSummary leavings a b (Enter i) s =
      (global b ≡ false) × IsGiven (λ leaving s. (leaving.site ≡ i) × Ends a b leaving s) leavings s
  GivesSummary leavings a b (Leave i) s = ⊥
