-- What crosses sites, from the edges into them and the levels behind these.
use Rattle.std.specs.Prelude.{◌≡◌, ℕ, ◌<◌, true, List, [], slice_get}
use Rattle.std.specs.Option.{option_map_or}
use Rattle.lk_facts.specs.Origins.{outside_of}
use Rattle.lk_facts.specs.declared.crossing.Crossing.{Crossing}
use Rattle.lk_match.specs.declared.passage.Passage.{Passage}
use Rattle.lk_sets.specs.Rows.{Rows, has}

-- both ends are numbers of labels
abbrev pub IsPassageWithin : ℕ → Passage → Type 0
IsPassageWithin count x = (x.from < count) × (x.to < count)

-- the label b is in the level behind the entrance
abbrev pub LeadsTo : Rows → Passage → ℕ → Type 0
LeadsTo levels x b = has levels x.to b ≡ true

-- the entrance leads from the label m outside to the label b inside
abbrev pub LeadsInto : Rows → ℕ → Passage → ℕ → Type 0
LeadsInto levels b x m = (has levels x.to b ≡ true) × (x.from ≡ m)

-- the labels that flow through the site i to the label b
abbrev pub crossed_of : List Crossing → ℕ → ℕ → List ℕ
crossed_of all i b = option_map_or (λ crossing. outside_of crossing b) (slice_get all i) []
