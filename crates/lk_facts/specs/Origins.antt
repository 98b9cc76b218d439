-- Which origins may flow to which labels, and what crosses each site.
use Rattle.std.specs.Prelude.{◌≡◌, ℕ, ◌<◌, ◌==◌, List, [], length, slice_get, unwrap_or, All}
use Rattle.std.specs.List.{position_or_len}
use Rattle.std.specs.Option.{option_map_or}
use Rattle.std.specs.List.Sorted.{IsStrictlyIncreasing}
use Rattle.lk_facts.specs.Flow.{Flow}
use Rattle.lk_facts.specs.declared.crossing.Crossing.{Crossing}
use Rattle.lk_sets.specs.Ids.{has_id}
use Rattle.lk_sets.specs.Rows.{Rows, has}

pub record OriginTable : Type 0 where
  pub all : Rows
  pub inner : Rows
  -- for each site what crosses it
  pub crossings : List Crossing

abbrev pub origins_of : Rows → Rows → List Crossing → OriginTable
origins_of all inner crossings = record { all = all; inner = inner; crossings = crossings }

-- the labels outside that flow to this label inside: the list that stands where the label does;
-- none where it stands nowhere
abbrev pub outside_of : Crossing → ℕ → List ℕ
outside_of crossing b =
    unwrap_or (slice_get crossing.outside (position_or_len (λ x. x == b) crossing.inside)) []

-- the labels that flow through a site to a label; none at a site past the end
abbrev pub cross_of : OriginTable → ℕ → ℕ → List ℕ
cross_of origins i b = option_map_or (λ crossing. outside_of crossing b) (slice_get origins.crossings i) []

-- the three relations that the table holds
abbrev pub flow_of : OriginTable → Flow
flow_of origins =
    record { all = has origins.all; inner = has origins.inner; cross = λ i b m. has_id (cross_of origins i b) m }

-- the numbers ascend, and are below the number of labels
pub record IsSetBelow (labels : ℕ) (ids : List ℕ) : Type 0 where
  pub sorted : IsStrictlyIncreasing ids
  pub below : All (λ x. x < labels) ids

pub record AreSetsBelow (labels : ℕ) (sets : List (List ℕ)) : Type 0 where
  pub each : All (IsSetBelow labels) sets

pub record IsCrossingInRange (labels : ℕ) (crossing : Crossing) : Type 0 where
  pub inside : IsSetBelow labels crossing.inside
  pub outside : AreSetsBelow labels crossing.outside
  pub paired : length crossing.outside ≡ length crossing.inside

pub record AreOriginsInRange (origins : OriginTable) : Type 0 where
  pub same_size : origins.inner.size ≡ origins.all.size
  pub crossings : All (IsCrossingInRange origins.all.size) origins.crossings
