-- Lists as the code makes them. Private contracts alone cite these words.
use Rattle.std.specs.Prelude.{◌==◌, ℕ, List, [], ◌∷◌, if◌then◌else◌, map}
use Rattle.std.specs.List.{filter, flat_map}
use Rattle.std.specs.Option.{option_map_or}
use Rattle.lk_facts.specs.Origins.{OriginTable}
use Rattle.lk_rise.specs.Groups.{group_at}
use Rattle.lk_rise.specs.Tables.{item_at}
use Rattle.lk_rise.specs.declared.correlations.Correlation.{Correlation}
use Rattle.lk_rise.specs.declared.point_items.ItemAt.{ItemAt}
use Rattle.lk_sets.specs.Rows.{has}

-- the subjects of items
abbrev pub subjects_of : List (Correlation × List ℕ) → List ℕ
subjects_of entries = map (λ (entry : Correlation × List ℕ). entry.0.subject) entries

-- the access of the item, where it is one of the function
abbrev pub access_of : (f : ℕ) → Correlation → List ℕ
access_of f item = if item.function == f then item.access ∷ [] else []

-- that of the item with a number
abbrev pub access_at : (f : ℕ) → List (Correlation × List ℕ) → ℕ → List ℕ
access_at f entries k = option_map_or (access_of f) (item_at entries k) []

-- the accesses of the items of a function for a location, whose numbers are given by their locations
abbrev pub accesses_in : (f o : ℕ) → List (Correlation × List ℕ) → List (List ℕ) → List ℕ
accesses_in f o entries numbers = flat_map (access_at f entries) (group_at numbers o)

-- the items that may be at a location
abbrev pub at_location : OriginTable → ℕ → List ItemAt → List ItemAt
at_location origins o items = filter (λ i. has origins.all i.subject o) items
