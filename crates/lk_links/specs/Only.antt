-- The one number of which a fact holds, and the labels that one label may be outside.
use Rattle.std.specs.Prelude.{◌≡◌, ◌⊎◌, ◌<◌, ◌↔◌, ℕ, true, Option, MatchOption, List, ◌++◌}
use Rattle.std.specs.List.{flat_map}
use Rattle.lk_facts.specs.Flow.{Flow, IsOnly, Over, RisesAs}
use Rattle.lk_facts.specs.Origins.{OriginTable, cross_of}
use Rattle.lk_facts.specs.declared.way.Way.{Way}
use Rattle.lk_facts.specs.declared.way.Way.TheVariants.{Through, AsValue}
use Rattle.lk_sets.specs.Ids.{has_id}
use Rattle.lk_sets.specs.Rows.{Rows, has, row_of}

-- it is the one number of which the fact holds, or the fact holds of none
abbrev pub IsTheOne : (ℕ → Type 0) → Option ℕ → Type 0
IsTheOne P found = MatchOption found ((x : ℕ) → P x → ⊥) (IsOnly P)

-- it is the one number of which the fact holds, or the fact holds of none or of several
abbrev pub IsOneIfOnly : (ℕ → Type 0) → Option ℕ → Type 0
IsOneIfOnly P found = MatchOption found ((x : ℕ) → IsOnly P x → ⊥) (IsOnly P)

-- it is a number of which the fact holds, or the fact holds of none
abbrev pub IsSome : (ℕ → Type 0) → Option ℕ → Type 0
IsSome P found = MatchOption found ((x : ℕ) → P x → ⊥) P

-- the labels outside that x inside may be by what crosses the site: through a value's
-- own site all origins of these
abbrev pub crossing_list : OriginTable → Way → ℕ → List ℕ
crossing_list origins (Through i) x = cross_of origins i x
crossing_list origins (AsValue i) x = flat_map (row_of origins.all) (cross_of origins i x)

abbrev pub Crosses : Flow → Way → ℕ → ℕ → Type 0
Crosses flow (Through i) x m = flow.cross i x m ≡ true
Crosses flow (AsValue i) x m = (n : ℕ) × (flow.cross i x n ≡ true) × (flow.all n m ≡ true)

-- the labels that x inside may be outside
abbrev pub over_list : OriginTable → Way → ℕ → List ℕ
over_list origins way x = row_of origins.inner x ++ crossing_list origins way x

-- some label of the list stands with m
abbrev pub OneHas : Rows → List ℕ → ℕ → Type 0
OneHas rows labels m = (n : ℕ) × (has_id labels n ≡ true) × (has rows n m ≡ true)

-- what the labels inside may be outside, and what lock sets hold for these locks outside
abbrev pub AreOver : Flow → Way → List ℕ → ℕ → Type 0
AreOver flow way labels m = (x : ℕ) × (has_id labels x ≡ true) × Over flow way x m

abbrev pub HaveRisen : Flow → Way → List ℕ → ℕ → Type 0
HaveRisen flow way locks y = (x : ℕ) × (has_id locks x ≡ true) × RisesAs flow way x y
