-- A list of different names, each put at the end where it is new.
use Rattle.std.specs.Prelude.{ℕ, Bool, List, [], ◌∷◌, ◌++◌, if◌then◌else◌, nat_eq}
use Rattle.std.specs.List.{list_any, IsDistinct}
use Rattle.std.specs.Cmp.Lexicographic.{pointwise}

-- whether the name is among the names, byte by byte
abbrev pub has_name : List (List ℕ) → List ℕ → Bool
has_name names name = list_any (pointwise nat_eq name) names

-- the names with this one: as they are where it is among them, else with it at the end
abbrev pub with_name : List (List ℕ) → List ℕ → List (List ℕ)
with_name names name = if has_name names name then names else names ++ name ∷ []

-- no name is equal to one after it
abbrev pub AreDifferent : List (List ℕ) → Type 0
AreDifferent names = IsDistinct (pointwise nat_eq) names
