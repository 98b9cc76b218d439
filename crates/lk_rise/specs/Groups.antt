-- The places of a list by what stands there.
use Rattle.std.specs.Prelude.{◌≡◌, ◌<◌, ◌↔◌, ℕ, List, [], map, Contains, Some, slice_get, slice_index_or, Vec}
use Rattle.std.specs.declared.alloc.Global.{Global}

-- the numbers of lists
abbrev pub lists_of : List (Vec ℕ Global) → List (List ℕ)
lists_of lists = map (λ v. v.items) lists

-- the places of a group, none past the end
abbrev pub group_at : List (List ℕ) → ℕ → List ℕ
group_at groups key = slice_index_or groups key []

-- for each key below the number of groups the places at which it stands
pub record AreGroups (keys : List ℕ) (groups : List (List ℕ)) : Type 0 where
  pub each : (key place : ℕ) → Contains (group_at groups key) place ↔ (slice_get keys place ≡ Some key)

-- those of the first n places
abbrev pub AreGroupsBelow : List ℕ → ℕ → List (List ℕ) → Type 0
AreGroupsBelow keys n groups =
    (key place : ℕ) → Contains (group_at groups key) place ↔ ((place < n) × (slice_get keys place ≡ Some key))
