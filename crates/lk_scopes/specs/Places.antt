-- Where names stand in a list.
use Rattle.std.specs.Prelude.{ℕ, suc, ◌≡◌, Option, Some, None, List, [], ◌∷◌, take, slice_get, if◌then◌else◌}
use Rattle.std.specs.Map.{lookup}
use Rattle.std.specs.Option.{option_map}
use Rattle.lk_scopes.specs.Latest.{Name, is_name, or_else}

-- the last place at which a name stands
abbrev pub last_place : List Name → Name → Option ℕ
last_place [] name = None
last_place (n ∷ ns) name =
    or_else (option_map suc (last_place ns name)) (if is_name n name then Some 0 else None)

-- the table has the last place of each name, and each name tells the last place of the same name before it
pub record AreLatest (names : List Name) (hides : List (Option ℕ)) (table : List (Name × ℕ)) : Type 0 where
  pub found : (name : Name) → lookup (is_name name) table ≡ last_place names name
  pub hidden : (place : ℕ) (name : Name) (before : Option ℕ) → slice_get names place ≡ Some name →
      slice_get hides place ≡ Some before → before ≡ last_place (take place names) name
