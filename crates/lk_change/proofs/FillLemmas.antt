-- The paths of a place, with indices counted up.
use Rattle.std.proofs.Common.{◌≡◌, ℕ, ◌<◌, ◌+◌, List, ◌∷◌, ◌++◌, drop, take, length, Option, None, Some, slice_index_or, refl, add-one}
use Rattle.std.specs.Prelude.{map}
use Rattle.std.specs.Option.{option_map, option_or}
use Rattle.std.proofs.Math.Seq.{drop-cons}
use Rattle.lk_types.specs.Table.{Table}
use Rattle.lk_cells.specs.Parts.{part_at}
use Rattle.lk_base.specs.declared.cell.CellStep.{CellStep}
use Rattle.lk_change.specs.Fills.{first_index, index_after, next_path, path_counted}

-- the next path, where the last step leads to no part
pub next_path-stops : (table : Table) (own : ℕ) (path : List CellStep) (i t : ℕ) (d : CellStep) → i < length path → part_at table own t (slice_index_or path i d) ≡ None →
    next_path table own (drop i path) t ≡ option_map (λ n. n ∷ map first_index (drop (i + 1) path)) (index_after table own t (slice_index_or path i d))
next_path-stops table own path i t d below stops = rw (drop-cons path i d) (rw (stops, add-one) refl)

-- the path counted at a newer place, where there is one
pub counted-or : (path : List CellStep) (i : ℕ) (next : Option CellStep) (found : Option (ℕ × CellStep)) →
    path_counted path (option_or (option_map (λ n. (i, n)) next) found) ≡ option_or (option_map (λ n. take i path ++ n ∷ map first_index (drop (i + 1) path)) next) (path_counted path found)
counted-or path i (Some n) found = refl
counted-or path i None found = refl
