-- The bounds of a command, as they are tested.
use Rattle.std.proofs.Common.{◌≡◌, ◌&&◌, List, Option, Bor, length, refl}
use Rattle.std.specs.Prelude.{map}
use Rattle.std.specs.List.{list_all}
use Rattle.std.proofs.lemmas.List.{length-map}
use Rattle.std.proofs.lemmas.List.Folds.{list_all-map}
use Rattle.lk_words.specs.Words.{Task, Word, beside, is_count, is_in_bounds, is_name, is_name_or_none}

pub in_bounds_by : (files : List (Bor Word)) (externs : Option Word) (task : Task)
    → (is_count (length files) && (list_all (λ name. is_name name.now) files && (is_name_or_none externs && is_name_or_none (beside task))))
    ≡ is_in_bounds (record { task = task; externs = externs; files = map (λ name. name.now) files })
in_bounds_by files externs task = rw (length-map files (λ (name : Bor Word). name.now), list_all-map is_name (λ (name : Bor Word). name.now) files) refl
