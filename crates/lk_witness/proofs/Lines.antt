-- Lines of a text.
use Rattle.std.proofs.Common.{◌≡◌, ℕ, List, [], ◌∷◌, ◌||◌, Bor, map, refl, ap}
use Rattle.std.specs.List.{list_any}
use Rattle.std.specs.Str.{bytes_eq}

-- what is asked of each of some references is asked of what they point to
pub any_of : (lines : List (Bor (List ℕ))) (line : List ℕ) →
    list_any (λ part. bytes_eq part.now line) lines ≡ list_any (λ part. bytes_eq part line) (map (λ part. part.now) lines)
any_of [] line = refl
any_of (part ∷ lines) line = ap (λ b. bytes_eq part.now line || b) (any_of lines line)
