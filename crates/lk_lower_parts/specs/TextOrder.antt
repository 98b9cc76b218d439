-- The order of places by the text.
use Rattle.std.specs.Prelude.{◌≡◌, ◌<◌, ◌≤◌, ◌⊎◌, ℕ, suc, List, Some, slice_get}
use Rattle.lk_facts.specs.declared.place.Place.{Place}
use Rattle.lk_facts.specs.declared.root.Root.{Root}
use Rattle.lk_lower_expr.specs.Programs.{IsSpotBefore}

-- one place stands before another, of which these are the roots: by the place of the root in the text, then
-- by the root, then by the part
abbrev pub IsBeforeOf : Root → Root → Place → Place → Type 0
IsBeforeOf ra rb a b =
    IsSpotBefore ra.spot rb.spot
    ⊎ ((ra.spot ≡ rb.spot) × ((a.root < b.root) ⊎ ((a.root ≡ b.root) × (a.node.number < b.node.number))))

module _ (roots : List Root) where
  pub record IsBefore (a b : Place) : Type 0 where
    pub ra : Root
    pub rb : Root
    pub of_a : slice_get roots a.root ≡ Some ra
    pub of_b : slice_get roots b.root ≡ Some rb
    pub before : IsBeforeOf ra rb a b

  -- of these places from one on to another, each stands before the next
  abbrev pub Ascend : List Place → (from to : ℕ) → Type 0
  Ascend places from to = (n : ℕ) (a b : Place) → from ≤ n → suc n < to → slice_get places n ≡ Some a →
      slice_get places (suc n) ≡ Some b → IsBefore a b
