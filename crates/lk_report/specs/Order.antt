-- The order in which racing accesses are told.
use Rattle.std.specs.Prelude.{ℕ, Bool, List, [], ◌∷◌, if◌then◌else◌, unwrap_or}
use Rattle.std.specs.declared.cmp.Ordering.{Ordering}
use Rattle.std.specs.Ordering.{is_lt, nat_cmp, ordering_then}
use Rattle.lk_base.specs.declared.spot.Spot.{Spot}
use Rattle.lk_facts.specs.Program.{spot_of}
use Rattle.lk_facts.specs.declared.program.Program.{Program}
use Rattle.lk_facts.specs.declared.verdict.Racing.{Racing}

-- puts an element before the first that doesn't stand before it
abbrev pub put_by : {X : Type 0} → (X → X → Bool) → X → List X → List X
put_by before x [] = x ∷ []
put_by before x (y ∷ ys) = if before y x then y ∷ put_by before x ys else x ∷ (y ∷ ys)

-- a list in order; elements of which neither stands before the other stay as they are
abbrev pub sort_by : {X : Type 0} → (X → X → Bool) → List X → List X
sort_by before [] = []
sort_by before (x ∷ xs) = put_by before x (sort_by before xs)

-- the place of a point in a source
abbrev pub spot_at : Program → ℕ → Spot
spot_at program p = unwrap_or (spot_of program p) (record { file = 0; line = 0; col = 0 })

abbrev pub spot_cmp : Spot → Spot → Ordering
spot_cmp a b =
    ordering_then (ordering_then (nat_cmp a.file b.file) (nat_cmp a.line b.line)) (nat_cmp a.col b.col)

module _ (program : Program) where
  -- accesses compare by their places: file, line and column; at one place by their points
  abbrev pub access_cmp : Racing → Racing → Ordering
  access_cmp a b =
      ordering_then (spot_cmp (spot_at program a.access) (spot_at program b.access))
      (nat_cmp a.access b.access)

  abbrev pub is_told_before : Racing → Racing → Bool
  is_told_before a b = is_lt (access_cmp a b)

  -- accesses in the order in which they are told
  abbrev pub in_order : List Racing → List Racing
  in_order accesses = sort_by is_told_before accesses
