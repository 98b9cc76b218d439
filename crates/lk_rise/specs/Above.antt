-- The locks with which an item rises to a point (LOCKSMITH: correlation).
use Rattle.std.specs.Prelude.{◌≡◌, ◌⊎◌, ℕ, Bool, true, false, List}
use Rattle.lk_facts.specs.Flow.{Flow, RisesAs}
use Rattle.lk_facts.specs.declared.way.Way.{Way}
use Rattle.lk_sets.specs.Ids.{has_id}

-- those of the item that are locks outside too, and for an item of the thread
-- itself those that the point keeps
abbrev pub HasRisenLock : Flow → (kept : List ℕ) → Way → (child : Bool) → (locks : List ℕ) → ℕ → Type 0
HasRisenLock flow kept way child locks y =
    ((z : ℕ) × (has_id locks z ≡ true) × RisesAs flow way z y) ⊎ ((child ≡ false) × (has_id kept y ≡ true))
