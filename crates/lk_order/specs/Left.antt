-- Sets of locks that shrink, one for each point: those that each way to it lets go, as far as is known.
-- They shrink as the sets of lock states do.
use Rattle.std.specs.Prelude.{ℕ, Bool, List}
use Rattle.lk_held.specs.States.{set_of, holds, weight, IsLess, Narrows}
use Rattle.lk_order.specs.declared.states.States.{States}

-- the locks that are left at a point
abbrev pub left_at : States → ℕ → List ℕ
left_at states p = set_of (record { locks = states.locks; sets = states.sets }) p

abbrev pub is_left : States → ℕ → ℕ → Bool
is_left states p x = holds (record { locks = states.locks; sets = states.sets }) p x

-- how much the sets may still lose
abbrev pub left_weight : States → ℕ
left_weight states = weight (record { locks = states.locks; sets = states.sets })

-- what is left of the locks of a point is what is in the set too, and that is less
abbrev pub IsLessLeft : States → ℕ → (set left : List ℕ) → Type 0
IsLessLeft states point set left = IsLess (record { locks = states.locks; sets = states.sets }) point set left

-- the locks of the point that aren't in the set are taken away
abbrev pub NarrowsLeft : (old new : States) → ℕ → List ℕ → (changed : Bool) → Type 0
NarrowsLeft old new point set changed =
    Narrows (record { locks = old.locks; sets = old.sets }) (record { locks = new.locks; sets = new.sets })
    point set changed
