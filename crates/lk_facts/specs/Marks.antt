-- Points that were found to be live so far. Only the private calls of this crate speak of it.
use Rattle.std.specs.Prelude.{◌≡◌, ◌⊎◌, ◌<◌, ℕ, true, List, length, slice_get, Some, Contains}
use Rattle.lk_facts.specs.Live.{IsReached}
use Rattle.lk_facts.specs.declared.function.Function.{Function}
use Rattle.lk_facts.specs.declared.live.Marks.{Marks}
use Rattle.lk_facts.specs.declared.point.Point.{Point}
use Rattle.lk_sets.specs.Ids.{has_id}

-- the point is marked
abbrev pub IsMarked : Marks → ℕ → Type 0
IsMarked marks p = slice_get marks.live.items p ≡ Some true

-- the marked points are those that are listed
pub record AreListed (marks : Marks) : Type 0 where
  pub listed : (p : ℕ) → IsMarked marks p → Contains marks.found.items p
  pub marked : (p : ℕ) → Contains marks.found.items p → IsMarked marks p

-- Points of the list are marked, and no others that weren't. What was listed keeps its place.
pub record AreMarked (ps : List ℕ) (old new : Marks) : Type 0 where
  pub long : length new.live.items ≡ length old.live.items
  pub each : (p : ℕ) → has_id ps p ≡ true → IsMarked new p
  pub kept : (p : ℕ) → IsMarked old p → IsMarked new p
  pub only : (p : ℕ) → IsMarked new p → IsMarked old p ⊎ (has_id ps p ≡ true)
  pub places : (i p : ℕ) → slice_get old.found.items i ≡ Some p → slice_get new.found.items i ≡ Some p
  pub listed : AreListed old → AreListed new

-- the entries are marked, and only points that are reached
pub record AreFound (points : List Point) (functions : List Function) (marks : Marks) : Type 0 where
  pub long : length marks.live.items ≡ length points
  pub entries : (f : ℕ) (function : Function) → slice_get functions f ≡ Some function →
      IsMarked marks function.entry
  pub sound : (p : ℕ) → IsMarked marks p → IsReached points functions p
  pub listed : AreListed marks

-- the successors of the first k listed points are marked
abbrev pub AreFollowed : List Point → Marks → ℕ → Type 0
AreFollowed points marks k =
    (i p : ℕ) (point : Point) → i < k → slice_get marks.found.items i ≡ Some p →
    slice_get points p ≡ Some point → (q : ℕ) → has_id point.next q ≡ true → IsMarked marks q
