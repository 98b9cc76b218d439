-- The frames of trails: those of one trail, and what they are after a trail was changed or another one was put behind all.
use Rattle.std.proofs.Common.{◌≡◌, ◌⊎◌, ℕ, Bool, true, false, List, [], ◌∷◌, ◌++◌, length, Some, inl, inr, subst}
use Rattle.std.specs.Prelude.{slice_get, slice_set}
use Rattle.lk_facts.specs.declared.program.Program.{Program}
use Rattle.lk_trails.proofs.Members.{put_cases, added_cases}
use Rattle.lk_trails.specs.Counting.{IsFrame}
use Rattle.lk_trails.specs.Counting.IsFrame.{below as frame_below, top as frame_top}
use Rattle.lk_trails.specs.Trails.{Left, Trail}

-- ---- the frames of one trail

pub data FrameOf (own : Trail) (j x : ℕ) : Bool → Type 0 where
  lower : (l : Left) → slice_get own.left j ≡ Some l → l.at.point ≡ x → FrameOf own j x true
  upper : j ≡ length own.left → own.top.point ≡ x → FrameOf own j x false

module _ (program : Program) where
  pub frame_in : {trails : List Trail} {t j x : ℕ} {called : Bool} (own : Trail) → slice_get trails t ≡ Some own → FrameOf own j x called → IsFrame program trails t j x called
  frame_in own there (lower l at is) = frame_below own l there at is
  frame_in own there (upper at is) = frame_top own there at is

  pub frame_of : {trails : List Trail} {t j x : ℕ} {called : Bool} → IsFrame program trails t j x called → (own : Trail) × (slice_get trails t ≡ Some own) × FrameOf own j x called
  frame_of (frame_below own l there at is) = (own, there, lower l at is)
  frame_of (frame_top own there at is) = (own, there, upper at is)

  -- a frame of a trail that was set is one of the new trail, or was there in another thread
  pub frame_set : (trails : List Trail) (u : ℕ) (after : Trail) {t j x : ℕ} {called : Bool} → IsFrame program (slice_set trails u after) t j x called →
      ((t ≡ u) × FrameOf after j x called) ⊎ ((t ≡ u → ⊥) × IsFrame program trails t j x called)
  frame_set trails u after {t} {j} {x} {called} frame =
      let found = frame_of frame in
      elim (put_cases trails u t after found.0 found.1) [
        | inl set ↦ inl (set.0, subst (λ own. FrameOf own j x called) set.1 found.2)
        | inr other ↦ inr (other.0, frame_in found.0 other.1 found.2)
      ]

  -- and with one more trail at the end it may be a frame of that
  pub frame_more : (trails : List Trail) (last : Trail) {t j x : ℕ} {called : Bool} → IsFrame program (trails ++ last ∷ []) t j x called →
      ((t ≡ length trails) × FrameOf last j x called) ⊎ IsFrame program trails t j x called
  frame_more trails last {t} {j} {x} {called} frame =
      let found = frame_of frame in
      elim (added_cases trails last t found.0 found.1) [
        | inl was ↦ inr (frame_in found.0 was found.2)
        | inr new ↦ inl (new.0, subst (λ own. FrameOf own j x called) new.1 found.2)
      ]
