-- A thread of a sound state that stands where an operand points to a mutex: the label of what the operand points to means the place of the mutex.
use Rattle.std.proofs.Common.{◌≡◌, ◌<◌, ℕ, ◌-◌, List, [], ◌∷◌, length, Some, refl, sym, ap, subst, ◌∙◌, arith, length-append}
use Rattle.std.proofs.lemmas.Option.{same_Some, slice_get_within}
use Rattle.std.specs.List.{slice_get}
use Rattle.std.specs.Prelude.{unwrap_or}
use Rattle.lk_cells.specs.Operands.{operand}
use Rattle.lk_cells.specs.Places as places
use Rattle.lk_cells.specs.declared.state.State.{State}
use Rattle.lk_cells.specs.declared.state.Thread.{Thread}
use Rattle.lk_facts.specs.Basis.{Basis}
use Rattle.lk_facts.specs.EdgeRules.{value}
use Rattle.lk_facts.specs.Labels.{target_at}
use Rattle.lk_facts.specs.Typed.{PointsToForm}
use Rattle.lk_facts.specs.declared.edge.Edge.{Edge}
use Rattle.lk_circles.proofs.Sames.{Meant}
use Rattle.lk_right.proofs.Accessing.{part_leads}
use Rattle.lk_right.proofs.Doing.{get_last}
use Rattle.lk_right.proofs.Sees.{has_pointer, sees_form}
use Rattle.lk_right.specs.Contexts.{Contexts, last_of}
use Rattle.lk_right.specs.Laws.{IsAnalysed}
use Rattle.lk_right.specs.Right.{IsPointerRight}
use Rattle.lk_right.specs.Sound.{IsFrameSound, IsSound}
use Rattle.lk_safe.proofs.Meant.{PointsAt, pointer_means}
use Rattle.lk_sound.proofs.PlaceNumbers.{element_at}
use Rattle.lk_trails.specs.Named.{Means}
use Rattle.lk_types.specs.declared.c_type.CType.TheVariants.{Mutex}
use Rattle.lk_values.specs.declared.cell.Cell.{Cell}
use Rattle.lk_values.specs.declared.value.Value.TheVariants.{Pointer}

-- the frame in which a thread is, its function and the contexts of its frames
pub record IsStanding (basis : Basis) (es : List Edge) (contexts : Contexts) (t : ℕ) (thread : Thread) : Type 0 where
  pub cs : List (List ℕ)
  pub in_contexts : slice_get contexts.frames t ≡ Some cs
  pub f : ℕ
  pub own : IsFrameSound basis.program basis.labels es contexts.homes f (last_of cs) thread.frame

module _ (basis : Basis) (es : List Edge) (ok : IsAnalysed basis.program basis.labels es) (contexts : Contexts) (s : State) (sound : IsSound basis.program basis.labels es contexts s) where
  pub standing : (t : ℕ) (thread : Thread) → slice_get s.threads t ≡ Some thread → IsStanding basis es contexts t thread
  standing t thread there =
      let cs = element_at contexts.frames t (subst (λ n. t < n) (sym sound.threads_many) (slice_get_within s.threads t thread there)) in
      let frames = sound.threads t thread cs.0 there cs.1 in
      let own = frames.each (length thread.below) thread.frame (get_last thread.below thread.frame) in
      let many = frames.many in
      let long = length-append thread.below (thread.frame ∷ []) in
      let last : length cs.0 - 1 ≡ length thread.below = omega (arith, many, long) in
      let context : own.context ≡ last_of cs.0 = sym (ap (λ k. unwrap_or (slice_get cs.0 k) []) last ∙ ap (λ o. unwrap_or o []) own.in_context) in
      record { cs = cs.0; in_contexts = cs.1; f = own.function; own = subst (λ c. IsFrameSound basis.program basis.labels es contexts.homes own.function c thread.frame) context own.sound }

  -- what an operand that points to a mutex means
  pub mutex_means : (t : ℕ) (thread : Thread) (at : IsStanding basis es contexts t thread) (a : ℕ) (cell : Cell) → PointsToForm basis.program a Mutex → places.part_of s (operand thread a) ≡ Some cell →
      PointsAt basis es contexts.homes cell a (last_of at.cs)
  mutex_means t thread at a cell form leads =
      let pointer = part_leads s (operand thread a) cell leads in
      let right : IsPointerRight basis.program basis.labels es contexts.homes pointer.pointer (value basis.program a) (last_of at.cs) =
      at.own.values a (Pointer pointer.pointer) pointer.points (has_pointer basis.program basis.labels es ok a form.0 form.1) in
      let plain = sees_form basis.program basis.labels es ok contexts.homes a (last_of at.cs) pointer.pointer right Mutex form refl in
      subst (λ d. PointsAt basis es contexts.homes d a (last_of at.cs)) pointer.to (pointer_means basis es ok contexts.homes a (last_of at.cs) pointer.pointer right plain)

-- the label by which the point names it
pub named_means : (basis : Basis) (es : List Edge) (contexts : Contexts) (cell : Cell) (a y : ℕ) (c : List ℕ) (points : PointsAt basis es contexts.homes cell a c) →
    target_at basis.labels a ≡ Some y → Meant basis es points.origin points.context y c
named_means basis es contexts cell a y c points names =
    (points.is_origin, subst (λ x. Means basis.labels es points.origin points.context x c) (same_Some points.label y (sym points.leads ∙ names)) points.means)
