-- Soundness of locks: a thread owns what the lock sets have at its point.
use Rattle.std.proofs.Common.{◌≡◌, ◌<◌, ℕ, List, Some, inl, inr, sym, subst, ◌∙◌}
use Rattle.std.proofs.lemmas.Option.{same_Some, slice_get_within}
use Rattle.std.specs.List.{slice_get}
use Rattle.lk_cells.specs.declared.state.State.{State}
use Rattle.lk_cells.specs.declared.state.Thread.{Thread}
use Rattle.lk_facts.specs.Basis.{Basis}
use Rattle.lk_facts.specs.Program.{action_at}
use Rattle.lk_facts.specs.declared.action.Action.TheVariants.{Retake}
use Rattle.lk_facts.specs.declared.edge.Edge.{Edge}
use Rattle.lk_right.specs.Contexts.{Contexts, last_of}
use Rattle.lk_right.specs.Laws.{IsAnalysed}
use Rattle.lk_right.specs.Sound.{IsSound}
use Rattle.lk_safe.proofs.CellPlaces.{origin_of, lock_origin}
use Rattle.lk_safe.specs.Owners.{owned_by}
use Rattle.lk_safe.specs.Soundness.{IsNoRetake, OwnsPlace, LocksAreHeld}
use Rattle.lk_safe.specs.Steps.{ReachedIsSafe}
use Rattle.lk_sound.proofs.PlaceNumbers.{element_at}
use Rattle.lk_trails.proofs.Meaning.{means_all}

-- where a thread isn't about to take a mutex again, it owns what it owns or waits for
pub owned_place : (basis : Basis) (es : List Edge) (ok : IsAnalysed basis.program basis.labels es) (contexts : Contexts) (s : State)
    (sound : IsSound basis.program basis.labels es contexts s) (t : ℕ) (thread : Thread) →
    slice_get s.threads t ≡ Some thread → IsNoRetake basis.program thread.frame.point → (o : ℕ) (h : List ℕ) → owned_by basis contexts s t o h → OwnsPlace basis s t o
owned_place basis es ok contexts s sound t thread there no_retake o h owned = elim owned.has [
  | inl owns ↦ record { cell = owned.cell; owns = owns; of = origin_of basis es ok contexts s sound owned.cell o h owned.at }
  | inr waits ↦ absurd (no_retake waits.operand_ (subst (λ (x : Thread). action_at basis.program x.frame.point ≡ Some (Retake waits.operand_)) (same_Some waits.thread thread
      (sym waits.stands.there ∙ there)) waits.stands.at))
]

pub locks_are_held : ReachedIsSafe → LocksAreHeld
locks_are_held reach basis es follows held closed s reached t thread there no_retake x at =
    let found = reach basis es follows held closed s reached in
    let cs = element_at found.0.frames t (subst (λ n. t < n) (sym found.1.threads_many) (slice_get_within s.threads t thread there)) in
    let holds = (found.2.holding t thread cs.0 there cs.1).at x at in
    let owns = owned_place basis es follows.analysed found.0 s found.1 t thread there no_retake holds.origin holds.home holds.is_owned in
    record {
      origin = holds.origin;
      place = owns;
      is_lock = lock_origin basis es follows.analysed found.0 s found.1 owns.cell t holds.origin owns.owns owns.of;
      all = means_all es basis.labels basis.flow follows.closed holds.origin x holds.home (last_of cs.0) holds.is_origin holds.means;
    }
