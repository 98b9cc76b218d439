-- Each step keeps the invariant of soundness of locks and races, and so each state that is reached has it.
use Rattle.std.proofs.Common.{◌≡◌, ℕ, Bool, true, List, [], Some, inl, inr, refl, sym, ap, subst, ◌∙◌}
use Rattle.std.proofs.lemmas.Bool.{false≢true}
use Rattle.std.proofs.lemmas.Option.{same_Some}
use Rattle.std.specs.List.{slice_get}
use Rattle.std.specs.Option.{option_map_or}
use Rattle.std.specs.Prelude.{slice_set}
use Rattle.lk_birth.specs.Starts.{started}
use Rattle.lk_cells.specs.declared.state.State.{State}
use Rattle.lk_cells.specs.declared.state.Thread.{Thread}
use Rattle.lk_facts.specs.Basis.{Basis}
use Rattle.lk_facts.specs.Doing.{Frees, Runs}
use Rattle.lk_facts.specs.Doing.Runs.{call, pointer}
use Rattle.lk_facts.specs.Doing.Starts.{create}
use Rattle.lk_facts.specs.Held.{AreClosedLockSets, RunsNone}
use Rattle.lk_facts.specs.LockSets.{LockSets}
use Rattle.lk_facts.specs.declared.edge.Edge.{Edge}
use Rattle.lk_facts.specs.declared.effect.Effect.TheVariants as effect
use Rattle.lk_facts.specs.declared.way.Way.{Way}
use Rattle.lk_meaning.proofs.Reading.{get_set_same, get_set_other, is_same}
use Rattle.lk_meaning.specs.Reached.{Choice, Leads}
use Rattle.lk_meaning.specs.Reached.Leads.{stays as stays_there, goes as goes_on_to}
use Rattle.lk_right.specs.Contexts.{Contexts, last_of, own_context}
use Rattle.lk_right.specs.Sound.{IsSound}
use Rattle.lk_safe.proofs.TrailLists.{trails_get, trails_from}
use Rattle.lk_safe.specs.Owners.{own_trail, trails_in, roots_in, owned_by}
use Rattle.lk_safe.specs.Safe.{IsSafe}
use Rattle.lk_safe.specs.Steps.{IsFollowed, StepsMoveTrails, OwnersGoOn, StepsMoveOwners, StartIsSafe, StepsKeepSafe, ReachedIsSafe}
use Rattle.lk_sound.proofs.CellSoundness.{steps_sound}
use Rattle.lk_sound.proofs.Elements.{split_last}
use Rattle.lk_sound.proofs.Starting.{start_is_sound}
use Rattle.lk_sound.specs.Soundness.{first_contexts, contexts_next}
use Rattle.lk_trails.specs.Counting.{AreCounted}
use Rattle.lk_trails.specs.Holding.{AreHeld, OwnedGoesOn}
use Rattle.lk_trails.specs.Laws.{PastsAreKept, CountsAreKept}
use Rattle.lk_trails.specs.Trails.{Act, Left, Trail, stay, trail, GoesInto, IsLinked, Moves, TrailsMove, ArePasts}
use Rattle.lk_trails.specs.Trails.Act.{onward}
use Rattle.lk_trails.specs.Trails.GoesInto.{run, start}
use Rattle.lk_trails.specs.Trails.Moves.{goes}
use Rattle.lk_trails.specs.Trails.TrailsMove.{still, one, creates}
use Rattle.lk_trails.proofs.Statements.{HeldBegins, HeldIsKept, HeldStays}

-- the own trail of a thread is linked
abbrev pub OwnTrailsAreLinked : Type 0
OwnTrailsAreLinked = (basis : Basis) (born : List (List Left)) (trails : List Trail) → ArePasts basis born trails → (t : ℕ) (own : Trail) → slice_get trails t ≡ Some own →
    IsLinked basis own.left own.top

-- ---- a step

-- a point that starts a thread runs no function
starts_none : (basis : Basis) {p f g : ℕ} {way : Way} {created : Bool} → GoesInto basis p f way g created → created ≡ true → RunsNone basis p
starts_none basis (run runs) h = absurd (false≢true h)
starts_none basis {p} (start (create g i does site)) h = λ k other into runs. by k other into runs
  where
    started_or_run : (x y : ℕ) → Some (effect.Starts x) ≡ Some (effect.Runs y) → ⊥
    started_or_run x y h = cc

    started_or_through : (x y : ℕ) → Some (effect.Starts x) ≡ Some (effect.RunsThrough y) → ⊥
    started_or_through x y h = cc

    by : (k other : ℕ) (into : Way) → Runs basis p k into other → ⊥
    by k other into (call to j runs at) = started_or_run g to (sym does.is ∙ runs.is)
    by k other into (pointer to a j runs may) = started_or_through g a (sym does.is ∙ runs.is)

-- What a step of the thread t makes of what threads hold, where it is known what it makes of trails and of owners.
module _ (linked : OwnTrailsAreLinked) (stays : HeldStays) (begins_held : HeldBegins) (kept : HeldIsKept) (basis : Basis) (es : List Edge) (follows : IsFollowed basis es) (held : LockSets)
    (closed : AreClosedLockSets basis held)
    (contexts : Contexts) (s : State) (safe : IsSafe basis es held contexts s) (t : ℕ) (thread : Thread) (there : slice_get s.threads t ≡ Some thread) (later : Contexts) (s2 : State)
    (owners : OwnersGoOn basis es t thread.frame.point (own_context contexts t) contexts s later s2) where
  abbrev trails : List Trail
  trails = trails_in contexts s

  abbrev IsAt : ℕ → Trail → Type 0
  IsAt u own = slice_get trails u ≡ Some own

  -- held before, and after
  abbrev WasHeld : ℕ → Trail → Type 0
  WasHeld u own = AreHeld basis es held (owned_by basis contexts s u) own

  abbrev IsHeld : ℕ → Trail → Type 0
  IsHeld u own = AreHeld basis es held (owned_by basis later s2 u) own

  was_held : (u : ℕ) (own : Trail) → IsAt u own → WasHeld u own
  was_held u own at =
      let found = trails_from s.threads contexts.frames u own at in
      subst (WasHeld u) (sym found.is) (safe.holding u found.thread found.contexts found.there found.in_contexts)

  -- another thread
  another : (u : ℕ) → (u ≡ t → ⊥) → (own : Trail) → IsAt u own → IsHeld u own
  another u other own at = stays basis es held (owned_by basis contexts s u) (owned_by basis later s2 u) (owners.others u other) own (was_held u own at)

  -- where the thread t stands
  top_is : (own : Trail) → IsAt t own → own.top ≡ stay thread.frame.point (own_context contexts t)
  top_is own at =
      let found = trails_from s.threads contexts.frames t own at in
      ap (λ (x : Trail). x.top) found.is
      ∙ (ap (λ (x : Thread). stay x.frame.point (last_of found.contexts)) (same_Some found.thread thread (sym found.there ∙ there)) ∙ ap (λ o. stay thread.frame.point
      (option_map_or last_of o [])) (sym found.in_contexts))

  goes_on : (own : Trail) → IsAt t own → OwnedGoesOn basis es held own.top (owned_by basis contexts s t) (owned_by basis later s2 t)
  goes_on own at = subst (λ x. OwnedGoesOn basis es held x (owned_by basis contexts s t) (owned_by basis later s2 t)) (sym (top_is own at)) (owners.own held)

  -- the thread t moves, or stands still and frees nothing
  moving : (act : Act) (before after : Trail) → IsAt t before → Moves basis act before after → IsHeld t after
  moving act before after at moves =
      kept basis es held follows.closed closed (owned_by basis contexts s t) (owned_by basis later s2 t) act before after (linked basis safe.pasts.0 trails safe.pasts.1 t before at)
      (goes_on before at) moves (was_held t before at)

  standing : ((own : Trail) (f x : ℕ) → IsAt t own → Frees basis own.top.point f x → ⊥) → (own : Trail) → IsAt t own → IsHeld t own
  standing frees_none own at = stays basis es held (owned_by basis contexts s t) (owned_by basis later s2 t) on own (was_held t own at)
    where
      on : (o : ℕ) (h : List ℕ) → owned_by basis contexts s t o h → owned_by basis later s2 t o h
      on o h owned = elim ((goes_on own at).kept o h owned) [ inl new ↦ new | inr freed ↦ absurd (frees_none own freed.0 freed.1 at freed.2) ]

  -- all trails, after the one of t has moved
  after_one : (before after : Trail) → IsAt t before → IsHeld t after → (u : ℕ) (own : Trail) → slice_get (slice_set trails t after) u ≡ Some own → IsHeld u own
  after_one before after at is u own own_at = elim (is_same u t) [
    | inl same ↦ here same
    | inr other ↦ another u other own (sym (get_set_other trails t u after other) ∙ own_at)
  ]
    where
      here : u ≡ t → IsHeld u own
      here same =
          let own_is = same_Some after own (sym (get_set_same trails t before after at) ∙ subst (λ v. slice_get (slice_set trails t after) v ≡ Some own) same own_at) in
          subst (λ v. IsHeld v own) (sym same) (subst (IsHeld t) own_is is)

  pub after_move : {act : Act} {new : List Trail} → TrailsMove basis t trails new act → (u : ℕ) (own : Trail) → slice_get new u ≡ Some own → IsHeld u own
  after_move (still new_is frees_none) u own own_at = elim (is_same u t) [
    | inl same ↦ subst (λ v. IsHeld v own) (sym same) (standing frees_none own (subst (λ v. IsAt v own) same (sym (ap (λ ts. slice_get ts u) new_is) ∙ own_at)))
    | inr other ↦ another u other own (sym (ap (λ ts. slice_get ts u) new_is) ∙ own_at)
  ]
  after_move {act = act} (one before after at moves new_is) u own own_at = after_one before after at (moving act before after at moves) u own (sym (ap (λ ts. slice_get ts u) new_is) ∙ own_at)
  after_move (creates left p q c to at next begins new_is) u own own_at =
      elim (split_last (slice_set trails t (trail left (stay q c))) (trail [] to) u own (sym (ap (λ ts. slice_get ts u) new_is) ∙ own_at)) [
        | inl old ↦ after_one (trail left (stay p c)) (trail left (stay q c)) at
            (moving (onward p) (trail left (stay p c)) (trail left (stay q c)) at (goes left p q c (starts_none basis begins.enters.goes refl) next)) u own old
        | inr last ↦ subst (IsHeld u) (sym last.1) (begins_held basis es held closed (owned_by basis later s2 u) begins.enters.g to begins.entry)
      ]

-- each step keeps the invariant
pub steps_keep_safe : StepsMoveTrails → StepsMoveOwners → OwnTrailsAreLinked → HeldStays → HeldBegins → HeldIsKept → PastsAreKept → CountsAreKept → StepsKeepSafe
steps_keep_safe move_trails move_owners linked stays begins_held kept pasts counts basis es follows held closed contexts s s2 t w sound safe step =
    let moved = move_trails basis es follows contexts s s2 t w sound step in
    let owners = move_owners basis es follows contexts s s2 t w sound step in
    let later = contexts_next basis.program contexts t step.thread step.change in
    let counted = counts basis follows.analysed.in_range follows.analysed.lowered safe.counted.0 t (trails_in contexts s) (trails_in later s2)
    (roots_in contexts) moved.more moved.act safe.counted.1 moved.trails moved.makes in
    record {
      holding = λ u thread cs there in_contexts.
          after_move linked stays begins_held kept basis es follows held closed contexts s safe t step.thread step.may.there later s2 owners moved.trails u (own_trail thread cs)
          (trails_get s2.threads later.frames u thread cs there in_contexts);
      pasts = pasts basis follows.analysed.lowered safe.pasts.0 t (trails_in contexts s) (trails_in later s2) moved.act safe.pasts.1 moved.trails;
      counted = (counted.0, subst (AreCounted basis.program counted.0 (trails_in later s2)) (sym moved.roots) counted.1);
    }

-- each state that is reached has it
pub reached_is_safe : StartIsSafe → StepsKeepSafe → ReachedIsSafe
reached_is_safe begin keep basis es follows held closed s reached =
    on reached.run (first_contexts (started basis.program reached.args)) (start_is_sound basis.program basis.labels es follows.analysed reached.begins reached.args)
    (begin basis es follows held closed reached.begins reached.args)
  where
    on : {s s2 : State} {choices : List Choice} → Leads basis.program s choices s2 → (contexts : Contexts) → IsSound basis.program basis.labels es contexts s → IsSafe basis es held contexts s →
        (after : Contexts) × IsSound basis.program basis.labels es after s2 × IsSafe basis es held after s2
    on stays_there contexts sound safe = (contexts, sound, safe)
    on (goes_on_to {s = s} {s2 = s2} {t = t} {w = w} step rest) contexts sound safe =
        on rest (contexts_next basis.program contexts t step.thread step.change) (steps_sound basis.program basis.labels es follows.analysed contexts s s2 t w sound step)
        (keep basis es follows held closed contexts s s2 t w sound safe step)
