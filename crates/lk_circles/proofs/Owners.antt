-- Each mutex that a thread owns was acquired along its trail: so it is at the start, and each step keeps it.
use Rattle.std.proofs.Common.{◌≡◌, ℕ, Bool, true, List, [], ◌∷◌, Option, None, Some, inl, inr, refl, sym, ap, subst, ◌∙◌}
use Rattle.std.proofs.lemmas.Bool.{false≢true}
use Rattle.std.proofs.lemmas.Option.{none-some, same_Some}
use Rattle.std.specs.List.{slice_get}
use Rattle.std.specs.Option.{option_map_or}
use Rattle.std.specs.Prelude.{length, slice_set, zero, suc}
use Rattle.lk_birth.specs.Births.{made_for}
use Rattle.lk_birth.specs.Starts.{first_objects, main_args, with_main, without_threads, started}
use Rattle.lk_cells.specs.declared.state.State.{State}
use Rattle.lk_cells.specs.declared.state.Thread.{Thread}
use Rattle.lk_change.specs.declared.change.Turn.TheVariants as turn
use Rattle.lk_facts.specs.Basis.{Basis}
use Rattle.lk_facts.specs.Doing.{Runs}
use Rattle.lk_facts.specs.Doing.Starts.{create}
use Rattle.lk_facts.specs.Held.{RunsNone}
use Rattle.lk_facts.specs.Lowered.{IsLowered}
use Rattle.lk_facts.specs.Many.{IsLinear}
use Rattle.lk_facts.specs.Program.{entry_of, IsLockPlace}
use Rattle.lk_facts.specs.declared.edge.Edge.{Edge}
use Rattle.lk_facts.specs.declared.effect.Effect.TheVariants as effect
use Rattle.lk_facts.specs.declared.way.Way.{Way}
use Rattle.lk_circles.proofs.Begun.{none_owned}
use Rattle.lk_circles.proofs.Places.{lock_place}
use Rattle.lk_circles.proofs.Spared.{GoesElsewhere}
use Rattle.lk_circles.proofs.Standing.{standing}
use Rattle.lk_circles.proofs.Stepping.{goes_elsewhere, has_taken}
use Rattle.lk_circles.proofs.Taken.{IsTaken, taken_here, taken_moves}
use Rattle.lk_meaning.proofs.LawLemmas.{first_reached, owners_kept, steps_reach}
use Rattle.lk_meaning.proofs.Reading.{get_set_same, get_set_other, is_same}
use Rattle.lk_meaning.specs.After.{moved_on}
use Rattle.lk_meaning.specs.Laws.{KeepsOwners, Owns, Takes}
use Rattle.lk_meaning.specs.Reached.{Choice, Leads, Reached}
use Rattle.lk_meaning.specs.Reached.Leads.{stays as stays_there, goes as goes_on_to}
use Rattle.lk_meaning.specs.Steps.{Step}
use Rattle.lk_right.specs.Contexts.{Contexts, last_of, own_context}
use Rattle.lk_right.specs.Sound.{IsSound}
use Rattle.lk_safe.proofs.All.{linear_one}
use Rattle.lk_safe.proofs.CellPlaces.{lock_origin, origin_of}
use Rattle.lk_safe.proofs.Meant.{at_later}
use Rattle.lk_safe.proofs.Moving.{steps_move_trails}
use Rattle.lk_safe.proofs.Owning.{homes_kept}
use Rattle.lk_safe.proofs.Performing.{Performing, performing}
use Rattle.lk_safe.proofs.TrailLists.{trails_from}
use Rattle.lk_safe.specs.Owners.{IsAt, own_trail, trails_in}
use Rattle.lk_safe.specs.Steps.{IsFollowed, Steps}
use Rattle.lk_sound.proofs.CellSoundness.{steps_sound}
use Rattle.lk_sound.proofs.Elements.{left_there}
use Rattle.lk_sound.proofs.Starting.{start_is_sound}
use Rattle.lk_sound.specs.Soundness.{first_contexts, contexts_next}
use Rattle.lk_trails.proofs.Linking.{birth_of, entry_live, whole_linked}
use Rattle.lk_trails.proofs.Parting.{no_creation}
use Rattle.lk_trails.proofs.Pasts.{pasts_are_kept}
use Rattle.lk_trails.specs.Trails.{Act, Left, Trail, stay, trail, whole, GoesInto, IsBirth, IsFromMain, ArePasts, Moves, TrailsMove}
use Rattle.lk_trails.specs.Trails.IsBirth.{first as first_birth}
use Rattle.lk_trails.specs.Trails.IsLinked.{only}
use Rattle.lk_trails.specs.Trails.Moves.{goes}
use Rattle.lk_trails.specs.Trails.TrailsMove.{still, one, creates}
use Rattle.lk_values.specs.declared.cell.Cell.{Cell}

-- ---- the trails at the start

only_one : {X : Type 0} → (x y : X) (k : ℕ) → slice_get (x ∷ []) k ≡ Some y → (k ≡ 0) × (y ≡ x)
only_one x y zero h = (refl, sym (same_Some x y h))
only_one x y (suc k) h = absurd (none-some y h)

module _ (basis : Basis) (lowered : IsLowered basis.program) where
  no_pasts : ArePasts basis [] []
  no_pasts = record {
    many = refl;
    births = λ t b there. absurd (none-some b there);
    from_main = λ t b own b_at own_at. absurd (none-some b b_at);
    own = λ t own own_at created. absurd (none-some own own_at);
    past = λ t u b d s v other b_at s_at d_at v_at. absurd (none-some b b_at);
  }

  first_from : (entry : ℕ) → entry_of basis.program basis.program.main ≡ Some entry → IsFromMain basis (trail [] (stay entry []))
  first_from entry begins =
      let stands = (lowered.entries basis.program.main entry begins).stands in
      record { linked = only (stay entry []) basis.program.main (entry_live basis lowered basis.program.main entry begins) stands; main = stands; empty = refl }

  first_pasts : (entry : ℕ) → entry_of basis.program basis.program.main ≡ Some entry → ArePasts basis ([] ∷ []) (trail [] (stay entry []) ∷ [])
  first_pasts entry begins = record {
    many = refl;
    births = λ t b there. subst IsBirth (sym (only_one [] b t there).1) first_birth;
    from_main = λ t b own b_at own_at.
        subst (λ born. IsFromMain basis (whole born own)) (sym (only_one [] b t b_at).1)
        (subst (λ x. IsFromMain basis (whole [] x)) (sym (only_one (trail [] (stay entry [])) own t own_at).1) (first_from entry begins));
    own = λ t own own_at created. no_creation created (ap (λ (x : Trail). x.left) (only_one (trail [] (stay entry [])) own t own_at).1);
    past = λ t u b d s v other b_at s_at d_at v_at.
        absurd (other ((only_one (trail [] (stay entry [])) s t s_at).0 ∙ sym (only_one (trail [] (stay entry [])) v u v_at).0));
  }

  -- of any two threads one has parted from the other
  abbrev pub HasPasts : Contexts → State → Type 0
  HasPasts contexts s = (born : List (List Left)) × ArePasts basis born (trails_in contexts s)

  -- the state in which main begins at its entry, where it is there
  abbrev begun : List (List ℕ) → Option ℕ → State
  begun args found =
      option_map_or (λ entry. with_main (first_objects basis.program args) (made_for basis.program (length (first_objects basis.program args)) basis.program.main entry
      (main_args basis.program (first_objects basis.program args) args))) found (without_threads (first_objects basis.program args))

  started_pasts : (args : List (List ℕ)) → HasPasts (first_contexts (started basis.program args)) (started basis.program args)
  started_pasts args = by (entry_of basis.program basis.program.main) refl
    where
      by : (found : Option ℕ) → entry_of basis.program basis.program.main ≡ found → HasPasts (first_contexts (begun args found)) (begun args found)
      by None is = ([], no_pasts)
      by (Some entry) is = ([] ∷ [], first_pasts entry is)

-- ---- a step

-- a point that starts a thread runs no function
starts_none : (basis : Basis) {p f g : ℕ} {way : Way} {created : Bool} → GoesInto basis p f way g created → created ≡ true → RunsNone basis p
starts_none basis (GoesInto.run runs) h = absurd (false≢true h)
starts_none basis {p} (GoesInto.start (create g i does site)) h = λ k other into runs. by k other into runs
  where
    started_or_run : (x y : ℕ) → Some (effect.Starts x) ≡ Some (effect.Runs y) → ⊥
    started_or_run x y h = cc

    started_or_through : (x y : ℕ) → Some (effect.Starts x) ≡ Some (effect.RunsThrough y) → ⊥
    started_or_through x y h = cc

    by : (k other : ℕ) (into : Way) → Runs basis p k into other → ⊥
    by k other into (Runs.call to j runs at) = started_or_run g to (sym does.is ∙ runs.is)
    by k other into (Runs.pointer to a j runs may) = started_or_through g a (sym does.is ∙ runs.is)

module _ (basis : Basis) (linear : ℕ → Bool) (es : List Edge) where
  -- the thread acquired the mutex in a frame of its trail, and spared it since
  pub record IsHeldBy (contexts : Contexts) (s : State) (u : ℕ) (cell : Cell) : Type 0 where
    pub own : Trail
    pub there : slice_get (trails_in contexts s) u ≡ Some own
    pub o : ℕ
    pub h : List ℕ
    pub is_at : IsAt basis contexts.homes cell o h
    pub is_place : IsLockPlace basis.program o
    pub taken : IsTaken basis linear es o h own.left own.top

  abbrev pub AreHeld : Contexts → State → Type 0
  AreHeld contexts s = (u : ℕ) (cell : Cell) → Owns basis.program s u cell → IsHeldBy contexts s u cell

  module _ (follows : IsFollowed basis es) (are_linear : (q : ℕ) → linear q ≡ true → IsLinear basis.program q) where
    module _ (contexts : Contexts) (s : State) (reached : Reached basis.program s) (born : List (List Left)) (pasts : ArePasts basis born (trails_in contexts s)) (held : AreHeld contexts s)
        (t w : ℕ) (s2 : State) (sound : IsSound basis.program basis.labels es contexts s) (step : Step basis.program s t w s2) where
      abbrev later : Contexts
      later = contexts_next basis.program contexts t step.thread step.change

      abbrev p : ℕ
      p = step.thread.frame.point

      found : Performing basis.program basis.labels es contexts s t w step.thread step.change
      found = performing basis.program basis.labels es follows.analysed contexts s s2 t w sound step

      keeps : KeepsOwners basis.program s t s2
      keeps = owners_kept basis.program s s2 t w step

      -- a mutex stays where it is
      later_at : (cell : Cell) (o : ℕ) (h : List ℕ) → IsAt basis contexts.homes cell o h → IsAt basis later.homes cell o h
      later_at cell o h at = at_later basis contexts.homes later.homes (homes_kept basis.program t p (own_context contexts t) contexts step.change) cell o h at

      -- where the thread of the step stands
      top_is : (own : Trail) → slice_get (trails_in contexts s) t ≡ Some own → own.top ≡ stay p (own_context contexts t)
      top_is own at =
          let is = trails_from s.threads contexts.frames t own at in
          ap (λ (x : Trail). x.top) is.is
          ∙ (ap (λ (x : Thread). stay x.frame.point (last_of is.contexts)) (same_Some is.thread step.thread (sym is.there ∙ step.may.there))
          ∙ ap (λ o. stay p (option_map_or last_of o [])) (sym is.in_contexts))

      -- what it owns after the step its point doesn't let go
      elsewhere : (cell : Cell) (o : ℕ) (h : List ℕ) → Owns basis.program s2 t cell → IsAt basis contexts.homes cell o h → (own : Trail) → slice_get (trails_in contexts s) t ≡ Some own →
          GoesElsewhere basis es o own.top
      elsewhere cell o h owns at own own_at =
          let stands = standing basis es follows.analysed contexts s sound t step.thread step.may.there in
          let point = goes_elsewhere basis linear es contexts s t w found.function step.thread found.frames (own_context contexts t) found.action step.change found.acts stands
          (linear_one basis es follows s reached) cell o h (subst (λ x. Owns basis.program x t cell) step.is owns) at in
          let context : last_of stands.cs ≡ own_context contexts t = ap (λ x. option_map_or last_of x []) (sym stands.in_contexts) in
          subst (λ x. GoesElsewhere basis es o x) (sym (top_is own own_at)) (subst (λ c. GoesElsewhere basis es o (stay p c)) context point)

      -- ---- a mutex that was owned before

      abbrev WasTaken : ℕ → List ℕ → Trail → Type 0
      WasTaken o h own = IsTaken basis linear es o h own.left own.top

      -- where the thread's own trail moves
      taken_after : (cell : Cell) (o : ℕ) (h : List ℕ) → Owns basis.program s2 t cell → IsAt basis contexts.homes cell o h → {act : Act} (before after : Trail) →
          slice_get (trails_in contexts s) t ≡ Some before → Moves basis act before after → WasTaken o h before → WasTaken o h after
      taken_after cell o h owns at before after there moves taken =
          let birth = birth_of basis born (trails_in contexts s) pasts t before there in
          let from = pasts.from_main t birth.0 before birth.1 there in
          taken_moves basis linear es o h follows.closed follows.analysed.lowered are_linear birth.0 from (whole_linked basis birth.0 before from)
          (elsewhere cell o h owns at before there) moves taken

      -- the trail of the thread u after the step, with the mutex
      record After (new : List Trail) (u o : ℕ) (h : List ℕ) : Type 0 where
        own : Trail
        there : slice_get new u ≡ Some own
        taken : WasTaken o h own

      mine_after : {act : Act} {new : List Trail} → TrailsMove basis t (trails_in contexts s) new act → (cell : Cell) (o : ℕ) (h : List ℕ) → Owns basis.program s2 t cell →
          IsAt basis contexts.homes cell o h → (own : Trail) → slice_get (trails_in contexts s) t ≡ Some own → WasTaken o h own → After new t o h
      mine_after (still new_is frees_none) cell o h owns at own there taken = record { own = own; there = ap (λ ts. slice_get ts t) new_is ∙ there; taken = taken }
      mine_after (one before after before_at moves new_is) cell o h owns at own there taken = record {
        own = after;
        there = ap (λ ts. slice_get ts t) new_is ∙ get_set_same (trails_in contexts s) t before after before_at;
        taken = taken_after cell o h owns at before after before_at moves (subst (WasTaken o h) (same_Some own before (sym there ∙ before_at)) taken);
      }
      mine_after (creates left p0 q c to before_at next begins new_is) cell o h owns at own there taken = record {
        own = trail left (stay q c);
        there = ap (λ ts. slice_get ts t) new_is
            ∙ left_there (slice_set (trails_in contexts s) t (trail left (stay q c))) (trail [] to ∷ []) t (trail left (stay q c))
            (get_set_same (trails_in contexts s) t (trail left (stay p0 c)) (trail left (stay q c)) before_at);
        taken = taken_after cell o h owns at (trail left (stay p0 c)) (trail left (stay q c)) before_at
            (goes left p0 q c (starts_none basis begins.enters.goes refl) next)
            (subst (WasTaken o h) (same_Some own (trail left (stay p0 c)) (sym there ∙ before_at)) taken);
      }

      -- that of another thread
      other_after : {act : Act} {new : List Trail} → TrailsMove basis t (trails_in contexts s) new act → (u : ℕ) → (u ≡ t → ⊥) → (own : Trail) →
          slice_get (trails_in contexts s) u ≡ Some own → slice_get new u ≡ Some own
      other_after (still new_is frees_none) u other own there = ap (λ ts. slice_get ts u) new_is ∙ there
      other_after (one before after before_at moves new_is) u other own there = ap (λ ts. slice_get ts u) new_is ∙ get_set_other (trails_in contexts s) t u after other ∙ there
      other_after (creates left p0 q c to before_at next begins new_is) u other own there =
          ap (λ ts. slice_get ts u) new_is
          ∙ left_there (slice_set (trails_in contexts s) t (trail left (stay q c))) (trail [] to ∷ []) u own
          (get_set_other (trails_in contexts s) t u (trail left (stay q c)) other ∙ there)

      kept : (u : ℕ) (cell : Cell) → Owns basis.program s u cell → Owns basis.program s2 u cell → IsHeldBy later s2 u cell
      kept u cell owned owns = elim (is_same u t) [
        | inl same ↦ mine same
        | inr other ↦ record {
          own = is.own;
          there = other_after moved.trails u other is.own is.there;
          o = is.o;
          h = is.h;
          is_at = later_at cell is.o is.h is.is_at;
          is_place = is.is_place;
          taken = is.taken;
        }
      ]
        where
          is : IsHeldBy contexts s u cell
          is = held u cell owned

          moved : Steps basis t contexts s later s2
          moved = steps_move_trails basis es follows contexts s s2 t w sound step

          mine : u ≡ t → IsHeldBy later s2 u cell
          mine same =
              let after = mine_after moved.trails cell is.o is.h (subst (λ v. Owns basis.program s2 v cell) same owns) is.is_at is.own
              (subst (λ v. slice_get (trails_in contexts s) v ≡ Some is.own) same is.there) is.taken in
              record {
                own = after.own;
                there = subst (λ v. slice_get (trails_in later s2) v ≡ Some after.own) (sym same) after.there;
                o = is.o;
                h = is.h;
                is_at = later_at cell is.o is.h is.is_at;
                is_place = is.is_place;
                taken = after.taken;
              }

      -- ---- a mutex that the step takes

      took : (cell : Cell) → Owns basis.program s2 t cell → Takes basis.program s t cell → IsHeldBy later s2 t cell
      took cell owns takes =
          let stands = standing basis es follows.analysed contexts s sound t step.thread step.may.there in
          let is = has_taken basis linear es contexts s t w found.function step.thread found.frames (own_context contexts t) found.action step.change found.acts stands cell takes in
          let own = own_trail (moved_on is.given (turn.To is.q) step.thread) stands.cs in
          let sound_later = steps_sound basis.program basis.labels es follows.analysed contexts s s2 t w sound step in
          let at = later_at cell is.o is.h is.is_at in
          let is_lock = lock_origin basis es follows.analysed later s2 sound_later cell t is.o owns (origin_of basis es follows.analysed later s2 sound_later cell is.o is.h at) in
          record {
            own = own;
            there = subst (λ x. slice_get (trails_in later x) t ≡ Some own) (sym step.is) is.moved;
            o = is.o;
            h = is.h;
            is_at = at;
            is_place = lock_place basis es follows.analysed later.homes cell is.operand_ is.o is.acquired.label is.h (last_of stands.cs) is.names is.acquired.meant.1 at is_lock;
            taken = taken_here basis linear es is.o is.h own.left own.top is.acquired;
          }

      pub step_holds : AreHeld later s2
      step_holds u cell owns = elim (keeps.new u cell owns) [
        | inl owned ↦ kept u cell owned owns
        | inr new ↦ subst (λ v. IsHeldBy later s2 v cell) (sym new.0) (took cell (subst (λ v. Owns basis.program s2 v cell) new.0 owns) new.1)
      ]

    -- ---- each state that is reached

    pub record IsHolding (s : State) : Type 0 where
      pub contexts : Contexts
      pub sound : IsSound basis.program basis.labels es contexts s
      pub born : List (List Left)
      pub pasts : ArePasts basis born (trails_in contexts s)
      pub held : AreHeld contexts s

    pub reached_holds : (s : State) → Reached basis.program s → IsHolding s
    reached_holds s reached =
        let pasts = started_pasts basis follows.analysed.lowered reached.args in
        on reached.run (first_reached basis.program reached.args reached.begins) (first_contexts (started basis.program reached.args))
        (start_is_sound basis.program basis.labels es follows.analysed reached.begins reached.args) pasts.0 pasts.1
        (λ u cell owns. absurd (none_owned basis.program reached.args u cell owns))
      where
        on : {s s2 : State} {choices : List Choice} → Leads basis.program s choices s2 → Reached basis.program s → (contexts : Contexts) → IsSound basis.program basis.labels es contexts s →
            (born : List (List Left)) → ArePasts basis born (trails_in contexts s) → AreHeld contexts s → IsHolding s2
        on stays_there reached contexts sound born pasts held = record { contexts = contexts; sound = sound; born = born; pasts = pasts; held = held }
        on (goes_on_to {s = s} {s2 = s2} {t = t} {w = w} step rest) reached contexts sound born pasts held =
            let later = contexts_next basis.program contexts t step.thread step.change in
            let moved = steps_move_trails basis es follows contexts s s2 t w sound step in
            let next = pasts_are_kept basis follows.analysed.lowered born t (trails_in contexts s) (trails_in later s2) moved.act pasts moved.trails in
            on rest (steps_reach basis.program s s2 t w reached step) later
            (steps_sound basis.program basis.labels es follows.analysed contexts s s2 t w sound step) next.0 next.1
            (step_holds contexts s reached born pasts held t w s2 sound step)
