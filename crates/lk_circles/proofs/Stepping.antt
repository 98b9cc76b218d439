-- What a step does to the mutexes that its thread owns: one that it lets go isn't owned after it, and one that it takes is acquired where it goes on.
use Rattle.std.proofs.Common.{◌≡◌, ℕ, Bool, List, Option, None, Some, sym, ap, subst, ◌∙◌}
use Rattle.std.specs.List.{slice_get}
use Rattle.std.specs.Option.{option_and_then}
use Rattle.lk_cells.specs.Cells.{mutex_at}
use Rattle.lk_cells.specs.Operands.{operand}
use Rattle.lk_cells.specs.Places as places
use Rattle.lk_cells.specs.declared.object.Object.{Object}
use Rattle.lk_cells.specs.declared.state.State.{State}
use Rattle.lk_cells.specs.declared.state.Thread.{Thread}
use Rattle.lk_change.specs.Going as going
use Rattle.lk_change.specs.Locks.{mutex_made}
use Rattle.lk_change.specs.declared.change.Change.{Change}
use Rattle.lk_change.specs.declared.change.Effect.TheVariants as changed
use Rattle.lk_change.specs.declared.change.Turn.TheVariants as turn
use Rattle.lk_facts.specs.Basis.{Basis}
use Rattle.lk_facts.specs.Labels.{target_at}
use Rattle.lk_facts.specs.Many.{IsLinear}
use Rattle.lk_facts.specs.Program.{action_at, next_of}
use Rattle.lk_facts.specs.Reach.{IsNext}
use Rattle.lk_facts.specs.Typed.{PointsToForm}
use Rattle.lk_facts.specs.declared.action.Action.{Action}
use Rattle.lk_facts.specs.declared.action.Action.TheVariants as does
use Rattle.lk_facts.specs.declared.edge.Edge.{Edge}
use Rattle.lk_facts.specs.declared.program.Program.{Program}
use Rattle.lk_circles.proofs.Points.{IsLettingGo, action_with, lets_go, next_live}
use Rattle.lk_circles.proofs.Points.IsLettingGo.{unlock, release}
use Rattle.lk_circles.proofs.Sames.{IsTheOne, Meant}
use Rattle.lk_circles.proofs.Spared.{GoesElsewhere}
use Rattle.lk_circles.proofs.Standing.{IsStanding, mutex_means, named_means}
use Rattle.lk_circles.proofs.Taken.{IsAcquiredAt}
use Rattle.lk_meaning.proofs.CellLemmas.{free_or_owned, mutex_same}
use Rattle.lk_meaning.proofs.Reading.{get_set_same, same_changed}
use Rattle.lk_meaning.specs.After.{after_change, moved_on, with_put}
use Rattle.lk_meaning.specs.Laws.{Owns, Takes}
use Rattle.lk_meaning.specs.Laws.Takes.{locks as takes_it, retakes as takes_again}
use Rattle.lk_meaning.specs.declared.applying.Put.TheVariants as put
use Rattle.lk_order.specs.Acquired.Acq.{locked as acquired_here}
use Rattle.lk_order.specs.Mutexes.{let_go, locked}
use Rattle.lk_right.proofs.Doing.{Acts, has_got}
use Rattle.lk_right.specs.Contexts.{Contexts, contexts_after, last_of}
use Rattle.lk_safe.proofs.CellPlaces.{origin_of}
use Rattle.lk_safe.proofs.Meant.{PointsAt}
use Rattle.lk_safe.proofs.Performing.{GoesOn, PutsMutex, changes_goes, goes_to, puts_mutex, succeeds_goes}
use Rattle.lk_safe.proofs.TrailLists.{trails_changed, trails_get}
use Rattle.lk_safe.proofs.Waiting.{does_so, is_thread}
use Rattle.lk_safe.specs.Owners.{IsAt, own_trail, trails_in}
use Rattle.lk_sound.specs.Soundness.{HasOrigin}
use Rattle.lk_trails.specs.Trails.{Trail, stay}
use Rattle.lk_values.proofs.Reasons.{chained}
use Rattle.lk_types.specs.declared.c_type.CType.TheVariants.{Mutex}
use Rattle.lk_values.specs.declared.cell.Cell.{Cell}
use Rattle.lk_values.specs.declared.value.Mutex.TheVariants as mutex
use Rattle.lk_values.specs.declared.value.Value.{Value}

-- a mutex that was freed is owned by nobody
free_after_put : (program : Program) (s : State) (t u : ℕ) (given : Option Value) (q : ℕ) (c : Cell) →
    Owns program (after_change program t s (goes_to given q (changed.PutMutex c mutex.Free))) u c → ⊥
free_after_put program s t u given q c owns =
    let read = same_changed (λ (x : Object). mutex_at program.types x c.path) s.objects c.object (with_put c.path (put.Mutex mutex.Free)) in
    let found = chained (λ (x : Object). mutex_at program.types (with_put c.path (put.Mutex mutex.Free) x) c.path) (slice_get s.objects c.object) (mutex.Owned u) (sym read ∙ owns) in
    free_or_owned u (sym (mutex_same program.types found.0 c.path mutex.Free (mutex.Owned u) found.2))

-- the lock places of the state have one mutex each, where they are linear
abbrev pub AreOneCell : Basis → State → Type 0
AreOneCell basis s = (q : ℕ) → IsLinear basis.program q → (c d : Cell) → HasOrigin basis.program basis.labels s c q → HasOrigin basis.program basis.labels s d q → c ≡ d

module _ (basis : Basis) (linear : ℕ → Bool) (es : List Edge) (contexts : Contexts) (s : State) (t w f : ℕ) (thread : Thread) (cs : List (List ℕ)) (c : List ℕ) (action : Action) (made : Change)
    (acts : Acts basis.program basis.labels es contexts s t w f thread cs c action made) (at : IsStanding basis es contexts t thread) where
  abbrev program : Program
  program = basis.program

  abbrev p : ℕ
  p = thread.frame.point

  abbrev s2 : State
  s2 = after_change program t s made

  abbrev own : List ℕ
  own = last_of at.cs

  -- ---- it lets a mutex go

  pub goes_elsewhere : AreOneCell basis s → (cell : Cell) (o : ℕ) (h : List ℕ) → Owns program s2 t cell → IsAt basis contexts.homes cell o h → GoesElsewhere basis es o (stay p own)
  goes_elsewhere one cell o h owns is_at g y lets = by (lets_go found.0 lets.a found.2) found.1
    where
      found : (action : Action) × (action_at program p ≡ Some action) × (let_go action ≡ Some lets.a)
      found = action_with program let_go p lets.a lets.is

      -- what it frees is another mutex than what it owns after the step
      differs : (goes : GoesOn program p (Some going.done) (mutex_made program s (operand thread lets.a) mutex.Free) made)
          (puts : PutsMutex program s (operand thread lets.a) mutex.Free goes.e) (points : PointsAt basis es contexts.homes puts.cell lets.a own) → IsTheOne basis es o points.origin → ⊥
      differs goes puts points (is_linear, same) =
          let mine = origin_of basis es acts.ok contexts s acts.sound cell o h is_at in
          let yours = subst (λ q. HasOrigin program basis.labels s puts.cell q) same (origin_of basis es acts.ok contexts s acts.sound puts.cell points.origin points.context points.place) in
          let cells : cell ≡ puts.cell = one o is_linear cell puts.cell mine yours in
          let change : goes_to (Some going.done) goes.to (changed.PutMutex puts.cell mutex.Free) ≡ made = ap (λ e. goes_to (Some going.done) goes.to e) puts.is ∙ goes.is in
          free_after_put program s t t (Some going.done) goes.to puts.cell
          (subst (λ (x : Change). Owns program (after_change program t s x) t puts.cell) (sym change) (subst (λ d. Owns program s2 t d) cells owns))

      -- it frees the mutex to which the operand points
      other : GoesOn program p (Some going.done) (mutex_made program s (operand thread lets.a) mutex.Free) made → PointsToForm program lets.a Mutex →
          (q : ℕ) × (k : List ℕ) × Meant basis es q k y own × (IsTheOne basis es o q → ⊥)
      other goes form =
          let puts = puts_mutex program s (operand thread lets.a) mutex.Free goes.e goes.has in
          let points = mutex_means basis es acts.ok contexts s acts.sound t thread at lets.a puts.cell form puts.leads in
          (points.origin, points.context, named_means basis es contexts puts.cell lets.a y own points lets.names, differs goes puts points)

      by : {action : Action} → IsLettingGo lets.a action → action_at program p ≡ Some action → (q : ℕ) × (k : List ℕ) × Meant basis es q k y own × (IsTheOne basis es o q → ⊥)
      by unlock is =
          let goes = succeeds_goes program p (mutex_made program s (operand thread lets.a) mutex.Free) made
          (does_so basis es contexts s t w f thread cs c action made acts (does.Unlock lets.a) is) in
          other goes (acts.ok.lowered.typed p f (does.Unlock lets.a) is acts.performs.stands).0
      by (release cond) is =
          let ready = chained (λ k. going.succeeds program p (mutex_made program s (operand thread lets.a) mutex.Free)) (places.condition_through program.types s (operand thread cond)) made
          (does_so basis es contexts s t w f thread cs c action made acts (does.Release cond lets.a) is) in
          let goes = succeeds_goes program p (mutex_made program s (operand thread lets.a) mutex.Free) made ready.2 in
          other goes (acts.ok.lowered.typed p f (does.Release cond lets.a) is acts.performs.stands).1

  -- ---- it takes a mutex

  -- the trail of the thread after it went on
  pub record HasTaken (cell : Cell) : Type 0 where
    pub o : ℕ
    pub h : List ℕ
    pub is_at : IsAt basis contexts.homes cell o h
    pub q : ℕ
    pub given : Option Value
    pub acquired : IsAcquiredAt basis linear es o h (stay q own)
    pub operand_ : ℕ
    pub names : target_at basis.labels operand_ ≡ Some acquired.label
    pub moved : slice_get (trails_in (contexts_after program t p c contexts made) s2) t ≡ Some (own_trail (moved_on given (turn.To q) thread) at.cs)

  took : (cell : Cell) (a : ℕ) (given : Option Value) → option_and_then locked (action_at program p) ≡ Some a → PointsToForm program a Mutex → places.part_of s (operand thread a) ≡ Some cell →
      GoesOn program p given (mutex_made program s (operand thread a) (mutex.Owned t)) made → HasTaken cell
  took cell a given locks form leads goes = record {
    o = points.origin;
    h = points.context;
    is_at = points.place;
    q = goes.to;
    given = given;
    acquired = record {
      label = points.label;
      acquired = acquired_here (record { live = at.own.live; of = at.own.stands; a = a; is = locks; names = points.leads }) (next, next_live program acts.ok.lowered p goes.to at.own.live next);
      meant = (points.is_origin, points.means);
    };
    operand_ = a;
    names = points.leads;
    moved = subst (λ (x : Change). slice_get (trails_in (contexts_after program t p c contexts x) (after_change program t s x)) t ≡ Some own_after) change moved;
  }
    where
      points : PointsAt basis es contexts.homes cell a own
      points = mutex_means basis es acts.ok contexts s acts.sound t thread at a cell form leads

      next : IsNext program p goes.to
      next = has_got (next_of program p) 0 goes.to goes.next

      puts : PutsMutex program s (operand thread a) (mutex.Owned t) goes.e
      puts = puts_mutex program s (operand thread a) (mutex.Owned t) goes.e goes.has

      change : goes_to given goes.to (changed.PutMutex puts.cell (mutex.Owned t)) ≡ made
      change = ap (λ e. goes_to given goes.to e) puts.is ∙ goes.is

      own_after : Trail
      own_after = own_trail (moved_on given (turn.To goes.to) thread) at.cs

      moved : slice_get (trails_in contexts (after_change program t s (goes_to given goes.to (changed.PutMutex puts.cell (mutex.Owned t))))) t ≡ Some own_after
      moved =
          ap (λ (ts : List Trail). slice_get ts t) (trails_changed s.threads contexts.frames t (moved_on given (turn.To goes.to)) thread at.cs acts.performs.there at.in_contexts)
          ∙ get_set_same (trails_in contexts s) t (own_trail thread at.cs) own_after (trails_get s.threads contexts.frames t thread at.cs acts.performs.there at.in_contexts)

  pub has_taken : (cell : Cell) → Takes program s t cell → HasTaken cell
  has_taken cell (takes_it {thread = x} {a = a} stands leads) =
      let same = is_thread basis es contexts s t w f thread cs c action made acts x stands.there in
      let is : action_at program p ≡ Some (does.Lock a) = subst (λ (y : Thread). action_at program y.frame.point ≡ Some (does.Lock a)) same stands.at in
      took cell a (Some going.done) (ap (λ o. option_and_then locked o) is) (acts.ok.lowered.typed p f (does.Lock a) is acts.performs.stands).0
      (subst (λ (y : Thread). places.part_of s (operand y a) ≡ Some cell) same leads)
      (succeeds_goes program p (mutex_made program s (operand thread a) (mutex.Owned t)) made (does_so basis es contexts s t w f thread cs c action made acts (does.Lock a) is))
  has_taken cell (takes_again {thread = x} {a = a} stands leads) =
      let same = is_thread basis es contexts s t w f thread cs c action made acts x stands.there in
      let is : action_at program p ≡ Some (does.Retake a) = subst (λ (y : Thread). action_at program y.frame.point ≡ Some (does.Retake a)) same stands.at in
      took cell a None (ap (λ o. option_and_then locked o) is) (acts.ok.lowered.typed p f (does.Retake a) is acts.performs.stands).0
      (subst (λ (y : Thread). places.part_of s (operand y a) ≡ Some cell) same leads)
      (changes_goes program p (mutex_made program s (operand thread a) (mutex.Owned t)) made (does_so basis es contexts s t w f thread cs c action made acts (does.Retake a) is))
