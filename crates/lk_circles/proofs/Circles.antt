-- Threads that wait in a circle: the order of locks leads from the place of each one's mutex to that of the next, and back.
use Rattle.std.proofs.Common.{◌≡◌, ℕ, Bool, true, List, ◌∷◌, Some, sym, ap, subst, ◌∙◌}
use Rattle.std.proofs.lemmas.Option.{same_Some}
use Rattle.std.specs.List.{slice_get}
use Rattle.std.specs.Option.{option_and_then}
use Rattle.lk_cells.specs.Operands.{operand}
use Rattle.lk_cells.specs.Places as places
use Rattle.lk_cells.specs.declared.state.State.{State}
use Rattle.lk_cells.specs.declared.state.Thread.{Thread}
use Rattle.lk_circles.proofs.Owners.{IsHolding, reached_holds}
use Rattle.lk_circles.proofs.Pairs.{WantsAt, precedes}
use Rattle.lk_circles.proofs.Standing.{mutex_means, standing}
use Rattle.lk_circles.specs.Circles.{AreHeldUp, IsHeldUp, OrderExcludesCircles, OrderedHasNoCircle}
use Rattle.lk_circles.specs.Circles.AreHeldUp.{last as last_one, more as more_of}
use Rattle.lk_facts.proofs.TableLemmas.{flow_is_closed}
use Rattle.lk_facts.specs.Basis.{Basis}
use Rattle.lk_facts.specs.Many.{IsLinear}
use Rattle.lk_facts.specs.Program.{action_at}
use Rattle.lk_facts.specs.Reach.{Plus}
use Rattle.lk_facts.specs.Reach.Plus.{one, more}
use Rattle.lk_facts.specs.Typed.{IsTyped, PointsToForm}
use Rattle.lk_facts.specs.declared.action.Action.{Action}
use Rattle.lk_facts.specs.declared.action.Action.TheVariants as does
use Rattle.lk_facts.specs.declared.edge.Edge.{Edge}
use Rattle.lk_meaning.specs.Laws.{Owns, Takes}
use Rattle.lk_meaning.specs.Laws.Takes.{locks as takes_it, retakes as takes_again}
use Rattle.lk_meaning.specs.Reached.{Reached}
use Rattle.lk_order.specs.Acquired.Want.{itself as wants_it}
use Rattle.lk_order.specs.Mutexes.{locked}
use Rattle.lk_order.specs.Order.{Precedes}
use Rattle.lk_right.specs.Contexts.{last_of}
use Rattle.lk_right.specs.Laws.{IsAnalysed}
use Rattle.lk_safe.proofs.Meant.{means_place}
use Rattle.lk_safe.proofs.TrailLists.{trails_get}
use Rattle.lk_safe.specs.Owners.{IsAt, own_trail, trails_in}
use Rattle.lk_safe.specs.Steps.{IsFollowed}
use Rattle.lk_trails.proofs.Linking.{birth_of}
use Rattle.lk_trails.specs.Trails.{Trail}
use Rattle.lk_types.specs.declared.c_type.CType.TheVariants.{Mutex}
use Rattle.lk_values.specs.declared.cell.Cell.{Cell}

module _ (basis : Basis) (linear : ℕ → Bool) (es : List Edge) (follows : IsFollowed basis es) (are_linear : (q : ℕ) → linear q ≡ true → IsLinear basis.program q) (s : State)
    (reached : Reached basis.program s) (state : IsHolding basis linear es follows are_linear s) where
  abbrev ok : IsAnalysed basis.program basis.labels es
  ok = follows.analysed

  -- the place of a mutex that a thread owns
  abbrev place_of : (u : ℕ) (cell : Cell) → Owns basis.program s u cell → ℕ
  place_of u cell owns = (state.held u cell owns).o

  -- where a thread takes a mutex, its function wants a label of the place
  record Wanting (t o : ℕ) (h : List ℕ) : Type 0 where
    own : Trail
    there : slice_get (trails_in state.contexts s) t ≡ Some own
    wants : WantsAt basis linear es follows.closed o h own.top

  wanting : (t : ℕ) (thread : Thread) → slice_get s.threads t ≡ Some thread → (a : ℕ) → option_and_then locked (action_at basis.program thread.frame.point) ≡ Some a →
      PointsToForm basis.program a Mutex → (cell : Cell) (o : ℕ) (h : List ℕ) → places.part_of s (operand thread a) ≡ Some cell → IsAt basis state.contexts.homes cell o h → Wanting t o h
  wanting t thread there a locks form cell o h leads is_at =
      let stands = standing basis es ok state.contexts s state.sound t thread there in
      let points = mutex_means basis es ok state.contexts s state.sound t thread stands a cell form leads in
      record {
        own = own_trail thread stands.cs;
        there = trails_get s.threads state.contexts.frames t thread stands.cs there stands.in_contexts;
        wants = record {
          function = stands.f;
          stands = stands.own.stands;
          name = points.label;
          wants = wants_it (record { live = stands.own.live; of = stands.own.stands; a = a; is = locks; names = points.leads });
          meant = means_place basis es ok state.contexts.homes cell a o (last_of stands.cs) h points is_at;
        };
      }

  -- what its action asks of the operand
  typed_in : (t : ℕ) (thread : Thread) → slice_get s.threads t ≡ Some thread → (action : Action) → action_at basis.program thread.frame.point ≡ Some action → (f : ℕ) × IsTyped basis.program thread.frame.point f action
  typed_in t thread there action is =
      let stands = standing basis es ok state.contexts s state.sound t thread there in
      (stands.f, ok.lowered.typed thread.frame.point stands.f action is stands.own.stands)

  taking : (t : ℕ) (cell : Cell) → Takes basis.program s t cell → (o : ℕ) (h : List ℕ) → IsAt basis state.contexts.homes cell o h → Wanting t o h
  taking t cell (takes_it {thread} {a} stands leads) o h is_at =
      wanting t thread stands.there a (ap (λ x. option_and_then locked x) stands.at) (typed_in t thread stands.there (does.Lock a) stands.at).1.0 cell o h leads is_at
  taking t cell (takes_again {thread} {a} stands leads) o h is_at =
      wanting t thread stands.there a (ap (λ x. option_and_then locked x) stands.at) (typed_in t thread stands.there (does.Retake a) stands.at).1.0 cell o h leads is_at

  -- from the place of a mutex that a thread owns the order leads to that of the one for which it is held up
  comes_before : (t u : ℕ) (cell : Cell) (owns : Owns basis.program s t cell) (up : IsHeldUp basis.program s t u) →
      Precedes basis linear (place_of t cell owns) (place_of u up.cell up.owns)
  comes_before t u cell owns up =
      let mine = state.held t cell owns in
      let theirs = state.held u up.cell up.owns in
      let wanted = taking t up.cell up.takes theirs.o theirs.h theirs.is_at in
      let same : wanted.own ≡ mine.own = same_Some wanted.own mine.own (sym wanted.there ∙ mine.there) in
      let birth = birth_of basis state.born (trails_in state.contexts s) state.pasts t mine.own mine.there in
      precedes basis linear es follows.closed mine.o theirs.o mine.h theirs.h birth.0 mine.own.left mine.own.top (state.pasts.from_main t birth.0 mine.own birth.1 mine.there)
      (λ created. state.pasts.own t mine.own mine.there created) mine.taken
      (subst (λ (x : Trail). WantsAt basis linear es follows.closed theirs.o theirs.h x.top) same wanted.wants)
      mine.is_place theirs.is_place

  -- the mutex for which the last thread is held up
  abbrev last_cell : {first : ℕ} {ts : List ℕ} → AreHeldUp basis.program s first ts → Cell
  last_cell (last_one up) = up.cell
  last_cell (more_of up rest) = last_cell rest

  abbrev last_owned : {first : ℕ} {ts : List ℕ} (ups : AreHeldUp basis.program s first ts) → Owns basis.program s first (last_cell ups)
  last_owned (last_one up) = up.owns
  last_owned (more_of up rest) = last_owned rest

  leads : {first t : ℕ} {rest : List ℕ} (ups : AreHeldUp basis.program s first (t ∷ rest)) (cell : Cell) (owns : Owns basis.program s t cell) →
      Plus (Precedes basis linear) (place_of t cell owns) (place_of first (last_cell ups) (last_owned ups))
  leads {first} {t} (last_one up) cell owns = one (comes_before t first cell owns up)
  leads {first} {t} (more_of {u = u} up rest) cell owns = more (comes_before t u cell owns up) (leads rest up.cell up.owns)

pub ordered_has_no_circle : OrderedHasNoCircle
ordered_has_no_circle basis es follows linear are_linear ordered s reached circle =
    let state = reached_holds basis linear es follows are_linear s reached in
    let cell = last_cell basis linear es follows are_linear s reached state circle.held_up in
    let owns = last_owned basis linear es follows are_linear s reached state circle.held_up in
    ordered (place_of basis linear es follows are_linear s reached state circle.first cell owns)
    (leads basis linear es follows are_linear s reached state circle.held_up cell owns)

-- so it is with the flow of a program that was lowered
pub order_excludes_circles : OrderExcludesCircles
order_excludes_circles basis es analysed flow = ordered_has_no_circle basis es (record { analysed = analysed; closed = flow_is_closed es basis.labels basis.flow flow })
