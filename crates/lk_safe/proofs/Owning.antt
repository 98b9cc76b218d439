-- What a step does to what threads own, and wait for.
use Rattle.std.proofs.Common.{◌≡◌, ℕ, true, List, Option, None, Some, inl, inr, ◌⊎◌, refl, sym, ap, subst, ◌∙◌}
use Rattle.std.proofs.lemmas.Option.{none-some, same_Some}
use Rattle.lk_cells.specs.Operands.{operand}
use Rattle.lk_cells.specs.declared.state.State.{State}
use Rattle.lk_cells.specs.declared.state.Thread.{Thread}
use Rattle.lk_cells.specs.Places as places
use Rattle.lk_change.specs.Locks.{mutex_made}
use Rattle.lk_change.specs.Going as going
use Rattle.lk_change.specs.declared.change.Change.{Change}
use Rattle.lk_change.specs.declared.change.Change.TheVariants.{Goes, Enter, Leave, EndThread, EndProcess}
use Rattle.lk_change.specs.declared.change.Effect.{Effect as Changed}
use Rattle.lk_change.specs.declared.change.Effect.TheVariants as changed
use Rattle.lk_facts.specs.Basis.{Basis}
use Rattle.lk_facts.specs.Doing.{Takes}
use Rattle.lk_facts.specs.Effects.{effect_of}
use Rattle.lk_facts.specs.Labels.{is_origin_at, target_at}
use Rattle.lk_facts.specs.Program.{action_at}
use Rattle.lk_facts.specs.declared.action.Action.{Action}
use Rattle.lk_facts.specs.declared.action.Action.TheVariants as does
use Rattle.lk_facts.specs.declared.edge.Edge.{Edge}
use Rattle.lk_facts.specs.declared.effect.Effect.{Effect}
use Rattle.lk_facts.specs.declared.effect.Effect.TheVariants as effect
use Rattle.lk_facts.specs.declared.program.Program.{Program}
use Rattle.lk_meaning.proofs.LawLemmas.{owners_kept}
use Rattle.lk_meaning.specs.After.{after_change}
use Rattle.lk_meaning.specs.Laws.{Owns, GivesBack, KeepsOwners}
use Rattle.lk_right.proofs.Accessing.{Leads, part_leads}
use Rattle.lk_right.proofs.Callers.{effect_is}
use Rattle.lk_right.proofs.Doing.{Acts}
use Rattle.lk_right.specs.Contexts.{Contexts, own_context, contexts_after, after_effect}
use Rattle.lk_safe.proofs.Giving.{FreesAt, unlocked}
use Rattle.lk_safe.proofs.Meant.{PointsAt, at_later, operand_means}
use Rattle.lk_safe.proofs.Performing.{GoesOn, PutsMutex, goes_to, succeeds_goes, puts_mutex, performing}
use Rattle.lk_safe.proofs.Taking.{owned_after_put}
use Rattle.lk_safe.proofs.Waiting.{waits_on, does_so, is_thread, released, retaken}
use Rattle.lk_safe.specs.Owners.{WaitsFor, HasMutex}
use Rattle.lk_safe.specs.Steps.{OwnersGoOn, StepsMoveOwners}
use Rattle.lk_sound.proofs.GrownRight.{Keeps, keeps_itself, keeps_front}
use Rattle.lk_trails.specs.Named.{Means}
use Rattle.lk_types.specs.declared.c_type.CType.TheVariants.{Mutex}
use Rattle.lk_values.specs.declared.cell.Cell.{Cell}
use Rattle.lk_values.specs.declared.value.Mutex.TheVariants as mutex

-- ---- homes

module _ (program : Program) (t p : ℕ) (c : List ℕ) (contexts : Contexts) where
  homes_by_effect : (e : Changed) → Keeps contexts.homes (after_effect program t p c contexts e).homes
  homes_by_effect changed.Nothing = keeps_itself contexts.homes
  homes_by_effect (changed.PutSlot slot v) = keeps_itself contexts.homes
  homes_by_effect (changed.PutValue cell v) = keeps_itself contexts.homes
  homes_by_effect (changed.PutMutex cell m) = keeps_itself contexts.homes
  homes_by_effect (changed.PutCondition cell k) = keeps_itself contexts.homes
  homes_by_effect (changed.Begin call) = keeps_front contexts.homes _
  homes_by_effect (changed.Join u) = keeps_itself contexts.homes
  homes_by_effect (changed.Detach u) = keeps_itself contexts.homes
  homes_by_effect (changed.Bear birth) = keeps_front contexts.homes _
  homes_by_effect (changed.End o) = keeps_itself contexts.homes

  -- each object that is there is at home where it was
  pub homes_kept : (made : Change) → Keeps contexts.homes (contexts_after program t p c contexts made).homes
  homes_kept (Goes gone) = homes_by_effect gone.effect
  homes_kept (Enter call) = keeps_front contexts.homes _
  homes_kept (Leave v q) = keeps_itself contexts.homes
  homes_kept EndThread = keeps_itself contexts.homes
  homes_kept EndProcess = keeps_itself contexts.homes

-- ---- the action that takes a mutex

abbrev taken_by : Effect → Option ℕ
taken_by effect.Nothing = None
taken_by (effect.Reads a) = None
taken_by (effect.Writes a) = None
taken_by (effect.Takes a) = Some a
taken_by (effect.Frees a) = None
taken_by (effect.Runs g) = None
taken_by (effect.RunsThrough a) = None
taken_by (effect.Starts g) = None

-- an action that takes a mutex is a Lock
lock_is : (action : Action) (a : ℕ) → taken_by (effect_of action) ≡ Some a → action ≡ does.Lock a
lock_is (does.Value number ty) a h = absurd (none-some a h)
lock_is (does.Null ty) a h = absurd (none-some a h)
lock_is (does.Func g) a h = absurd (none-some a h)
lock_is does.SelfId a h = absurd (none-some a h)
lock_is (does.Root r) a h = absurd (none-some a h)
lock_is (does.Text r) a h = absurd (none-some a h)
lock_is (does.Field b k) a h = absurd (none-some a h)
lock_is (does.Index b d into) a h = absurd (none-some a h)
lock_is (does.Read b raw) a h = absurd (none-some a h)
lock_is (does.Write b d raw) a h = absurd (none-some a h)
lock_is (does.SlotRead slot) a h = absurd (none-some a h)
lock_is (does.SlotWrite slot b) a h = absurd (none-some a h)
lock_is (does.Unary op b) a h = absurd (none-some a h)
lock_is (does.Binary op b d) a h = absurd (none-some a h)
lock_is (does.Compute args ty equal) a h = absurd (none-some a h)
lock_is (does.Convert b ty) a h = absurd (none-some a h)
lock_is (does.Branch b) a h = absurd (none-some a h)
lock_is (does.Switch b cases) a h = absurd (none-some a h)
lock_is does.Skip a h = absurd (none-some a h)
lock_is (does.Call g args) a h = absurd (none-some a h)
lock_is (does.PointerCall b args) a h = absurd (none-some a h)
lock_is (does.Return b) a h = absurd (none-some a h)
lock_is (does.Create g b) a h = absurd (none-some a h)
lock_is (does.StoreId b) a h = absurd (none-some a h)
lock_is (does.Join b) a h = absurd (none-some a h)
lock_is (does.Detach b) a h = absurd (none-some a h)
lock_is does.ExitThread a h = absurd (none-some a h)
lock_is does.ExitProcess a h = absurd (none-some a h)
lock_is (does.Lock b) a h = ap (λ x. does.Lock x) (same_Some b a h)
lock_is (does.Unlock b) a h = absurd (none-some a h)
lock_is (does.Release cond b) a h = absurd (none-some a h)
lock_is (does.Retake b) a h = absurd (none-some a h)
lock_is (does.Init b) a h = absurd (none-some a h)
lock_is (does.Destroy b) a h = absurd (none-some a h)
lock_is (does.Signal b) a h = absurd (none-some a h)
lock_is (does.Allocate ty count zero r) a h = absurd (none-some a h)
lock_is (does.Free b) a h = absurd (none-some a h)
lock_is (does.Scan b) a h = absurd (none-some a h)
lock_is (does.Fill b place named) a h = absurd (none-some a h)

-- ---- a step

module _ (basis : Basis) (es : List Edge) (contexts : Contexts) (s : State) (t w f : ℕ) (thread : Thread) (cs : List (List ℕ)) (c : List ℕ) (action : Action) (made : Change)
    (acts : Acts basis.program basis.labels es contexts s t w f thread cs c action made) (keeps : KeepsOwners basis.program s t (after_change basis.program t s made)) where
  abbrev program : Program
  program = basis.program

  abbrev p : ℕ
  p = thread.frame.point

  abbrev s2 : State
  s2 = after_change program t s made

  abbrev later : Contexts
  later = contexts_after program t p c contexts made

  -- what a thread owns, or waits for, is there still, where it owns it or waits for it after the step
  has_still : (u o : ℕ) (h : List ℕ) (has : HasMutex basis contexts.homes s u o h) → Owns program s2 u has.cell ⊎ WaitsFor basis s2 u has.cell → HasMutex basis later.homes s2 u o h
  has_still u o h has now = record { cell = has.cell; has = now; at = at_later basis contexts.homes later.homes (homes_kept program t p c contexts made) has.cell o h has.at }

  others_keep : (u : ℕ) → (u ≡ t → ⊥) → (o : ℕ) (h : List ℕ) → HasMutex basis contexts.homes s u o h → HasMutex basis later.homes s2 u o h
  others_keep u other o h has = has_still u o h has (elim has.has [
    | inl owns ↦ elim (keeps.kept u has.cell owns) [ inl still ↦ inl still | inr gives ↦ absurd (other gives.0) ]
    | inr waits ↦ inr (waits_on basis s t u made has.cell other waits)
  ])

  -- what is given back is waited for, or freed by the point
  given_back : (cell : Cell) (o : ℕ) (h : List ℕ) (has : HasMutex basis contexts.homes s t o h) → GivesBack program s t has.cell → HasMutex basis later.homes s2 t o h ⊎ FreesAt basis es p c o h
  given_back cell o h has (GivesBack.unlocks {thread = x} {a = a} stands leads) =
      let same = is_thread basis es contexts s t w f thread cs c action made acts x stands.there in
      inr (unlocked basis es contexts s t w f thread cs c action made acts a has.cell o h (subst (λ (y : Thread). action_at program y.frame.point ≡ Some (does.Unlock a)) same stands.at)
      (subst (λ y. places.part_of s (operand y a) ≡ Some has.cell) same leads) has.at)
  given_back cell o h has (GivesBack.releases {thread = x} {b = b} {a = a} stands leads) =
      let same = is_thread basis es contexts s t w f thread cs c action made acts x stands.there in
      inl (has_still t o h has (inr (released basis es contexts s t w f thread cs c action made acts b a has.cell
      (subst (λ (y : Thread). action_at program y.frame.point ≡ Some (does.Release b a)) same stands.at) (subst (λ y. places.part_of s (operand y a) ≡ Some has.cell) same leads))))

  own_keeps : (o : ℕ) (h : List ℕ) → HasMutex basis contexts.homes s t o h → HasMutex basis later.homes s2 t o h ⊎ FreesAt basis es p c o h
  own_keeps o h has = elim has.has [
    | inl owns ↦ elim (keeps.kept t has.cell owns) [ inl still ↦ inl (has_still t o h has (inl still)) | inr gives ↦ given_back has.cell o h has gives.1 ]
    | inr waits ↦ inl (has_still t o h has (inl (retaken basis es contexts s t w f thread cs c action made acts has.cell waits)))
  ]

  -- what is owned at the cell to which the operand points is owned at the place that its label means
  owned_at : (a y : ℕ) (cell : Cell) → target_at basis.labels a ≡ Some y → PointsAt basis es contexts.homes cell a c → Owns program s2 t cell →
      (o : ℕ) × (h : List ℕ) × HasMutex basis later.homes s2 t o h × (is_origin_at basis.labels o ≡ true) × Means basis.labels es o h y c
  owned_at a y cell leads points owns = (
    points.origin,
    points.context,
    record { cell = cell; has = inl owns; at = at_later basis contexts.homes later.homes (homes_kept program t p c contexts made) cell points.origin points.context points.place },
    points.is_origin,
    subst (λ x. Means basis.labels es points.origin points.context x c) (same_Some points.label y (sym points.leads ∙ leads)) points.means,
  )

  -- what the point takes is owned
  own_takes : (g y : ℕ) → Takes basis p g y → (o : ℕ) × (h : List ℕ) × HasMutex basis later.homes s2 t o h × (is_origin_at basis.labels o ≡ true) × Means basis.labels es o h y c
  own_takes g y (Takes.takes a is leads) = owned_at a y puts.cell leads points owns
    where
      taken : Some (effect_of action) ≡ Some (effect.Takes a) → taken_by (effect_of action) ≡ Some a
      taken h = ap (λ e. taken_by e) (same_Some (effect_of action) (effect.Takes a) h)

      lock : action ≡ does.Lock a
      lock = lock_is action a (taken (sym (effect_is program p action acts.performs.at) ∙ is.is))

      at : action_at program p ≡ Some (does.Lock a)
      at = acts.performs.at ∙ ap (λ x. Some x) lock

      goes : GoesOn program p (Some going.done) (mutex_made program s (operand thread a) (mutex.Owned t)) made
      goes = succeeds_goes program p (mutex_made program s (operand thread a) (mutex.Owned t)) made (does_so basis es contexts s t w f thread cs c action made acts (does.Lock a) at)

      puts : PutsMutex program s (operand thread a) (mutex.Owned t) goes.e
      puts = puts_mutex program s (operand thread a) (mutex.Owned t) goes.e goes.has

      pointer : Leads (operand thread a) puts.cell
      pointer = part_leads s (operand thread a) puts.cell puts.leads

      points : PointsAt basis es contexts.homes puts.cell a c
      points =
          let typed = acts.ok.lowered.typed p f (does.Lock a) at acts.performs.stands in
          subst (λ d. PointsAt basis es contexts.homes d a c) pointer.to (operand_means basis es contexts s t w f thread cs c action made acts a pointer.pointer Mutex pointer.points typed.0 refl)

      owns : Owns program s2 t puts.cell
      owns =
          subst (λ x. Owns program (after_change program t s x) t puts.cell) (ap (λ e. goes_to (Some going.done) goes.to e) puts.is ∙ goes.is)
          (owned_after_put program s t t (Some going.done) goes.to puts.cell puts.found puts.there)

  pub owners_go_on : OwnersGoOn basis es t p c contexts s later s2
  owners_go_on = record { others = others_keep; own = λ held. record { kept = own_keeps; taken = own_takes } }

-- what a step does to what threads own, and wait for
pub steps_move_owners : StepsMoveOwners
steps_move_owners basis es followed contexts s s2 t w sound step =
    let found = performing basis.program basis.labels es followed.analysed contexts s s2 t w sound step in
    let later = contexts_after basis.program t step.thread.frame.point (own_context contexts t) contexts step.change in
    let keeps = subst (KeepsOwners basis.program s t) step.is (owners_kept basis.program s s2 t w step) in
    subst (λ x. OwnersGoOn basis es t step.thread.frame.point (own_context contexts t) contexts s later x) (sym step.is)
    (owners_go_on basis es contexts s t w found.function step.thread found.frames (own_context contexts t) found.action step.change found.acts keeps)
