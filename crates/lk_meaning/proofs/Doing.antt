-- What the step of each action may put into a cell.
use Rattle.std.proofs.Common.{◌≡◌, ℕ, Bool, true, false, not, ◌||◌, List, [], ◌∷◌, Option, None, Some, refl, sym, ap, ◌∙◌, subst, inl, inr, ◌⊎◌}
use Rattle.std.specs.Bool.{⊤}
use Rattle.std.proofs.lemmas.Bool.{true≢false, eqb-true}
use Rattle.std.proofs.lemmas.Option.{none-some, same_Some}
use Rattle.std.specs.Option.{option_and_then, option_map, option_map_or}
use Rattle.std.specs.Prelude.{slice_get, if◌then◌else◌, nat_eq, nat_le, map, pos}
use Rattle.std.specs.Ordering.{int_eq}
use Rattle.lk_facts.specs.Program.{value_type_at}
use Rattle.lk_facts.specs.declared.action.Action.{Action}
use Rattle.lk_facts.specs.declared.action.Action.TheVariants as does
use Rattle.lk_facts.specs.declared.program.Program.{Program}
use Rattle.lk_values.specs.Causes.{◌or◌, ◌when◌, rank}
use Rattle.lk_values.specs.declared.cell.Cell.{Cell}
use Rattle.lk_values.specs.declared.cell.Pointer.{Pointer as PointerTo}
use Rattle.lk_values.specs.declared.value.Condition.TheVariants as condition
use Rattle.lk_values.specs.declared.value.Mutex.{Mutex}
use Rattle.lk_values.specs.declared.value.Mutex.TheVariants as mutex
use Rattle.lk_values.specs.declared.value.Value.{Value}
use Rattle.lk_values.specs.declared.value.Value.TheVariants.{Number, Pointer, Function, Null, Thread as Id, Indeterminate}
use Rattle.lk_values.specs.declared.why.Why.{Why}
use Rattle.lk_values.specs.declared.why.Why.TheVariants as why
use Rattle.lk_base.specs.declared.cell.CellStep.{CellStep}
use Rattle.lk_base.specs.declared.cell.CellStep.TheVariants.{Index}
use Rattle.lk_base.specs.declared.kind.Kind.TheVariants as kind
use Rattle.lk_cells.specs.Cells.{number_of_type, zero_of}
use Rattle.lk_cells.specs.Parts.{form_of}
use Rattle.lk_cells.specs.Operands.{operand, current, all_given, pointer_in, number_in, function_in, condition_in}
use Rattle.lk_cells.specs.Places as places
use Rattle.lk_cells.specs.Places.{is_unready, is_taken, is_not_of}
use Rattle.lk_cells.specs.declared.kind.CellKind.{CellKind}
use Rattle.lk_cells.specs.declared.kind.CellKind.TheVariants as cell
use Rattle.lk_cells.specs.declared.state.Frame.{Frame}
use Rattle.lk_cells.specs.declared.state.State.{State}
use Rattle.lk_cells.specs.declared.state.Thread.{Thread}
use Rattle.lk_change.specs.Accesses as accesses
use Rattle.lk_change.specs.Births as births
use Rattle.lk_change.specs.Calls as calls
use Rattle.lk_change.specs.Changes as changes
use Rattle.lk_change.specs.Fills as fills
use Rattle.lk_change.specs.Going as going
use Rattle.lk_change.specs.Locks as locks
use Rattle.lk_change.specs.Numbers as numbers
use Rattle.lk_change.specs.Pointers as pointed
use Rattle.lk_change.specs.Threads as threads
use Rattle.lk_change.specs.declared.change.Change.{Change}
use Rattle.lk_change.specs.declared.change.Change.TheVariants.{Enter, Leave, EndThread, EndProcess}
use Rattle.lk_change.specs.declared.change.Effect.{Effect}
use Rattle.lk_change.specs.declared.change.Effect.TheVariants as effect
use Rattle.lk_decide.specs.Locks as undefined_locks
use Rattle.lk_decide.specs.Undefined.{cause}
use Rattle.lk_decide.specs.Waiting.{waits}
use Rattle.lk_meaning.specs.Runs.{touched_by, through}
use Rattle.lk_meaning.specs.Laws.{mutex_in}
use Rattle.lk_meaning.proofs.Reading.{effect_of}
use Rattle.lk_values.proofs.Reasons.{mapped, chained, neither_cause, not_when}

-- ---- mutexes

pub free_there : (found : Mutex) → is_unready (Some found) ≡ false → is_taken (Some found) ≡ false → found ≡ mutex.Free
free_there mutex.NotReady unready taken = absurd (true≢false unready)
free_there mutex.Free unready taken = refl
free_there (mutex.Owned u) unready taken = absurd (true≢false taken)

pub owned_there : (t : ℕ) (found : Mutex) → is_not_of t (Some found) ≡ false → found ≡ mutex.Owned t
owned_there t mutex.NotReady other = absurd (true≢false other)
owned_there t mutex.Free other = absurd (true≢false other)
owned_there t (mutex.Owned u) other = ap (λ k. mutex.Owned k) (same_number u t (nat_eq u t) refl other)
  where
    same_number : (u t : ℕ) (b : Bool) → nat_eq u t ≡ b → not b ≡ false → u ≡ t
    same_number u t true h e = eqb-true u t h
    same_number u t false h e = absurd (true≢false e)

-- ---- changes

module _ (program : Program) (p : ℕ) (ch : Change) where
  pub goes_does : (k : ℕ) (v : Option Value) (e : Effect) → going.goes program p k v e ≡ Some ch → effect_of ch ≡ e
  goes_does k v e h = let made = mapped _ (going.successor program p k) ch h in sym (ap effect_of made.2)

  pub gives_does : (v : Option Value) → going.gives program p v ≡ Some ch → effect_of ch ≡ effect.Nothing
  gives_does v h = let made = chained _ v ch h in goes_does 0 (Some made.0) effect.Nothing made.2

  pub changes_does : (e : Option Effect) → going.changes program p e ≡ Some ch → e ≡ Some (effect_of ch)
  changes_does e h = let made = chained _ e ch h in made.1 ∙ ap (λ f. Some f) (sym (goes_does 0 None made.0 made.2))

  pub succeeds_does : (e : Option Effect) → going.succeeds program p e ≡ Some ch → e ≡ Some (effect_of ch)
  succeeds_does e h = let made = chained _ e ch h in made.1 ∙ ap (λ f. Some f) (sym (goes_does 0 (Some going.done) made.0 made.2))

-- Of the thread t that performs an action of its own point: which mutexes it may put, and what was there.
module _ (program : Program) (s : State) (t : ℕ) (thread : Thread) where
  -- the part to which an operand leads
  abbrev part : ℕ → Option Cell
  part a = places.part_of s (operand thread a)

  -- the action writes the cell
  abbrev pub Writes : Action → Cell → Type 0
  Writes action c = touched_by s thread action ≡ Some (record { cell = c; writes = true })

  abbrev pub IsTake : Action → ℕ → Type 0
  IsTake action a = (action ≡ does.Lock a) ⊎ (action ≡ does.Retake a)

  abbrev pub IsGive : Action → ℕ → Type 0
  IsGive action a = (action ≡ does.Unlock a) ⊎ ((b : ℕ) × (action ≡ does.Release b a))

  abbrev pub IsMake : Action → ℕ → Type 0
  IsMake action a = (action ≡ does.Init a) ⊎ (action ≡ does.Destroy a)

  -- no thread owns what is there
  abbrev pub Unowned : Cell → Type 0
  Unowned c = (found : Mutex) → mutex_in program s c ≡ Some found → is_taken (Some found) ≡ false

  pub data MutexPut (action : Action) (c : Cell) (m : Mutex) : Type 0 where
    taken : (a : ℕ) → IsTake action a → part a ≡ Some c → m ≡ mutex.Owned t → mutex_in program s c ≡ Some mutex.Free → MutexPut action c m
    given : (a : ℕ) → IsGive action a → part a ≡ Some c → m ≡ mutex.Free → mutex_in program s c ≡ Some (mutex.Owned t) → MutexPut action c m
    made : (a : ℕ) → IsMake action a → part a ≡ Some c → is_taken (Some m) ≡ false → Unowned c → MutexPut action c m
    filled : Writes action c → is_taken (Some m) ≡ false → Unowned c → MutexPut action c m

  -- what is made ready or not ready, of each kind
  abbrev ready_of : Cell → CellKind → Option Effect
  ready_of c cell.Value = None
  ready_of c cell.Mutex = Some (effect.PutMutex c mutex.Free)
  ready_of c cell.Condition = Some (effect.PutCondition c condition.Ready)

  abbrev unready_of : Cell → CellKind → Option Effect
  unready_of c cell.Value = None
  unready_of c cell.Mutex = Some (effect.PutMutex c mutex.NotReady)
  unready_of c cell.Condition = Some (effect.PutCondition c condition.NotReady)

  -- what the effect of an action's step may be
  abbrev pub MayDo : Action → Effect → Type 0
  MayDo action effect.Nothing = ⊤
  MayDo action (effect.PutSlot slot v) = ⊤
  MayDo action (effect.PutValue c v) = Writes action c
  MayDo action (effect.PutMutex c m) = MutexPut action c m
  MayDo action (effect.PutCondition c k) = Writes action c ⊎ ((a : ℕ) × IsMake action a × (part a ≡ Some c))
  MayDo action (effect.Begin call) = ⊤
  MayDo action (effect.Join u) = ⊤
  MayDo action (effect.Detach u) = ⊤
  MayDo action (effect.Bear birth) = ⊤
  MayDo action (effect.End o) = ⊤

  -- ---- what effects are made of

  value_put_is : (place v : Option Value) (e : Effect) → accesses.value_put s place v ≡ Some e → (c : Cell) × (x : Value) × (places.part_of s place ≡ Some c) × (effect.PutValue c x ≡ e)
  value_put_is place v e h =
      let c = chained _ (places.part_of s place) e h in
      let x = mapped (effect.PutValue c.0) v e c.2 in
      (c.0, x.0, c.1, x.2)

  mutex_made_is : (v : Option Value) (m : Mutex) (e : Effect) → locks.mutex_made program s v m ≡ Some e →
      (c : Cell) × (found : Mutex) × (places.part_of s v ≡ Some c) × (places.mutex_through program.types s v ≡ Some found) × (effect.PutMutex c m ≡ e)
  mutex_made_is v m e h =
      let found = chained _ (places.mutex_through program.types s v) e h in
      let c = mapped (λ c. effect.PutMutex c m) (places.part_of s v) e found.2 in
      (c.0, found.0, c.1, found.1, c.2)

  -- what stands in the cell to which a pointer leads
  through_is : (v : Option Value) (c : Cell) → places.part_of s v ≡ Some c → mutex_in program s c ≡ places.mutex_through program.types s v
  through_is v c is = sym (ap (λ o. option_and_then (mutex_in program s) o) is)

  -- no thread owns it, where no cause is that one does
  unowned : (v : Option Value) (c : Cell) → places.part_of s v ≡ Some c → undefined_locks.init_row program s v ≡ None → Unowned c
  unowned v c is none found there =
      let taken = is_taken (places.mutex_through program.types s v) in
      let free : taken ≡ false = not_when why.OwnedLock taken (neither_cause (places.followed s v) (why.OwnedLock when taken) none).1 in
      subst (λ o. is_taken o ≡ false) (sym (through_is v c is) ∙ there) free

  -- ---- rows of several actions

  idle : (action : Action) (e : Effect) → e ≡ effect.Nothing → MayDo action e
  idle action e h = subst (MayDo action) (sym h) tt

  writes_cell : (action : Action) (place v : Option Value) (e : Effect) → touched_by s thread action ≡ through s true place → accesses.value_put s place v ≡ Some e → MayDo action e
  writes_cell action place v e touches h =
      let is = value_put_is place v e h in
      subst (MayDo action) is.3 (touches ∙ ap (λ o. option_map (λ c. record { cell = c; writes = true }) o) is.2)

  takes_lock : (action : Action) (a : ℕ) (e : Effect) → IsTake action a → undefined_locks.lock_row program s (operand thread a) ≡ None →
      is_taken (places.mutex_through program.types s (operand thread a)) ≡ false → locks.mutex_made program s (operand thread a) (mutex.Owned t) ≡ Some e → MayDo action e
  takes_lock action a e takes none free h =
      let is = mutex_made_is (operand thread a) (mutex.Owned t) e h in
      let unready = is_unready (places.mutex_through program.types s (operand thread a)) in
      let ready : unready ≡ false = not_when why.NotReady unready (neither_cause (places.followed s (operand thread a)) (why.NotReady when unready) none).1 in
      let found_free = free_there is.1 (subst (λ o. is_unready o ≡ false) is.3 ready) (subst (λ o. is_taken o ≡ false) is.3 free) in
      subst (MayDo action) is.4 (MutexPut.taken a takes is.2 refl (through_is (operand thread a) is.0 is.2 ∙ is.3 ∙ ap (λ m. Some m) found_free))

  gives_lock : (action : Action) (a : ℕ) (e : Effect) → IsGive action a → undefined_locks.unlock_row program s t (operand thread a) ≡ None →
      locks.mutex_made program s (operand thread a) mutex.Free ≡ Some e → MayDo action e
  gives_lock action a e gives none h =
      let is = mutex_made_is (operand thread a) mutex.Free e h in
      let other = is_not_of t (places.mutex_through program.types s (operand thread a)) in
      let own : other ≡ false = not_when why.NotOwner other (neither_cause (places.followed s (operand thread a)) (why.NotOwner when other) none).1 in
      let found_own = owned_there t is.1 (subst (λ o. is_not_of t o ≡ false) is.3 own) in
      subst (MayDo action) is.4 (MutexPut.given a gives is.2 refl (through_is (operand thread a) is.0 is.2 ∙ is.3 ∙ ap (λ m. Some m) found_own))

  makes_ready : (action : Action) (a : ℕ) (e : Effect) → IsMake action a → undefined_locks.init_row program s (operand thread a) ≡ None → locks.made_ready program s (operand thread a) ≡ Some e → MayDo action e
  makes_ready action a e makes none h =
      let c = chained _ (places.part_of s (operand thread a)) e h in
      let k = chained _ (places.kind_through program.types s (operand thread a)) e c.2 in
      by c.0 k.0 c.1 k.2
    where
      by : (c : Cell) (k : CellKind) → part a ≡ Some c → ready_of c k ≡ Some e → MayDo action e
      by c cell.Value there is = absurd (none-some e is)
      by c cell.Mutex there is = subst (MayDo action) (same_Some _ e is) (MutexPut.made a makes there refl (unowned (operand thread a) c there none))
      by c cell.Condition there is = subst (MayDo action) (same_Some _ e is) (inr (a, makes, there))

  makes_unready : (action : Action) (a : ℕ) (e : Effect) → IsMake action a → undefined_locks.init_row program s (operand thread a) ≡ None → locks.made_unready program s (operand thread a) ≡ Some e → MayDo action e
  makes_unready action a e makes none h =
      let c = chained _ (places.part_of s (operand thread a)) e h in
      let k = chained _ (places.kind_through program.types s (operand thread a)) e c.2 in
      by c.0 k.0 c.1 k.2
    where
      by : (c : Cell) (k : CellKind) → part a ≡ Some c → unready_of c k ≡ Some e → MayDo action e
      by c cell.Value there is = absurd (none-some e is)
      by c cell.Mutex there is = subst (MayDo action) (same_Some _ e is) (MutexPut.made a makes there refl (unowned (operand thread a) c there none))
      by c cell.Condition there is = subst (MayDo action) (same_Some _ e is) (inr (a, makes, there))

  fills_cell : (action : Action) (v : Option Value) (e : Effect) → touched_by s thread action ≡ through s true v → undefined_locks.init_row program s v ≡ None → fills.filled program s v ≡ Some e → MayDo action e
  fills_cell action v e touches none h =
      let c = chained _ (places.part_of s v) e h in
      let k = chained _ (places.kind_through program.types s v) e c.2 in
      by c.0 k.0 c.1 k.2
    where
      write : (c : Cell) → places.part_of s v ≡ Some c → Writes action c
      write c there = touches ∙ ap (λ o. option_map (λ d. record { cell = d; writes = true }) o) there

      by : (c : Cell) (k : CellKind) → places.part_of s v ≡ Some c → fills.filled_of_kind (option_and_then zero_of (places.form_through program.types s v)) c k ≡ Some e → MayDo action e
      by c cell.Value there is = let x = mapped (effect.PutValue c) _ e is in subst (MayDo action) x.2 (write c there)
      by c cell.Mutex there is = subst (MayDo action) (same_Some _ e is) (MutexPut.filled (write c there) refl (unowned v c there none))
      by c cell.Condition there is = subst (MayDo action) (same_Some _ e is) (inl (write c there))

  -- ---- the table

  module _ (w : ℕ) (ch : Change) where
    abbrev p : ℕ
    p = thread.frame.point

    nothing : (action : Action) → effect_of ch ≡ effect.Nothing → MayDo action (effect_of ch)
    nothing action h = idle action (effect_of ch) h

    enters_does : (f : ℕ) (args : List ℕ) → calls.enters program thread f args ≡ Some ch → effect_of ch ≡ effect.Nothing
    enters_does f args h =
        let values = chained _ (all_given (map (operand thread) args)) ch h in
        let call = mapped Enter (calls.call_of program f values.0) ch values.2 in
        sym (ap effect_of call.2)

    returns_does : (v : Option Value) → calls.returns program t thread v ≡ Some ch → effect_of ch ≡ effect.Nothing
    returns_does v h = by (calls.caller_of thread) h
      where
        first : (b : Bool) → Some (if b then EndProcess else EndThread) ≡ Some ch → effect_of ch ≡ effect.Nothing
        first true h = sym (ap effect_of (same_Some _ ch h))
        first false h = sym (ap effect_of (same_Some _ ch h))

        by : (caller : Option Frame) → option_map_or (calls.returns_to program v) caller (calls.ends_first t) ≡ Some ch → effect_of ch ≡ effect.Nothing
        by None h = first (nat_eq t 0) h
        by (Some caller) h = let q = mapped (Leave v) (going.successor program caller.point 0) ch h in sym (ap effect_of q.2)

    computes_does : (args : List ℕ) (ty : ℕ) (equal : Bool) → numbers.computes program thread w args ty equal ≡ Some ch → effect_of ch ≡ effect.Nothing
    computes_does args ty true h = gives_does program p ch _ h
    computes_does args ty false h = goes_does program p ch 0 _ effect.Nothing h

    begins_does : (action : Action) (f : ℕ) (v : Value) → threads.begins program p w f v ≡ Some ch → MayDo action (effect_of ch)
    begins_does action f v h = by (nat_eq w 0) h
      where
        by : (b : Bool) → (if b then going.goes program p 1 (Some (Number kind.Int (pos 11))) effect.Nothing else going.succeeds program p (option_map effect.Begin (calls.call_of program f (v ∷ [])))) ≡ Some ch → MayDo action (effect_of ch)
        by true h = nothing action (goes_does program p ch 1 _ effect.Nothing h)
        by false h =
            let e = succeeds_does program p ch _ h in
            let call = mapped effect.Begin _ (effect_of ch) e in
            subst (MayDo action) call.2 tt

    allocates_does : (action : Action) (r : ℕ) (zero : Bool) (n : ℕ) (path : List CellStep) → births.allocates program s p w r zero n path ≡ Some ch → MayDo action (effect_of ch)
    allocates_does action r zero n path h = by (nat_eq w 0 || nat_eq n 0) h
      where
        by : (b : Bool) → (if b then going.gives program p (Some Null) else births.bears program s p r zero n path) ≡ Some ch → MayDo action (effect_of ch)
        by true h = nothing action (gives_does program p ch (Some Null) h)
        by false h = subst (MayDo action) (sym (goes_does program p ch 0 _ _ h)) tt

    frees_does : (action : Action) (v : Option Value) → births.frees program p v ≡ Some ch → MayDo action (effect_of ch)
    frees_does action None h = absurd (none-some ch h)
    frees_does action (Some (Number k n)) h = absurd (none-some ch h)
    frees_does action (Some (Pointer at)) h = subst (MayDo action) (same_Some _ _ (changes_does program p ch _ h)) tt
    frees_does action (Some (Function f)) h = absurd (none-some ch h)
    frees_does action (Some Null) h = subst (MayDo action) (same_Some _ _ (changes_does program p ch _ h)) tt
    frees_does action (Some (Id u)) h = absurd (none-some ch h)
    frees_does action (Some Indeterminate) h = absurd (none-some ch h)

    scans_does : (v : Option Value) → accesses.scans program s p w v ≡ Some ch → effect_of ch ≡ effect.Nothing
    scans_does v h =
        let n = chained (λ n. if int_eq n (pos 0) then going.goes program p 0 (numbers.by_word program w (value_type_at program p)) effect.Nothing else option_and_then (accesses.scans_on program s) (pointer_in v))
        (number_in (places.value_through program.types s v)) ch h in
        by (int_eq n.0 (pos 0)) n.2
      where
        by : (b : Bool) → (if b then going.goes program p 0 (numbers.by_word program w (value_type_at program p)) effect.Nothing else option_and_then (accesses.scans_on program s) (pointer_in v)) ≡ Some ch → effect_of ch ≡ effect.Nothing
        by true h = goes_does program p ch 0 _ effect.Nothing h
        by false h =
            let at = chained (accesses.scans_on program s) _ ch h in
            let next = chained _ (places.moved_by program.types s at.0 (pos 1)) ch at.2 in
            sym (ap effect_of (same_Some _ ch next.2))

    fills_does : (named : List (List CellStep)) (v : Option Value) → fills.fills program s p named v ≡ Some ch → fills.filled program s v ≡ Some (effect_of ch)
    fills_does named v h =
        let e = chained _ (fills.filled program s v) ch h in
        e.1 ∙ ap (λ f. Some f) (by e.0 (fills.absent_through program s named v) e.2)
      where
        by : (e : Effect) (next : Option PointerTo) → option_map_or (λ at. going.stays_on at e) next (going.changes program p (Some e)) ≡ Some ch → e ≡ effect_of ch
        by e None h = same_Some e (effect_of ch) (changes_does program p ch (Some e) h)
        by e (Some at) h = ap effect_of (same_Some _ ch h)

    -- what the effect of each action's step may be, where no cause makes it undefined and it doesn't wait
    pub may_do : (action : Action) → cause program s t thread action ≡ None → waits program s thread action ≡ false → changes.change program s t thread w action ≡ Some ch → MayDo action (effect_of ch)
    may_do (does.Value number ty) none free h = nothing (does.Value number ty) (gives_does program p ch (option_and_then (λ form. number_of_type form number) (form_of program.types ty)) h)
    may_do (does.Null ty) none free h = nothing (does.Null ty) (gives_does program p ch (Some Null) h)
    may_do (does.Func f) none free h = nothing (does.Func f) (gives_does program p ch (Some (Function f)) h)
    may_do does.SelfId none free h = nothing does.SelfId (gives_does program p ch (Some (Id (Some t))) h)
    may_do (does.Root r) none free h = nothing (does.Root r) (gives_does program p ch (pointed.pointer_to_root program s thread.frame r) h)
    may_do (does.Text r) none free h = nothing (does.Text r) (gives_does program p ch (pointed.pointer_to_root program s thread.frame r) h)
    may_do (does.Field a k) none free h = nothing (does.Field a k) (gives_does program p ch (pointed.member_of s (operand thread a) k) h)
    may_do (does.Index a b into) none free h = nothing (does.Index a b into) (gives_does program p ch (pointed.index_of program s into (operand thread a) (operand thread b)) h)
    may_do (does.Read a raw) none free h = nothing (does.Read a raw) (gives_does program p ch (places.value_through program.types s (operand thread a)) h)
    may_do (does.Write a b raw) none free h = writes_cell (does.Write a b raw) (operand thread a) (operand thread b) (effect_of ch) refl (changes_does program p ch (accesses.value_put s (operand thread a) (operand thread b)) h)
    may_do (does.SlotRead slot) none free h = nothing (does.SlotRead slot) (gives_does program p ch (slice_get thread.frame.slots slot) h)
    may_do (does.SlotWrite slot a) none free h = let v = mapped (effect.PutSlot slot) (operand thread a) (effect_of ch) (changes_does program p ch (option_map (effect.PutSlot slot) (operand thread a)) h) in subst (MayDo (does.SlotWrite slot a)) v.2 tt
    may_do (does.Unary op a) none free h = nothing (does.Unary op a) (gives_does program p ch (numbers.unary_value op (operand thread a)) h)
    may_do (does.Binary op a b) none free h = nothing (does.Binary op a b) (gives_does program p ch (numbers.binary_value program s op (operand thread a) (operand thread b)) h)
    may_do (does.Compute args ty equal) none free h = nothing (does.Compute args ty equal) (computes_does args ty equal h)
    may_do (does.Convert a ty) none free h = nothing (does.Convert a ty) (gives_does program p ch (numbers.converted_value program s a ty (operand thread a)) h)
    may_do (does.Branch a) none free h = let holds = chained (λ holds. going.goes program p (if holds then 0 else 1) None effect.Nothing) (condition_in (operand thread a)) ch h in nothing (does.Branch a) (goes_does program p ch (if holds.0 then 0 else 1) None effect.Nothing holds.2)
    may_do (does.Switch a cases) none free h = let n = chained (λ n. going.goes program p (calls.case_of n cases) None effect.Nothing) (number_in (operand thread a)) ch h in nothing (does.Switch a cases) (goes_does program p ch (calls.case_of n.0 cases) None effect.Nothing n.2)
    may_do does.Skip none free h = nothing does.Skip (sym (same_Some _ _ (changes_does program p ch (Some effect.Nothing) h)))
    may_do (does.Call f args) none free h = nothing (does.Call f args) (enters_does f args h)
    may_do (does.PointerCall a args) none free h = let f = chained (λ f. calls.enters program thread f args) (function_in (operand thread a)) ch h in nothing (does.PointerCall a args) (enters_does f.0 args f.2)
    may_do (does.Return None) none free h = nothing (does.Return None) (returns_does None h)
    may_do (does.Return (Some a)) none free h = let v = chained (λ v. calls.returns program t thread (Some v)) (operand thread a) ch h in nothing (does.Return (Some a)) (returns_does (Some v.0) v.2)
    may_do (does.Create f a) none free h = let v = chained (threads.begins program p w f) (operand thread a) ch h in begins_does (does.Create f a) f v.0 v.2
    may_do (does.StoreId a) none free h = writes_cell (does.StoreId a) (operand thread a) (Some (Id thread.frame.created)) (effect_of ch) refl (changes_does program p ch (accesses.value_put s (operand thread a) (Some (Id thread.frame.created))) h)
    may_do (does.Join a) none free h = let u = mapped effect.Join (threads.thread_in (operand thread a)) (effect_of ch) (succeeds_does program p ch (option_map effect.Join (threads.thread_in (operand thread a))) h) in subst (MayDo (does.Join a)) u.2 tt
    may_do (does.Detach a) none free h = let u = mapped effect.Detach (threads.thread_in (operand thread a)) (effect_of ch) (succeeds_does program p ch (option_map effect.Detach (threads.thread_in (operand thread a))) h) in subst (MayDo (does.Detach a)) u.2 tt
    may_do does.ExitThread none free h = nothing does.ExitThread (sym (ap effect_of (same_Some _ ch h)))
    may_do does.ExitProcess none free h = nothing does.ExitProcess (sym (ap effect_of (same_Some _ ch h)))
    may_do (does.Lock a) none free h = takes_lock (does.Lock a) a (effect_of ch) (inl refl) none free (succeeds_does program p ch (locks.mutex_made program s (operand thread a) (mutex.Owned t)) h)
    may_do (does.Unlock a) none free h = gives_lock (does.Unlock a) a (effect_of ch) (inl refl) none (succeeds_does program p ch (locks.mutex_made program s (operand thread a) mutex.Free) h)
    may_do (does.Release c a) none free h = let k = chained (λ k. going.succeeds program p (locks.mutex_made program s (operand thread a) mutex.Free)) (places.condition_through program.types s (operand thread c)) ch h in gives_lock (does.Release c a) a (effect_of ch) (inr (c, refl)) (neither_cause (undefined_locks.unlock_row program s t (operand thread a)) (undefined_locks.signal_row program s (operand thread c)) none).0 (succeeds_does program p ch (locks.mutex_made program s (operand thread a) mutex.Free) k.2)
    may_do (does.Retake a) none free h = takes_lock (does.Retake a) a (effect_of ch) (inr refl) none free (changes_does program p ch (locks.mutex_made program s (operand thread a) (mutex.Owned t)) h)
    may_do (does.Init a) none free h = makes_ready (does.Init a) a (effect_of ch) (inl refl) none (succeeds_does program p ch (locks.made_ready program s (operand thread a)) h)
    may_do (does.Destroy a) none free h = makes_unready (does.Destroy a) a (effect_of ch) (inr refl) (neither_cause (undefined_locks.init_row program s (operand thread a)) (undefined_locks.lock_row program s (operand thread a) or undefined_locks.signal_row program s (operand thread a)) none).0 (succeeds_does program p ch (locks.made_unready program s (operand thread a)) h)
    may_do (does.Signal a) none free h = let k = chained (λ k. going.succeeds program p (Some effect.Nothing)) (places.condition_through program.types s (operand thread a)) ch h in nothing (does.Signal a) (sym (same_Some _ _ (succeeds_does program p ch (Some effect.Nothing) k.2)))
    may_do (does.Allocate ty None zero r) none free h = allocates_does (does.Allocate ty None zero r) r zero 1 [] h
    may_do (does.Allocate ty (Some a) zero r) none free h = let n = chained (λ n. births.allocates program s p w r zero n (Index 0 ∷ [])) (option_and_then births.count_of (number_in (operand thread a))) ch h in allocates_does (does.Allocate ty (Some a) zero r) r zero n.0 (Index 0 ∷ []) n.2
    may_do (does.Free a) none free h = frees_does (does.Free a) (operand thread a) h
    may_do (does.Scan a) none free h = nothing (does.Scan a) (scans_does (current thread a) h)
    may_do (does.Fill a place named) none free h = fills_cell (does.Fill a place named) (current thread a) (effect_of ch) refl none (fills_does named (current thread a) h)
