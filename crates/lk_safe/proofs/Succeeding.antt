-- Where the step of each action leads: to a successor of its point, to a cell at which it stays, into a function, or back to a successor of
-- the caller's point; and which actions begin threads or bear objects.
use Rattle.std.proofs.Common.{◌≡◌, ℕ, Bool, true, false, ◌||◌, List, [], ◌∷◌, Option, None, Some, refl, sym, ap, ◌∙◌, subst}
use Rattle.std.proofs.lemmas.Option.{none-some, same_Some}
use Rattle.std.specs.Option.{option_and_then, option_map, option_map_or}
use Rattle.std.specs.Ordering.{int_eq}
use Rattle.std.specs.Prelude.{slice_get, if◌then◌else◌, nat_eq, map, pos, ⊤}
use Rattle.lk_base.specs.declared.cell.CellStep.{CellStep}
use Rattle.lk_base.specs.declared.cell.CellStep.TheVariants.{Index}
use Rattle.lk_base.specs.declared.kind.Kind.TheVariants as kind
use Rattle.lk_cells.specs.Cells.{number_of_type, zero_of}
use Rattle.lk_cells.specs.Operands.{operand, current, all_given, pointer_in, number_in, function_in, condition_in}
use Rattle.lk_cells.specs.Parts.{form_of}
use Rattle.lk_cells.specs.Places as places
use Rattle.lk_cells.specs.declared.kind.CellKind.{CellKind}
use Rattle.lk_cells.specs.declared.kind.CellKind.TheVariants as cell
use Rattle.lk_cells.specs.declared.state.Frame.{Frame}
use Rattle.lk_cells.specs.declared.state.State.{State}
use Rattle.lk_cells.specs.declared.state.Thread.{Thread}
use Rattle.lk_change.specs.Accesses as accesses
use Rattle.lk_change.specs.Births as births
use Rattle.lk_change.specs.Calls as calls
use Rattle.lk_change.specs.Changes.{change}
use Rattle.lk_change.specs.Fills as fills
use Rattle.lk_change.specs.Going.{successor, goes, gives, changes, succeeds, stays_on, done}
use Rattle.lk_change.specs.Locks as locks
use Rattle.lk_change.specs.Numbers as numbers
use Rattle.lk_change.specs.Pointers as pointed
use Rattle.lk_change.specs.Threads as threads
use Rattle.lk_change.specs.declared.change.Change.{Change}
use Rattle.lk_change.specs.declared.change.Change.TheVariants.{Goes, Enter, Leave, EndThread, EndProcess}
use Rattle.lk_change.specs.declared.change.Effect.{Effect as Changed}
use Rattle.lk_change.specs.declared.change.Effect.TheVariants as effect
use Rattle.lk_change.specs.declared.change.Going.{Going}
use Rattle.lk_change.specs.declared.change.Turn.{Turn}
use Rattle.lk_change.specs.declared.change.Turn.TheVariants as turn
use Rattle.lk_facts.specs.Effects.{effect_of}
use Rattle.lk_facts.specs.Program.{entry_of, next_of, value_type_at}
use Rattle.lk_facts.specs.Reach.{IsNext}
use Rattle.lk_facts.specs.declared.action.Action.{Action}
use Rattle.lk_facts.specs.declared.action.Action.TheVariants as does
use Rattle.lk_facts.specs.declared.effect.Effect.{Effect}
use Rattle.lk_facts.specs.declared.effect.Effect.TheVariants.{Nothing, Reads, Writes, Takes, Frees, Runs, RunsThrough, Starts}
use Rattle.lk_facts.specs.declared.program.Program.{Program}
use Rattle.lk_right.proofs.Doing.{has_got}
use Rattle.lk_values.proofs.Reasons.{mapped, chained}
use Rattle.lk_values.specs.declared.cell.Cell.{Cell}
use Rattle.lk_values.specs.declared.cell.Pointer.{Pointer as PointerTo}
use Rattle.lk_values.specs.declared.value.Condition.TheVariants as condition
use Rattle.lk_values.specs.declared.value.Mutex.{Mutex}
use Rattle.lk_values.specs.declared.value.Mutex.TheVariants as mutex
use Rattle.lk_values.specs.declared.value.Value.{Value}
use Rattle.lk_values.specs.declared.value.Value.TheVariants.{Number, Pointer, Function, Null, Thread as Id, Indeterminate}

-- ---- what an action is to the analysis

-- it runs no function
abbrev pub RunsNot : Effect → Type 0
RunsNot Nothing = ⊤
RunsNot (Reads a) = ⊤
RunsNot (Writes a) = ⊤
RunsNot (Takes a) = ⊤
RunsNot (Frees a) = ⊤
RunsNot (Runs f) = ⊥
RunsNot (RunsThrough a) = ⊥
RunsNot (Starts f) = ⊤

-- it accesses cells
abbrev pub IsAccess : Effect → Type 0
IsAccess Nothing = ⊥
IsAccess (Reads a) = ⊤
IsAccess (Writes a) = ⊤
IsAccess (Takes a) = ⊥
IsAccess (Frees a) = ⊥
IsAccess (Runs f) = ⊥
IsAccess (RunsThrough a) = ⊥
IsAccess (Starts f) = ⊥

-- it is nothing
abbrev pub IsIdle : Effect → Type 0
IsIdle Nothing = ⊤
IsIdle (Reads a) = ⊥
IsIdle (Writes a) = ⊥
IsIdle (Takes a) = ⊥
IsIdle (Frees a) = ⊥
IsIdle (Runs f) = ⊥
IsIdle (RunsThrough a) = ⊥
IsIdle (Starts f) = ⊥

-- The thread t of the state s performs an action, with the word w.
module _ (program : Program) (s : State) (t : ℕ) (thread : Thread) (w : ℕ) where
  abbrev p : ℕ
  p = thread.frame.point

  -- it goes to a successor; or it accesses cells and stays with the next one
  abbrev pub IsTurn : Action → Turn → Type 0
  IsTurn action (turn.To q) = (k : ℕ) × (successor program p k ≡ Some q)
  IsTurn action (turn.OnAt next) = IsAccess (effect_of action)

  -- a creation alone begins a thread, of its function, and an allocation alone bears an object, of its root
  abbrev pub IsMade : Action → Changed → Type 0
  IsMade action effect.Nothing = ⊤
  IsMade action (effect.PutSlot slot v) = ⊤
  IsMade action (effect.PutValue c v) = ⊤
  IsMade action (effect.PutMutex c m) = ⊤
  IsMade action (effect.PutCondition c m) = ⊤
  IsMade action (effect.Begin call) = (a : ℕ) × (action ≡ does.Create call.function a)
  IsMade action (effect.Join u) = ⊤
  IsMade action (effect.Detach u) = ⊤
  IsMade action (effect.Bear birth) = (ty : ℕ) × (count : Option ℕ) × (zero : Bool) × (action ≡ does.Allocate ty count zero birth.root)
  IsMade action (effect.End o) = ⊤

  pub record IsGoing (action : Action) (going : Going) : Type 0 where
    pub turns : IsTurn action going.turn
    pub runs : RunsNot (effect_of action)
    pub made : IsMade action going.effect

  -- a return goes to the successor of the frame that called
  pub record IsLeaving (action : Action) (q : ℕ) : Type 0 where
    pub caller : Frame
    pub below : calls.caller_of thread ≡ Some caller
    pub next : successor program caller.point 0 ≡ Some q
    pub operand_ : Option ℕ
    pub is : action ≡ does.Return operand_

  -- what kind of change an action makes
  abbrev pub IsKind : Action → Change → Type 0
  IsKind action (Goes going) = IsGoing action going
  IsKind action (Enter call) = ⊤
  IsKind action (Leave v q) = IsLeaving action q
  IsKind action EndThread = IsIdle (effect_of action)
  IsKind action EndProcess = IsIdle (effect_of action)

  -- ---- what effects are made of

  value_put_made : (action : Action) (place v : Option Value) (e : Changed) → accesses.value_put s place v ≡ Some e → IsMade action e
  value_put_made action place v e h =
      let c = chained (λ c. option_map (effect.PutValue c) v) (places.part_of s place) e h in
      let x = mapped (effect.PutValue c.0) v e c.2 in
      subst (IsMade action) x.2 tt

  mutex_put_made : (action : Action) (v : Option Value) (m : Mutex) (e : Changed) → locks.mutex_made program s v m ≡ Some e → IsMade action e
  mutex_put_made action v m e h =
      let found = chained (λ found. option_map (λ c. effect.PutMutex c m) (places.part_of s v)) (places.mutex_through program.types s v) e h in
      let c = mapped (λ c. effect.PutMutex c m) (places.part_of s v) e found.2 in
      subst (IsMade action) c.2 tt

  -- what is made ready or not ready, of each kind
  abbrev ready_of : Cell → CellKind → Option Changed
  ready_of c cell.Value = None
  ready_of c cell.Mutex = Some (effect.PutMutex c mutex.Free)
  ready_of c cell.Condition = Some (effect.PutCondition c condition.Ready)

  abbrev unready_of : Cell → CellKind → Option Changed
  unready_of c cell.Value = None
  unready_of c cell.Mutex = Some (effect.PutMutex c mutex.NotReady)
  unready_of c cell.Condition = Some (effect.PutCondition c condition.NotReady)

  ready_made : (action : Action) (v : Option Value) (e : Changed) → locks.made_ready program s v ≡ Some e → IsMade action e
  ready_made action v e h =
      let c = chained (λ c. option_and_then (ready_of c) (places.kind_through program.types s v)) (places.part_of s v) e h in
      let k = chained (ready_of c.0) (places.kind_through program.types s v) e c.2 in
      by c.0 k.0 k.2
    where
      by : (c : Cell) (k : CellKind) → ready_of c k ≡ Some e → IsMade action e
      by c cell.Value is = absurd (none-some e is)
      by c cell.Mutex is = subst (IsMade action) (same_Some (effect.PutMutex c mutex.Free) e is) tt
      by c cell.Condition is = subst (IsMade action) (same_Some (effect.PutCondition c condition.Ready) e is) tt

  unready_made : (action : Action) (v : Option Value) (e : Changed) → locks.made_unready program s v ≡ Some e → IsMade action e
  unready_made action v e h =
      let c = chained (λ c. option_and_then (unready_of c) (places.kind_through program.types s v)) (places.part_of s v) e h in
      let k = chained (unready_of c.0) (places.kind_through program.types s v) e c.2 in
      by c.0 k.0 k.2
    where
      by : (c : Cell) (k : CellKind) → unready_of c k ≡ Some e → IsMade action e
      by c cell.Value is = absurd (none-some e is)
      by c cell.Mutex is = subst (IsMade action) (same_Some (effect.PutMutex c mutex.NotReady) e is) tt
      by c cell.Condition is = subst (IsMade action) (same_Some (effect.PutCondition c condition.NotReady) e is) tt

  filled_made : (action : Action) (v : Option Value) (e : Changed) → fills.filled program s v ≡ Some e → IsMade action e
  filled_made action v e h =
      let c = chained (λ c. option_and_then (fills.filled_of_kind (option_and_then zero_of (places.form_through program.types s v)) c) (places.kind_through program.types s v))
      (places.part_of s v) e h in
      let k = chained (fills.filled_of_kind (option_and_then zero_of (places.form_through program.types s v)) c.0) (places.kind_through program.types s v) e c.2 in
      by c.0 k.0 k.2
    where
      by : (c : Cell) (k : CellKind) → fills.filled_of_kind (option_and_then zero_of (places.form_through program.types s v)) c k ≡ Some e → IsMade action e
      by c cell.Value is = let x = mapped (effect.PutValue c) (option_and_then zero_of (places.form_through program.types s v)) e is in subst (IsMade action) x.2 tt
      by c cell.Mutex is = subst (IsMade action) (same_Some (effect.PutMutex c mutex.Free) e is) tt
      by c cell.Condition is = subst (IsMade action) (same_Some (effect.PutCondition c condition.Ready) e is) tt

  -- ---- what goes on

  module _ (ch : Change) (action : Action) where
    goes_kind : (k : ℕ) (v : Option Value) (e : Changed) → RunsNot (effect_of action) → IsMade action e → goes program p k v e ≡ Some ch → IsKind action ch
    goes_kind k v e runs made h =
        let q = mapped (λ q. Goes (record { gives = v; turn = turn.To q; effect = e })) (successor program p k) ch h in
        let is : IsGoing action (record { gives = v; turn = turn.To q.0; effect = e }) = record { turns = (k, q.1); runs = runs; made = made } in
        subst (IsKind action) q.2 is

    gives_kind : (v : Option Value) → RunsNot (effect_of action) → gives program p v ≡ Some ch → IsKind action ch
    gives_kind v runs h = let x = chained (λ value. goes program p 0 (Some value) effect.Nothing) v ch h in goes_kind 0 (Some x.0) effect.Nothing runs tt x.2

    changes_kind : (o : Option Changed) → RunsNot (effect_of action) → ((e : Changed) → o ≡ Some e → IsMade action e) → changes program p o ≡ Some ch → IsKind action ch
    changes_kind o runs made h = let e = chained (goes program p 0 None) o ch h in goes_kind 0 None e.0 runs (made e.0 e.1) e.2

    succeeds_kind : (o : Option Changed) → RunsNot (effect_of action) → ((e : Changed) → o ≡ Some e → IsMade action e) → succeeds program p o ≡ Some ch → IsKind action ch
    succeeds_kind o runs made h = let e = chained (goes program p 0 (Some done)) o ch h in goes_kind 0 (Some done) e.0 runs (made e.0 e.1) e.2

    stays_kind : (next : PointerTo) (e : Changed) → RunsNot (effect_of action) → IsAccess (effect_of action) → IsMade action e → stays_on next e ≡ Some ch → IsKind action ch
    stays_kind next e runs access made h =
        let is : IsGoing action (record { gives = None; turn = turn.OnAt next; effect = e }) = record { turns = access; runs = runs; made = made } in
        subst (IsKind action) (same_Some (Goes (record { gives = None; turn = turn.OnAt next; effect = e })) ch h) is

    enters_kind : (f : ℕ) (args : List ℕ) → calls.enters program thread f args ≡ Some ch → IsKind action ch
    enters_kind f args h =
        let values = chained (λ values. option_map Enter (calls.call_of program f values)) (all_given (map (operand thread) args)) ch h in
        let call = mapped Enter (calls.call_of program f values.0) ch values.2 in
        subst (IsKind action) call.2 tt

    nothing_made : (e : Changed) → Some effect.Nothing ≡ Some e → IsMade action e
    nothing_made e h = subst (IsMade action) (same_Some effect.Nothing e h) tt

  -- ---- rows of single actions

  module _ (ch : Change) where
    returns_kind : (a : Option ℕ) (v : Option Value) → calls.returns program t thread v ≡ Some ch → IsKind (does.Return a) ch
    returns_kind a v h = by (calls.caller_of thread) refl h
      where
        first : (b : Bool) → Some (if b then EndProcess else EndThread) ≡ Some ch → IsKind (does.Return a) ch
        first true h = subst (IsKind (does.Return a)) (same_Some EndProcess ch h) tt
        first false h = subst (IsKind (does.Return a)) (same_Some EndThread ch h) tt

        by : (caller : Option Frame) → calls.caller_of thread ≡ caller → option_map_or (calls.returns_to program v) caller (calls.ends_first t) ≡ Some ch → IsKind (does.Return a) ch
        by None is h = first (nat_eq t 0) h
        by (Some caller) is h =
            let q = mapped (Leave v) (successor program caller.point 0) ch h in
            let leaving : IsLeaving (does.Return a) q.0 = record { caller = caller; below = is; next = q.1; operand_ = a; is = refl } in
            subst (IsKind (does.Return a)) q.2 leaving

    computes_kind : (args : List ℕ) (ty : ℕ) (equal : Bool) → numbers.computes program thread w args ty equal ≡ Some ch → IsKind (does.Compute args ty equal) ch
    computes_kind args ty true h = gives_kind ch (does.Compute args ty true) (numbers.ids_equal (map (operand thread) args)) tt h
    computes_kind args ty false h = goes_kind ch (does.Compute args ty false) 0 (numbers.by_word program w (Some ty)) effect.Nothing tt tt h

    begins_kind : (f a : ℕ) (v : Value) → threads.begins program p w f v ≡ Some ch → IsKind (does.Create f a) ch
    begins_kind f a v h = by (nat_eq w 0) h
      where
        begun : (e : Changed) → option_map effect.Begin (calls.call_of program f (v ∷ [])) ≡ Some e → IsMade (does.Create f a) e
        begun e h =
            let call = mapped effect.Begin (calls.call_of program f (v ∷ [])) e h in
            let entry = mapped (λ e. record { function = f; entry = e; args = v ∷ [] }) (entry_of program f) call.0 call.1 in
            let is : IsMade (does.Create f a) (effect.Begin (record { function = f; entry = entry.0; args = v ∷ [] })) = (a, refl) in
            subst (IsMade (does.Create f a)) (ap effect.Begin entry.2 ∙ call.2) is

        by : (b : Bool) →
            (if b then goes program p 1 (Some (Number kind.Int (pos 11))) effect.Nothing else succeeds program p (option_map effect.Begin (calls.call_of program f (v ∷ [])))) ≡ Some ch →
            IsKind (does.Create f a) ch
        by true h = goes_kind ch (does.Create f a) 1 (Some (Number kind.Int (pos 11))) effect.Nothing tt tt h
        by false h = succeeds_kind ch (does.Create f a) (option_map effect.Begin (calls.call_of program f (v ∷ []))) tt begun h

    allocates_kind : (ty : ℕ) (count : Option ℕ) (zero : Bool) (r n : ℕ) (path : List CellStep) → births.allocates program s p w r zero n path ≡ Some ch → IsKind (does.Allocate ty count zero r) ch
    allocates_kind ty count zero r n path h = by (nat_eq w 0 || nat_eq n 0) h
      where
        by : (b : Bool) → (if b then gives program p (Some Null) else births.bears program s p r zero n path) ≡ Some ch → IsKind (does.Allocate ty count zero r) ch
        by true h = gives_kind ch (does.Allocate ty count zero r) (Some Null) tt h
        by false h = goes_kind ch (does.Allocate ty count zero r) 0 _ (effect.Bear (record { root = r; length = n; initial = births.first_of zero })) tt (ty, count, zero, refl) h

    frees_kind : (a : ℕ) (v : Option Value) → births.frees program p v ≡ Some ch → IsKind (does.Free a) ch
    frees_kind a None h = absurd (none-some ch h)
    frees_kind a (Some (Number k n)) h = absurd (none-some ch h)
    frees_kind a (Some (Pointer at)) h = changes_kind ch (does.Free a) (Some (effect.End at.part.object)) tt (λ e is. subst (IsMade (does.Free a)) (same_Some (effect.End at.part.object) e is) tt) h
    frees_kind a (Some (Function f)) h = absurd (none-some ch h)
    frees_kind a (Some Null) h = changes_kind ch (does.Free a) (Some effect.Nothing) tt (nothing_made ch (does.Free a)) h
    frees_kind a (Some (Id u)) h = absurd (none-some ch h)
    frees_kind a (Some Indeterminate) h = absurd (none-some ch h)

    scans_kind : (a : ℕ) (v : Option Value) → accesses.scans program s p w v ≡ Some ch → IsKind (does.Scan a) ch
    scans_kind a v h =
        let n = chained
        (λ n. if int_eq n (pos 0) then goes program p 0 (numbers.by_word program w (value_type_at program p)) effect.Nothing else option_and_then (accesses.scans_on program s) (pointer_in v))
        (number_in (places.value_through program.types s v)) ch h in
        by (int_eq n.0 (pos 0)) n.2
      where
        by : (b : Bool) →
            (if b then goes program p 0 (numbers.by_word program w (value_type_at program p)) effect.Nothing else option_and_then (accesses.scans_on program s) (pointer_in v)) ≡ Some ch →
            IsKind (does.Scan a) ch
        by true h = goes_kind ch (does.Scan a) 0 (numbers.by_word program w (value_type_at program p)) effect.Nothing tt tt h
        by false h =
            let at = chained (accesses.scans_on program s) (pointer_in v) ch h in
            let next = chained (λ next. stays_on next effect.Nothing) (places.moved_by program.types s at.0 (pos 1)) ch at.2 in
            stays_kind ch (does.Scan a) next.0 effect.Nothing tt tt tt next.2

    fills_kind : (action : Action) (named : List (List CellStep)) (v : Option Value) → RunsNot (effect_of action) → IsAccess (effect_of action) → fills.fills program s p named v ≡ Some ch →
        IsKind action ch
    fills_kind action named v runs access h =
        let e = chained (λ changed. option_map_or (λ next. stays_on next changed) (fills.absent_through program s named v) (changes program p (Some changed))) (fills.filled program s v) ch h in
        by e.0 (filled_made action v e.0 e.1) (fills.absent_through program s named v) e.2
      where
        by : (e : Changed) → IsMade action e → (next : Option PointerTo) → option_map_or (λ at. stays_on at e) next (changes program p (Some e)) ≡ Some ch → IsKind action ch
        by e made None h = goes_kind ch action 0 None e runs made h
        by e made (Some at) h = stays_kind ch action at e runs access made h

    -- what kind of change each action makes
    pub by_action : (action : Action) → change program s t thread w action ≡ Some ch → IsKind action ch
    by_action (does.Value number ty) h = gives_kind ch (does.Value number ty) (option_and_then (λ form. number_of_type form number) (form_of program.types ty)) tt h
    by_action (does.Null ty) h = gives_kind ch (does.Null ty) (Some Null) tt h
    by_action (does.Func f) h = gives_kind ch (does.Func f) (Some (Function f)) tt h
    by_action does.SelfId h = gives_kind ch does.SelfId (Some (Id (Some t))) tt h
    by_action (does.Root r) h = gives_kind ch (does.Root r) (pointed.pointer_to_root program s thread.frame r) tt h
    by_action (does.Text r) h = gives_kind ch (does.Text r) (pointed.pointer_to_root program s thread.frame r) tt h
    by_action (does.Field a k) h = gives_kind ch (does.Field a k) (pointed.member_of s (operand thread a) k) tt h
    by_action (does.Index a b into) h = gives_kind ch (does.Index a b into) (pointed.index_of program s into (operand thread a) (operand thread b)) tt h
    by_action (does.Read a raw) h = gives_kind ch (does.Read a raw) (places.value_through program.types s (operand thread a)) tt h
    by_action (does.Write a b raw) h =
        changes_kind ch (does.Write a b raw) (accesses.value_put s (operand thread a) (operand thread b)) tt (value_put_made (does.Write a b raw) (operand thread a) (operand thread b)) h
    by_action (does.SlotRead slot) h = gives_kind ch (does.SlotRead slot) (slice_get thread.frame.slots slot) tt h
    by_action (does.SlotWrite slot a) h =
        changes_kind ch (does.SlotWrite slot a) (option_map (effect.PutSlot slot) (operand thread a)) tt
        (λ e is. (let v = mapped (effect.PutSlot slot) (operand thread a) e is in subst (IsMade (does.SlotWrite slot a)) v.2 tt)) h
    by_action (does.Unary op a) h = gives_kind ch (does.Unary op a) (numbers.unary_value op (operand thread a)) tt h
    by_action (does.Binary op a b) h = gives_kind ch (does.Binary op a b) (numbers.binary_value program s op (operand thread a) (operand thread b)) tt h
    by_action (does.Compute args ty equal) h = computes_kind args ty equal h
    by_action (does.Convert a ty) h = gives_kind ch (does.Convert a ty) (numbers.converted_value program s a ty (operand thread a)) tt h
    by_action (does.Branch a) h =
        let holds = chained (λ holds. goes program p (if holds then 0 else 1) None effect.Nothing) (condition_in (operand thread a)) ch h in
        goes_kind ch (does.Branch a) (if holds.0 then 0 else 1) None effect.Nothing tt tt holds.2
    by_action (does.Switch a cases) h =
        let n = chained (λ n. goes program p (calls.case_of n cases) None effect.Nothing) (number_in (operand thread a)) ch h in
        goes_kind ch (does.Switch a cases) (calls.case_of n.0 cases) None effect.Nothing tt tt n.2
    by_action does.Skip h = changes_kind ch does.Skip (Some effect.Nothing) tt (nothing_made ch does.Skip) h
    by_action (does.Call f args) h = enters_kind ch (does.Call f args) f args h
    by_action (does.PointerCall a args) h =
        let f = chained (λ f. calls.enters program thread f args) (function_in (operand thread a)) ch h in
        enters_kind ch (does.PointerCall a args) f.0 args f.2
    by_action (does.Return None) h = returns_kind None None h
    by_action (does.Return (Some a)) h =
        let v = chained (λ v. calls.returns program t thread (Some v)) (operand thread a) ch h in
        returns_kind (Some a) (Some v.0) v.2
    by_action (does.Create f a) h = let v = chained (threads.begins program p w f) (operand thread a) ch h in begins_kind f a v.0 v.2
    by_action (does.StoreId a) h =
        changes_kind ch (does.StoreId a) (accesses.value_put s (operand thread a) (Some (Id thread.frame.created))) tt
        (value_put_made (does.StoreId a) (operand thread a) (Some (Id thread.frame.created))) h
    by_action (does.Join a) h =
        succeeds_kind ch (does.Join a) (option_map effect.Join (threads.thread_in (operand thread a))) tt
        (λ e is. (let u = mapped effect.Join (threads.thread_in (operand thread a)) e is in subst (IsMade (does.Join a)) u.2 tt)) h
    by_action (does.Detach a) h =
        succeeds_kind ch (does.Detach a) (option_map effect.Detach (threads.thread_in (operand thread a))) tt
        (λ e is. (let u = mapped effect.Detach (threads.thread_in (operand thread a)) e is in subst (IsMade (does.Detach a)) u.2 tt)) h
    by_action does.ExitThread h = subst (IsKind does.ExitThread) (same_Some EndThread ch h) tt
    by_action does.ExitProcess h = subst (IsKind does.ExitProcess) (same_Some EndProcess ch h) tt
    by_action (does.Lock a) h =
        succeeds_kind ch (does.Lock a) (locks.mutex_made program s (operand thread a) (mutex.Owned t)) tt (mutex_put_made (does.Lock a) (operand thread a) (mutex.Owned t)) h
    by_action (does.Unlock a) h = succeeds_kind ch (does.Unlock a) (locks.mutex_made program s (operand thread a) mutex.Free) tt (mutex_put_made (does.Unlock a) (operand thread a) mutex.Free) h
    by_action (does.Release c a) h =
        let there = chained (λ k. succeeds program p (locks.mutex_made program s (operand thread a) mutex.Free)) (places.condition_through program.types s (operand thread c)) ch h in
        succeeds_kind ch (does.Release c a) (locks.mutex_made program s (operand thread a) mutex.Free) tt (mutex_put_made (does.Release c a) (operand thread a) mutex.Free) there.2
    by_action (does.Retake a) h =
        changes_kind ch (does.Retake a) (locks.mutex_made program s (operand thread a) (mutex.Owned t)) tt (mutex_put_made (does.Retake a) (operand thread a) (mutex.Owned t)) h
    by_action (does.Init a) h = succeeds_kind ch (does.Init a) (locks.made_ready program s (operand thread a)) tt (ready_made (does.Init a) (operand thread a)) h
    by_action (does.Destroy a) h = succeeds_kind ch (does.Destroy a) (locks.made_unready program s (operand thread a)) tt (unready_made (does.Destroy a) (operand thread a)) h
    by_action (does.Signal a) h =
        let there = chained (λ k. succeeds program p (Some effect.Nothing)) (places.condition_through program.types s (operand thread a)) ch h in
        succeeds_kind ch (does.Signal a) (Some effect.Nothing) tt (nothing_made ch (does.Signal a)) there.2
    by_action (does.Allocate ty None zero r) h = allocates_kind ty None zero r 1 [] h
    by_action (does.Allocate ty (Some a) zero r) h =
        let many = chained (λ n. births.allocates program s p w r zero n (Index 0 ∷ [])) (option_and_then births.count_of (number_in (operand thread a))) ch h in
        allocates_kind ty (Some a) zero r many.0 (Index 0 ∷ []) many.2
    by_action (does.Free a) h = frees_kind a (operand thread a) h
    by_action (does.Scan a) h = scans_kind a (current thread a) h
    by_action (does.Fill a place named) h = fills_kind (does.Fill a place named) named (current thread a) tt tt h

  -- ---- successors

  -- where a thread goes on, it goes to a successor of its point
  pub goes_next : (action : Action) (going : Going) (q : ℕ) → change program s t thread w action ≡ Some (Goes going) → going.turn ≡ turn.To q → IsNext program p q
  goes_next action going q h to =
      let kind : IsGoing action going = by_action (Goes going) action h in
      let found : IsTurn action (turn.To q) = subst (IsTurn action) to kind.turns in
      has_got (next_of program p) found.0 q found.1

  -- and where it returns, to one of the point of the frame that called
  pub returns_next : (action : Action) (v : Option Value) (q : ℕ) (caller : Frame) → change program s t thread w action ≡ Some (Leave v q) →
      calls.caller_of thread ≡ Some caller → IsNext program caller.point q
  returns_next action v q caller h is =
      let kind : IsLeaving action q = by_action (Leave v q) action h in
      let same = same_Some kind.caller caller (sym kind.below ∙ is) in
      subst (λ (x : Frame). IsNext program x.point q) same (has_got (next_of program kind.caller.point) 0 q kind.next)
