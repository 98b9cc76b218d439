-- Points that go from cell to cell: what they fill cells with is right, and the next cell has the place of the one before.
use Rattle.std.proofs.Common.{◌≡◌, ℕ, Bool, true, false, List, Option, None, Some, refl, sym, ap, subst, ◌∙◌}
use Rattle.std.proofs.lemmas.Option.{none-some, same_Some}
use Rattle.std.specs.List.{slice_get}
use Rattle.std.specs.Option.{option_and_then, option_map, option_map_or}
use Rattle.std.specs.Ordering.{int_eq}
use Rattle.std.specs.Prelude.{if◌then◌else◌, pos}
use Rattle.lk_arith.specs.Conversions.{convert}
use Rattle.lk_base.specs.declared.cell.CellStep.{CellStep}
use Rattle.lk_cells.specs.Cells.{zero_of, int_kind}
use Rattle.lk_cells.specs.Operands.{current, number_in, pointer_in}
use Rattle.lk_cells.specs.Parts.{form_of}
use Rattle.lk_cells.specs.Places.{part_of, value_through, moved_by, form_through, kind_through}
use Rattle.lk_cells.specs.declared.kind.CellKind.{CellKind}
use Rattle.lk_cells.specs.declared.kind.CellKind.TheVariants as cell
use Rattle.lk_cells.specs.declared.state.State.{State}
use Rattle.lk_cells.specs.declared.state.Thread.{Thread}
use Rattle.lk_change.specs.Accesses.{scans_on}
use Rattle.lk_change.specs.Fills.{filled, filled_of_kind, absent_through, absent_after, next_absent}
use Rattle.lk_change.specs.Going.{goes, changes, stays_on}
use Rattle.lk_change.specs.Numbers.{by_word}
use Rattle.lk_change.specs.declared.change.Change.{Change}
use Rattle.lk_change.specs.declared.change.Effect.{Effect}
use Rattle.lk_change.specs.declared.change.Effect.TheVariants as effect
use Rattle.lk_facts.specs.EdgeRules.{value}
use Rattle.lk_facts.specs.Effects.{accessed, effect_of}
use Rattle.lk_facts.specs.Labels.{LabelTable}
use Rattle.lk_facts.specs.Program.{value_type_at}
use Rattle.lk_facts.specs.Typed.{IsTyped}
use Rattle.lk_facts.specs.declared.action.Action.{Action}
use Rattle.lk_facts.specs.declared.action.Action.TheVariants as does
use Rattle.lk_facts.specs.declared.edge.Edge.{Edge}
use Rattle.lk_facts.specs.declared.label_entry.LabelName.{LabelName}
use Rattle.lk_facts.specs.declared.place.Place.{Place}
use Rattle.lk_facts.specs.declared.program.Program.{Program}
use Rattle.lk_right.proofs.CellPaths.{HaveOnePlace, sels_of, absent_place, moved_by_place, right_of_place}
use Rattle.lk_right.proofs.Doing.{Acts, typed, goes_right, stays_right}
use Rattle.lk_right.proofs.Accessing.{part_leads, pointer_is, through, current_pointer, put_right}
use Rattle.lk_right.proofs.Sees.{has_pointer}
use Rattle.lk_right.specs.Changes.{IsGivenRight, IsEffectRight, IsChangeRight}
use Rattle.lk_right.specs.Contexts.{Contexts, after_effect}
use Rattle.lk_right.specs.Right.{IsPlaceAt, IsPointerRight, IsRight}
use Rattle.lk_types.specs.Table.{Table}
use Rattle.lk_types.specs.declared.c_type.CType.{CType}
use Rattle.lk_types.specs.declared.c_type.CType.TheVariants.{Void, Int, ThreadId, Mutex, Cond, Array, Struct, Function as FunctionType, Opaque, Pointer as PointerType}
use Rattle.lk_values.proofs.Reasons.{mapped, chained}
use Rattle.lk_values.specs.Pointers as pointers
use Rattle.lk_values.specs.declared.cell.Cell.{Cell}
use Rattle.lk_values.specs.declared.cell.Pointer.{Pointer as PointerTo}
use Rattle.lk_values.specs.declared.value.Condition.TheVariants as condition
use Rattle.lk_values.specs.declared.value.Mutex.TheVariants as mutex
use Rattle.lk_values.specs.declared.value.Value.{Value}
use Rattle.lk_values.specs.declared.value.Value.TheVariants.{Number, Pointer, Null, Thread as Id}

module _ (program : Program) (labels : LabelTable) (es : List Edge) (contexts : Contexts) (s : State) (t w f : ℕ) (thread : Thread) (cs : List (List ℕ)) (c : List ℕ) where
  abbrev table : Table
  table = program.types

  abbrev p : ℕ
  p = thread.frame.point

  abbrev Right : (LabelName → Type 0) → List ℕ → Value → Type 0
  Right X d v = IsRight program labels es contexts.homes v X d

  -- what an effect puts is right
  abbrev Puts-right : Effect → Type 0
  Puts-right e = IsEffectRight program labels es (after_effect program t p c contexts e).homes p f c e

  -- a number by the word is no pointer
  word_right : (ty : Option ℕ) → IsGivenRight program labels es contexts.homes (by_word program w ty) p c
  word_right ty = by (by_word program w ty) refl
    where
      by : (o : Option Value) → by_word program w ty ≡ o → IsGivenRight program labels es contexts.homes o p c
      by None is = tt
      by (Some v) is = let there = mapped (λ k. Number k (convert k (pos w))) (option_and_then int_kind (option_and_then (form_of table) ty)) v is in subst (Right (value program p) c) there.2 tt

  -- what fills a cell is no pointer
  zero_right : (form : CType) (v : Value) (X : LabelName → Type 0) (d : List ℕ) → zero_of form ≡ Some v → Right X d v
  zero_right Void v X d h = absurd (none-some v h)
  zero_right (Int kind) v X d h = subst (Right X d) (same_Some (Number kind (pos 0)) v h) tt
  zero_right ThreadId v X d h = subst (Right X d) (same_Some (Id None) v h) tt
  zero_right Mutex v X d h = absurd (none-some v h)
  zero_right Cond v X d h = absurd (none-some v h)
  zero_right (PointerType u) v X d h = subst (Right X d) (same_Some Null v h) tt
  zero_right (Array u n) v X d h = absurd (none-some v h)
  zero_right (Struct n) v X d h = absurd (none-some v h)
  zero_right (FunctionType result params dots) v X d h = absurd (none-some v h)
  zero_right (Opaque n) v X d h = absurd (none-some v h)

  -- what fills a cell is right, and leaves the homes
  record Fills (e : Effect) : Type 0 where
    homes : (after_effect program t p c contexts e).homes ≡ contexts.homes
    right : Puts-right e

  module _ (ch : Change) where
    abbrev Acts-as : Action → Type 0
    Acts-as action = Acts program labels es contexts s t w f thread cs c action ch

    abbrev Change-right : Type 0
    Change-right = IsChangeRight program labels es contexts t thread f cs c ch

    -- it stays, and comes next to a cell for its operand
    stays_at : (action : Action) (a : ℕ) (next : PointerTo) (e : Effect) → Acts-as action → accessed (effect_of action) ≡ Some a → stays_on next e ≡ Some ch → Fills e → IsPointerRight program labels es contexts.homes next (value program a) c → Change-right
    stays_at action a next e acts accesses h fills right =
        stays_right program labels es contexts s t w f thread cs c action ch acts next e h
        (λ b other. (let same = same_Some a b (sym accesses ∙ (sym (through program labels es contexts s t w f thread cs c action ch acts) ∙ other)) in
        subst (λ x. IsPointerRight program labels es (after_effect program t p c contexts e).homes next (value program x) c) same (subst (λ homes. IsPointerRight program labels es homes next (value program a) c) (sym fills.homes) right)))
        fills.right

    -- the next character of a text
    pub scan_acts : (a : ℕ) → Acts-as (does.Scan a) → Change-right
    scan_acts a acts =
        let number = chained (λ n. if int_eq n (pos 0) then goes program p 0 (by_word program w (value_type_at program p)) effect.Nothing else option_and_then (scans_on program s) (pointer_in (current thread a))) (number_in (value_through table s (current thread a))) ch acts.does in
        by (int_eq number.0 (pos 0)) number.2
      where
        takes : IsTyped program p f (does.Scan a)
        takes = typed program labels es contexts s t w f thread cs c (does.Scan a) ch acts

        by : (b : Bool) → (if b then goes program p 0 (by_word program w (value_type_at program p)) effect.Nothing else option_and_then (scans_on program s) (pointer_in (current thread a))) ≡ Some ch → Change-right
        by true h = goes_right program labels es contexts s t w f thread cs c (does.Scan a) ch acts 0 (by_word program w (value_type_at program p)) effect.Nothing h (word_right (value_type_at program p)) tt
        by false h =
            let from = chained (scans_on program s) (pointer_in (current thread a)) ch h in
            let next = chained (λ q. stays_on q effect.Nothing) (moved_by table s from.0 (pos 1)) ch from.2 in
            let right = current_pointer program labels es contexts s t w f thread cs c (does.Scan a) ch acts a from.0 (has_pointer program labels es acts.ok a takes.0.0 takes.0.1) (through program labels es contexts s t w f thread cs c (does.Scan a) ch acts) (pointer_is (current thread a) from.0 from.1) in
            stays_at (does.Scan a) a next.0 effect.Nothing acts refl next.2 (record { homes = refl; right = tt }) (right_of_place program labels es contexts.homes (value program a) c from.0 next.0 (moved_by_place table s from.0 next.0 (pos 1) next.1) right)

    -- the next cell of an object that is filled
    pub fill_acts : (a : ℕ) (place : Place) (named : List (List CellStep)) → Acts-as (does.Fill a place named) → Change-right
    fill_acts a place named acts =
        let changed = chained (λ e. option_map_or (λ next. stays_on next e) (absent_through program s named v) (changes program p (Some e))) (filled program s v) ch acts.does in
        by changed.0 (filled_right changed.0 changed.1) (absent_through program s named v) refl changed.2
      where
        v : Option Value
        v = current thread a

        takes : IsTyped program p f (does.Fill a place named)
        takes = typed program labels es contexts s t w f thread cs c (does.Fill a place named) ch acts

        from : (pointer : PointerTo) → v ≡ Some (Pointer pointer) → IsPointerRight program labels es contexts.homes pointer (value program a) c
        from pointer h = current_pointer program labels es contexts s t w f thread cs c (does.Fill a place named) ch acts a pointer (has_pointer program labels es acts.ok a takes.0.0 takes.0.1) (through program labels es contexts s t w f thread cs c (does.Fill a place named) ch acts) h

        filled_right : (e : Effect) → filled program s v ≡ Some e → Fills e
        filled_right e h =
            let part = chained (λ x. option_and_then (filled_of_kind (option_and_then zero_of (form_through table s v)) x) (kind_through table s v)) (part_of s v) e h in
            let kind = chained (filled_of_kind (option_and_then zero_of (form_through table s v)) part.0) (kind_through table s v) e part.2 in
            by part.0 part.1 kind.0 kind.2
          where
            by : (part : Cell) → part_of s v ≡ Some part → (kind : CellKind) → filled_of_kind (option_and_then zero_of (form_through table s v)) part kind ≡ Some e → Fills e
            by part is cell.Value h =
                let given = mapped (effect.PutValue part) (option_and_then zero_of (form_through table s v)) e h in
                let form = chained zero_of (form_through table s v) given.0 given.1 in
                let leads = part_leads s v part is in
                let right = from leads.pointer leads.points in
                let zero = zero_right form.0 given.0 (IsPlaceAt program right.home.root leads.pointer.part.path) right.home.context form.2 in
                subst Fills given.2 (record { homes = refl; right = put_right program labels es contexts s t w f thread cs c (does.Fill a place named) ch acts a leads.pointer part given.0 right leads.to zero })
            by part is cell.Mutex h = subst Fills (same_Some (effect.PutMutex part mutex.Free) e h) (record { homes = refl; right = tt })
            by part is cell.Condition h = subst Fills (same_Some (effect.PutCondition part condition.Ready) e h) (record { homes = refl; right = tt })

        -- the next cell has the place of the one before
        next_right : (next : PointerTo) → absent_through program s named v ≡ Some next → IsPointerRight program labels es contexts.homes next (value program a) c
        next_right next h =
            let part = chained (absent_after program s named) (part_of s v) next h in
            let object = chained (λ x. option_map (pointers.pointer_to part.0.object) (next_absent table x.length x.ty named named part.0.path)) (slice_get s.objects part.0.object) next part.2 in
            let path = mapped (pointers.pointer_to part.0.object) (next_absent table object.0.length object.0.ty named named part.0.path) next object.2 in
            let leads = part_leads s v part.0 part.1 in
            let same : HaveOnePlace leads.pointer next = record {
              object = ap (λ (q : PointerTo). q.part.object) (sym path.2) ∙ ap (λ (x : Cell). x.object) (sym leads.to);
              path = ap (λ (q : PointerTo). sels_of q.part.path) (sym path.2) ∙ (absent_place table object.0.length object.0.ty named named part.0.path path.0 path.1 ∙ ap (λ (x : Cell). sels_of x.path) (sym leads.to));
            } in
            right_of_place program labels es contexts.homes (value program a) c leads.pointer next same (from leads.pointer leads.points)

        by : (e : Effect) → Fills e → (o : Option PointerTo) → absent_through program s named v ≡ o → option_map_or (λ next. stays_on next e) o (changes program p (Some e)) ≡ Some ch → Change-right
        by e fills None is h = goes_right program labels es contexts s t w f thread cs c (does.Fill a place named) ch acts 0 None e h tt fills.right
        by e fills (Some next) is h = stays_at (does.Fill a place named) a next e acts refl h fills (next_right next is)
