-- Pointers that go into what a pointer leads to, or move in their array.
use Rattle.std.proofs.Common.{◌≡◌, ℕ, true, false, List, Some, inl, inr, refl, ap, subst}
use Rattle.std.specs.Option.{option_and_then}
use Rattle.std.specs.Prelude.{ℤ, unwrap_or}
use Rattle.lk_arith.specs.declared.operators.Op.{Op}
use Rattle.lk_arith.specs.declared.operators.Op.TheVariants as op
use Rattle.lk_base.specs.declared.cell.CellStep.TheVariants as to
use Rattle.lk_base.specs.declared.kind.Kind.{Kind}
use Rattle.lk_base.specs.declared.kind.Kind.TheVariants as kind
use Rattle.lk_cells.specs.Operands.{operand, number_in, pointer_in}
use Rattle.lk_cells.specs.Places.{part_of, moved_by, element_of}
use Rattle.lk_cells.specs.declared.state.State.{State}
use Rattle.lk_cells.specs.declared.state.Thread.{Thread}
use Rattle.lk_change.specs.Pointers.{member_of, indexed, index_of}
use Rattle.lk_change.specs.declared.change.Change.{Change}
use Rattle.lk_facts.specs.EdgeRules.{value, target, IsEdge}
use Rattle.lk_facts.specs.EdgeRules.IsEdge.{row}
use Rattle.lk_facts.specs.Labels.{LabelTable}
use Rattle.lk_facts.specs.Typed.{IsForm, GivesForm, Moves, IsComparison, IsBinary}
use Rattle.lk_facts.specs.declared.action.Action.{Action}
use Rattle.lk_facts.specs.declared.action.Action.TheVariants as action
use Rattle.lk_facts.specs.declared.edge.Edge.{Edge}
use Rattle.lk_facts.specs.declared.edge.Mark.TheVariants.{Plain}
use Rattle.lk_facts.specs.declared.label_entry.LabelName.{LabelName}
use Rattle.lk_facts.specs.declared.program.Program.{Program}
use Rattle.lk_laws.specs.FlowLaws.{type_of}
use Rattle.lk_laws.specs.RowLaws.{HasPointer, Joins}
use Rattle.lk_right.proofs.Accessing.{part_leads, pointer_is}
use Rattle.lk_right.proofs.Carrying.{carried}
use Rattle.lk_right.proofs.Carrying.Crosses.{stays}
use Rattle.lk_right.proofs.CellPaths.{moved_by_place, right_of_place}
use Rattle.lk_right.proofs.Doing.{Acts, typed, joins, operand_right, gives_right}
use Rattle.lk_right.proofs.Pointers.{field_right, part_right}
use Rattle.lk_right.proofs.Sees.{value_form, has_pointer, sees_type, sees_form}
use Rattle.lk_right.specs.Changes.{IsChangeRight}
use Rattle.lk_right.specs.Contexts.{Contexts}
use Rattle.lk_right.specs.Laws.{IsAnalysed}
use Rattle.lk_right.specs.Right.{IsPointerRight, IsRight}
use Rattle.lk_types.specs.Table.{type_at}
use Rattle.lk_types.specs.Walks.{is_void}
use Rattle.lk_types.specs.declared.c_type.CType.TheVariants.{Void, Int, Array, Pointer as PointerType}
use Rattle.lk_values.proofs.Reasons.{mapped, chained}
use Rattle.lk_values.specs.Pointers.{into_array, into_member}
use Rattle.lk_values.specs.declared.cell.Cell.{Cell}
use Rattle.lk_values.specs.declared.cell.Pointer.{Pointer as PointerTo}
use Rattle.lk_values.specs.declared.value.Value.{Value}
use Rattle.lk_values.specs.declared.value.Value.TheVariants.{Pointer}

-- ---- operators that move pointers

module _ (program : Program) (labels : LabelTable) (es : List Edge) (ok : IsAnalysed program labels es) where
  -- a point whose value is a pointer gives no number
  no_number : (p : ℕ) → HasPointer program (value program p) → (k : Kind) → GivesForm program p (Int k) → ⊥
  no_number p has k gives = no_both (type_of program has.0) has.2.0 has.2.1 (value_form program labels es ok p (Int k) gives has.0 has.1)
    where
      no_both : (t u : ℕ) → IsForm program.types t (PointerType u) → IsForm program.types t (Int k) → ⊥
      no_both t u h g = absurd cc

  -- a comparison gives a number
  compared_gives : (a b p : ℕ) → IsComparison program a b p → HasPointer program (value program p) → ⊥
  compared_gives a b p (inl numbers) has = no_number p has kind.Int numbers.3
  compared_gives a b p (inr pointers) has = no_number p has kind.Int pointers.3

  -- an operator that gives a pointer moves one by a number
  pointer_moves : (o : Op) (a b p : ℕ) → IsBinary program o a b p → HasPointer program (value program p) → Moves program a b p
  pointer_moves op.Multiply a b p is has = absurd (no_number p has is.0 is.3)
  pointer_moves op.Divide a b p is has = absurd (no_number p has is.0 is.3)
  pointer_moves op.Remainder a b p is has = absurd (no_number p has is.0 is.3)
  pointer_moves op.Add a b p (inl alike) has = absurd (no_number p has alike.0 alike.3)
  pointer_moves op.Add a b p (inr moves) has = moves
  pointer_moves op.Subtract a b p (inl alike) has = absurd (no_number p has alike.0 alike.3)
  pointer_moves op.Subtract a b p (inr (inl moves)) has = moves
  pointer_moves op.Subtract a b p (inr (inr compares)) has = absurd (no_number p has kind.Long compares.3)
  pointer_moves op.ShiftLeft a b p is has = absurd (no_number p has is.0 is.3)
  pointer_moves op.ShiftRight a b p is has = absurd (no_number p has is.0 is.3)
  pointer_moves op.Less a b p is has = absurd (compared_gives a b p is has)
  pointer_moves op.Greater a b p is has = absurd (compared_gives a b p is has)
  pointer_moves op.LessOrEqual a b p is has = absurd (compared_gives a b p is has)
  pointer_moves op.GreaterOrEqual a b p is has = absurd (compared_gives a b p is has)
  pointer_moves op.Equal a b p is has = absurd (compared_gives a b p is has)
  pointer_moves op.NotEqual a b p is has = absurd (compared_gives a b p is has)
  pointer_moves op.And a b p is has = absurd (no_number p has is.0 is.3)
  pointer_moves op.Xor a b p is has = absurd (no_number p has is.0 is.3)
  pointer_moves op.Or a b p is has = absurd (no_number p has is.0 is.3)

-- ---- the steps

module _ (program : Program) (labels : LabelTable) (es : List Edge) (contexts : Contexts) (s : State) (t w f : ℕ) (thread : Thread) (cs : List (List ℕ)) (c : List ℕ) (ch : Change) where
  abbrev p : ℕ
  p = thread.frame.point

  abbrev Doing : Action → Type 0
  Doing act = Acts program labels es contexts s t w f thread cs c act ch

  abbrev Right : Type 0
  Right = IsChangeRight program labels es contexts t thread f cs c ch

  abbrev GivenRight : Value → Type 0
  GivenRight v = IsRight program labels es contexts.homes v (value program p) c

  abbrev PointerRight : PointerTo → ℕ → Type 0
  PointerRight at a = IsPointerRight program labels es contexts.homes at (value program a) c

  -- the pointer that an operand gave is right
  operand_points : (act : Action) (acts : Doing act) (a u : ℕ) (at : PointerTo) → GivesForm program a (PointerType u) → operand thread a ≡ Some (Pointer at) → PointerRight at a
  operand_points act acts a u at gives given = operand_right program labels es contexts s t w f thread cs c act ch acts a (Pointer at) given (has_pointer program labels es acts.ok a u gives)

  -- a pointer that moves in its array is right where it was
  moved_right : (at next : PointerTo) (n : ℤ) (a : ℕ) → moved_by program.types s at n ≡ Some next → PointerRight at a → PointerRight next a
  moved_right at next n a leads right = right_of_place program labels es contexts.homes (value program a) c at next (moved_by_place program.types s at next n leads) right

  -- a pointer to a member
  pub member_right : (a k : ℕ) → Doing (action.Field a k) → Right
  member_right a k acts = gives_right program labels es contexts s t w f thread cs c (action.Field a k) ch acts (member_of s (operand thread a) k) acts.does by
    where
      by : (v : Value) → member_of s (operand thread a) k ≡ Some v → GivenRight v
      by v is =
          let part = mapped (λ part. Pointer (into_member (record { part = part; past = false }) k)) (part_of s (operand thread a)) v is in
          let leads = part_leads s (operand thread a) part.0 part.1 in
          let takes = typed program labels es contexts s t w f thread cs c (action.Field a k) ch acts in
          let right = operand_points (action.Field a k) acts a takes.2.0 leads.pointer takes.2.1 leads.points in
          let no_void : is_void (type_at program.types takes.0) ≡ false = ap (λ o. is_void (unwrap_or o Void)) takes.3.1 in
          let seen = sees_type program labels es acts.ok contexts.homes a c leads.pointer right takes.0 takes.2 no_void in
          let gave = field_right program labels es acts.ok contexts.homes p f a k c acts.performs.stands acts.performs.at leads.pointer right seen in
          let own : GivenRight (Pointer (into_member (record { part = part.0; past = false }) k)) = λ has. subst (λ (x : Cell). PointerRight (into_member (record { part = x; past = false }) k) p) leads.to gave in
          subst GivenRight part.2 own

  -- a pointer to an element of an array
  pub element_right : (a b : ℕ) → Doing (action.Index a b true) → Right
  element_right a b acts = gives_right program labels es contexts s t w f thread cs c (action.Index a b true) ch acts (index_of program s true (operand thread a) (operand thread b)) acts.does by
    where
      by : (v : Value) → index_of program s true (operand thread a) (operand thread b) ≡ Some v → GivenRight v
      by v is =
          let act = action.Index a b true in
          let next = mapped Pointer (option_and_then (indexed program s true (operand thread a)) (number_in (operand thread b))) v is in
          let n = chained (indexed program s true (operand thread a)) (number_in (operand thread b)) next.0 next.1 in
          let part = chained (λ part. element_of program.types s part n.0) (part_of s (operand thread a)) next.0 n.2 in
          let leads = part_leads s (operand thread a) part.0 part.1 in
          let takes = typed program labels es contexts s t w f thread cs c act ch acts in
          let ends = joins program labels es contexts s t w f thread cs c act ch acts in
          let right = operand_points act acts a takes.2.0 leads.pointer takes.2.1 leads.points in
          let seen = sees_form program labels es acts.ok contexts.homes a c leads.pointer right (Array takes.0 takes.1) takes.2 refl in
          let first = part_right program labels es acts.ok contexts.homes p a c leads.pointer right seen (to.Index 0) refl ends.0.0 ends.1.0 ends.0.1 ends.1.1 (row p f act acts.performs.at acts.performs.stands (refl, ends.0.1, ends.1.1)) in
          let from = subst (λ (x : Cell). PointerRight (into_array (record { part = x; past = false })) p) leads.to first in
          let own : GivenRight (Pointer next.0) = λ has. moved_right (into_array (record { part = part.0; past = false })) next.0 n.0 p part.2 from in
          subst GivenRight next.2 own

  -- a pointer that moves is right for the point that gives it, where an edge joins the targets
  carried_on : (act : Action) (acts : Doing act) (a b : ℕ) (at next : PointerTo) (n : ℤ) → Moves program a b p → ((x y : LabelName) → target program a x → target program p y → IsEdge program x y Plain) → Joins program (target program a) (target program p) →
      operand thread a ≡ Some (Pointer at) → moved_by program.types s at n ≡ Some next → PointerRight next p
  carried_on act acts a b at next n moves edges ends given leads =
      let right = moved_right at next n a leads (operand_points act acts a moves.1.0 at moves.1.1 given) in
      let own : IsRight program labels es contexts.homes (Pointer next) (value program a) c = λ has. right in
      carried program labels es acts.ok Plain (value program a) (value program p) edges (λ has. ends) contexts.homes stays (Pointer next) own (has_pointer program labels es acts.ok p moves.3.0 moves.3.1)

  -- a pointer moved by a number of elements
  pub index_right : (a b : ℕ) → Doing (action.Index a b false) → Right
  index_right a b acts = gives_right program labels es contexts s t w f thread cs c (action.Index a b false) ch acts (index_of program s false (operand thread a) (operand thread b)) acts.does by
    where
      by : (v : Value) → index_of program s false (operand thread a) (operand thread b) ≡ Some v → GivenRight v
      by v is =
          let act = action.Index a b false in
          let next = mapped Pointer (option_and_then (indexed program s false (operand thread a)) (number_in (operand thread b))) v is in
          let n = chained (indexed program s false (operand thread a)) (number_in (operand thread b)) next.0 next.1 in
          let at = chained (λ at. moved_by program.types s at n.0) (pointer_in (operand thread a)) next.0 n.2 in
          let ends = joins program labels es contexts s t w f thread cs c act ch acts in
          let own : GivenRight (Pointer next.0) = λ has. carried_on act acts a b at.0 next.0 n.0 (typed program labels es contexts s t w f thread cs c act ch acts) (λ x y one two. row p f act acts.performs.at acts.performs.stands (refl, one, two)) ends
          (pointer_is (operand thread a) at.0 at.1) at.2 in
          subst GivenRight next.2 own

  -- a pointer that a binary operator moves, where its point gives one
  pub binary_moves : (o : Op) (a b : ℕ) → Doing (action.Binary o a b) → (at next : PointerTo) (n : ℤ) → operand thread a ≡ Some (Pointer at) → moved_by program.types s at n ≡ Some next →
      HasPointer program (value program p) → PointerRight next p
  binary_moves o a b acts at next n given leads has =
      let act = action.Binary o a b in
      let takes = typed program labels es contexts s t w f thread cs c act ch acts in
      let moves = pointer_moves program labels es acts.ok o a b p takes has in
      let ends = joins program labels es contexts s t w f thread cs c act ch acts has in
      carried_on act acts a b at next n moves (λ x y one two. row p f act acts.performs.at acts.performs.stands (refl, one, two)) ends given leads
