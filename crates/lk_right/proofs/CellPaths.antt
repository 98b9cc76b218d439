-- Paths that differ in their indices alone: they have one place. Pointers that move in an array, and the cells that are filled one after
-- another, have such paths.
use Rattle.std.proofs.Common.{◌≡◌, ℕ, ◌+◌, ◌-◌, Bool, true, false, List, [], ◌∷◌, Option, None, Some, refl, sym, ap, subst, ◌∙◌}
use Rattle.std.proofs.lemmas.Option.{none-some, same_Some}
use Rattle.std.specs.List.{slice_get}
use Rattle.std.specs.Option.{option_and_then, option_map_or}
use Rattle.std.specs.Prelude.{map, if◌then◌else◌, nat_lt, ℤ}
use Rattle.lk_base.specs.declared.cell.CellStep.{CellStep}
use Rattle.lk_base.specs.declared.cell.CellStep.TheVariants as to
use Rattle.lk_cells.specs.Moves.{on_or_next, room_of, standing_at, moved, moved_position}
use Rattle.lk_cells.specs.Parts.{form_of, elements_of, part_at, sel_of}
use Rattle.lk_cells.specs.Places.{moved_by}
use Rattle.lk_cells.specs.declared.object.Object.{Object}
use Rattle.lk_cells.specs.declared.state.State.{State}
use Rattle.lk_change.specs.Fills.{first_index, next_index, index_after, next_path, next_absent, is_named}
use Rattle.lk_facts.specs.Labels.{LabelTable}
use Rattle.lk_facts.specs.declared.edge.Edge.{Edge}
use Rattle.lk_facts.specs.declared.label_entry.LabelName.{LabelName}
use Rattle.lk_facts.specs.declared.program.Program.{Program}
use Rattle.lk_right.proofs.Paths.{element_same, place_along}
use Rattle.lk_right.specs.Contexts.{Home}
use Rattle.lk_right.specs.Right.{IsPointerRight}
use Rattle.lk_types.specs.Table.{Table}
use Rattle.lk_types.specs.declared.c_type.CType.{CType}
use Rattle.lk_types.specs.declared.node.Sel.{Sel}
use Rattle.lk_values.proofs.Reasons.{mapped, chained}
use Rattle.lk_values.specs.Paths.{element_path}
use Rattle.lk_values.specs.Pointers.{pointer_to, pointer_past, position_of}
use Rattle.lk_values.specs.declared.cell.Pointer.{Pointer as PointerTo}

-- ---- paths

-- the place of a path: its steps, their indices forgotten
abbrev pub sels_of : List CellStep → List Sel
sels_of path = map sel_of path

-- the first elements have the same place
pub first_place : (path : List CellStep) → sels_of (map first_index path) ≡ sels_of path
first_place [] = refl
first_place (to.Field k ∷ path) = ap (λ xs. sel_of (to.Field k) ∷ xs) (first_place path)
first_place (to.Index i ∷ path) = ap (λ xs. sel_of (to.Index i) ∷ xs) (first_place path)

-- and so has the next element
index_place : (table : Table) (own t : ℕ) (st next : CellStep) → index_after table own t st ≡ Some next → sel_of next ≡ sel_of st
index_place table own t st next h = let there = chained (λ form. next_index own form st) (form_of table t) next h in by st there.0 there.2
  where
    counted : (i : ℕ) (b : Bool) → (if b then Some (to.Index (i + 1)) else None) ≡ Some next → sel_of next ≡ sel_of (to.Index i)
    counted i true h = ap sel_of (sym (same_Some (to.Index (i + 1)) next h))
    counted i false h = absurd (none-some next h)

    by : (st : CellStep) (form : CType) → next_index own form st ≡ Some next → sel_of next ≡ sel_of st
    by (to.Field k) form h = absurd (none-some next h)
    by (to.Index i) form h = counted i (nat_lt (i + 1) (option_map_or (λ elements. elements.count) (elements_of own form) 0)) h

-- and the next path
pub next_place : (table : Table) (own : ℕ) (path : List CellStep) (t : ℕ) (next : List CellStep) → next_path table own path t ≡ Some next → sels_of next ≡ sels_of path
next_place table own [] t next h = absurd (none-some next h)
next_place table own (st ∷ path) t next h = by (option_and_then (λ u. next_path table own path u) (part_at table own t st)) refl h (λ u others is. next_place table own path u others is)
  where
    by : (rest : Option (List CellStep)) → option_and_then (λ u. next_path table own path u) (part_at table own t st) ≡ rest →
        on_or_next st (index_after table own t st) (map first_index path) rest ≡ Some next → ((u : ℕ) (others : List CellStep) → next_path table own path u ≡ Some others → sels_of others ≡ sels_of path) →
        sels_of next ≡ sels_of (st ∷ path)
    by (Some others) is h on =
        let there = chained (λ u. next_path table own path u) (part_at table own t st) others is in
        ap sels_of (sym (same_Some (st ∷ others) next h)) ∙ ap (λ xs. sel_of st ∷ xs) (on there.0 others there.2)
    by None is h on =
        let turned = mapped (λ one. one ∷ map first_index path) (index_after table own t st) next h in
        ap sels_of (sym turned.2) ∙ (ap (λ x. x ∷ sels_of (map first_index path)) (index_place table own t st turned.0 turned.1) ∙ ap (λ xs. sel_of st ∷ xs) (first_place path))

-- and the next path that isn't named
pub absent_place : (table : Table) (own t : ℕ) (named more : List (List CellStep)) (path next : List CellStep) → next_absent table own t named more path ≡ Some next → sels_of next ≡ sels_of path
absent_place table own t named [] path next h = next_place table own path t next h
absent_place table own t named (one ∷ more) path next h =
    let there = chained (λ q. if is_named named q then next_absent table own t named more q else Some q) (next_path table own path t) next h in
    by there.0 (is_named named there.0) there.2 (λ k. absent_place table own t named more there.0 next k) ∙ next_place table own path t there.0 there.1
  where
    by : (q : List CellStep) (b : Bool) → (if b then next_absent table own t named more q else Some q) ≡ Some next → (next_absent table own t named more q ≡ Some next → sels_of next ≡ sels_of q) → sels_of next ≡ sels_of q
    by q true h on = on h
    by q false h on = ap sels_of (sym (same_Some q next h))

-- ---- pointers

-- two pointers lead to parts of one object that have one place
pub record HaveOnePlace (p q : PointerTo) : Type 0 where
  pub object : q.part.object ≡ p.part.object
  pub path : sels_of q.part.path ≡ sels_of p.part.path

standing_place : (p : PointerTo) (room position : ℕ) → HaveOnePlace p (standing_at p.part room position)
standing_place p room position = by (nat_lt position room)
  where
    by : (b : Bool) → HaveOnePlace p (if b then pointer_to p.part.object (element_path p.part.path position) else pointer_past p.part.object (element_path p.part.path (room - 1)))
    by true = record { object = refl; path = element_same p.part.path position }
    by false = record { object = refl; path = element_same p.part.path (room - 1) }

-- a pointer that is moved in its array keeps its place
pub moved_place : (table : Table) (object : Object) (p q : PointerTo) (n : ℤ) → moved table object p n ≡ Some q → HaveOnePlace p q
moved_place table object p q n h =
    let room = room_of table object p.part.path in
    let there = mapped (standing_at p.part room) (moved_position (position_of p) room n) q h in
    subst (HaveOnePlace p) there.2 (standing_place p room there.0)

pub moved_by_place : (table : Table) (s : State) (p q : PointerTo) (n : ℤ) → moved_by table s p n ≡ Some q → HaveOnePlace p q
moved_by_place table s p q n h =
    let there = chained (λ object. moved table object p n) (slice_get s.objects p.part.object) q h in
    moved_place table there.0 p q n there.2

module _ (program : Program) where
  -- where a pointer is right, each one of its place is
  pub right_of_place : (labels : LabelTable) (es : List Edge) (homes : List Home) (X : LabelName → Type 0) (d : List ℕ) (p q : PointerTo) → HaveOnePlace p q →
      IsPointerRight program labels es homes p X d → IsPointerRight program labels es homes q X d
  right_of_place labels es homes X d p q same right = record {
    home = right.home;
    lives_in = ap (λ o. slice_get homes o) same.object ∙ right.lives_in;
    origin = right.origin;
    place = place_along program right.home.root p.part.path q.part.path right.origin (sym same.path) right.place;
    held_by = right.held_by;
    is = right.is;
    aim = right.aim;
    aims = right.aims;
    flows = right.flows;
  }
