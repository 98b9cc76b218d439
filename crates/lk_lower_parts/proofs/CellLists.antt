-- Cells part by part, and root by root.
use Rattle.std.proofs.Common.{arith, ap, sym, subst, ◌∙◌, ◌≡◌, ◌<◌, ◌≤◌, ◌+◌, ◌++◌, ◌⊎◌, inl, inr, ℕ, Bool, true, false, List, [], ◌∷◌, length, slice_get, get_or, take, Some, None, Contains, Result, Ok, Err, refl}
use Rattle.std.proofs.lemmas.Bool.{cases_lt, both_ways, false≢true}
use Rattle.std.proofs.lemmas.List.{length_push, take_more}
use Rattle.std.proofs.lemmas.List.Elements.{Contains-append_left, Contains-push, Contains-push_cases}
use Rattle.std.proofs.lemmas.Option.{same_Some}
use Rattle.std.specs.Result.{OnOk}
use Rattle.lk_base.specs.declared.kind.Kind.{Kind}
use Rattle.lk_facts.specs.LabelRules.{IsStart, IsWithin, Steps, form_of, is_function}
use Rattle.lk_facts.specs.LabelRules.IsWithin.{start as within_start}
use Rattle.lk_facts.specs.Program.{place_of}
use Rattle.lk_facts.specs.declared.place.Place.{Place}
use Rattle.lk_facts.specs.declared.root.Root.{Root}
use Rattle.lk_lower_parts.proofs.Reached.{one_step, reached_alone, reached_element, reached_member, reached_within, within_reached}
use Rattle.lk_lower_parts.specs.Within.{Adds, AddsCells, AreCells, IsInInner, IsInMembers, IsInPart, IsInRoot, IsInRoots, Reaches, count_of_cells, has_cells}
use Rattle.lk_lower_parts.specs.Within.Reaches.{itself, by_element, by_field}
use Rattle.lk_lower_parts.specs.declared.places.Cells.{Cells}
use Rattle.lk_lower_parts.specs.declared.places.PartOf.{PartOf}
use Rattle.lk_types.specs.Nodes.{IsNode, node_of, first, element_of}
use Rattle.lk_types.specs.Objects.{is_mutex, is_value}
use Rattle.lk_types.specs.Table.{Table, fields_of}
use Rattle.lk_types.specs.declared.c_type.CType.{CType}
use Rattle.lk_types.specs.declared.c_type.CType.TheVariants.{Void, Int, ThreadId, Mutex, Cond, Pointer, Array, Struct, Function, Opaque}
use Rattle.lk_types.specs.declared.node.Base.TheVariants.{Start}
use Rattle.lk_types.specs.declared.node.Sel.{Sel}
use Rattle.lk_types.specs.declared.node.Sel.TheVariants.{Element, Field}

-- what follows from two facts of one `Ok`
pub both_ok : {T E P Q R : Type 0} (r : Result T E) → (P → Q → R) → OnOk r P → OnOk r Q → OnOk r R
both_ok (Ok x) f p q = f p q
both_ok (Err e) f p q = tt

-- a form of neither kind that no element and no member stands below
abbrev pub is_other : CType → Bool
is_other Void = true
is_other (Int kind) = false
is_other ThreadId = false
is_other Mutex = false
is_other Cond = true
is_other (Pointer t) = false
is_other (Array t n) = false
is_other (Struct s) = false
is_other (Function result params dots) = true
is_other (Opaque n) = true

-- what the arms of a match tell of a form
pub value_from : {form : CType} → ((kind : Kind) × (form ≡ Int kind)) ⊎ ((form ≡ ThreadId) ⊎ ((t : ℕ) × (form ≡ Pointer t))) → is_value form ≡ true
value_from (inl int) = ap is_value int.1
value_from (inr (inl id)) = ap is_value id
value_from (inr (inr pointer)) = ap is_value pointer.1

pub other_from : {form : CType} → (form ≡ Void) ⊎ ((form ≡ Cond) ⊎ (((result : ℕ) × (params : List ℕ) × (dots : Bool) × (form ≡ Function result params dots)) ⊎ ((n : ℕ) × (form ≡ Opaque n)))) → is_other form ≡ true
other_from (inl void) = ap is_other void
other_from (inr (inl cond)) = ap is_other cond
other_from (inr (inr (inl function))) = ap is_other function.3
other_from (inr (inr (inr opaque))) = ap is_other opaque.1

module _ (table : Table) where
  -- ---- what a form that passes a test has below it

  pub value_alone : (form : CType) → is_value form ≡ true → (element_of form ≡ None) × (fields_of table form ≡ []) × (is_mutex form ≡ false)
  value_alone Void is = absurd (false≢true is)
  value_alone (Int kind) is = (refl, refl, refl)
  value_alone ThreadId is = (refl, refl, refl)
  value_alone Mutex is = absurd (false≢true is)
  value_alone Cond is = absurd (false≢true is)
  value_alone (Pointer t) is = (refl, refl, refl)
  value_alone (Array t n) is = absurd (false≢true is)
  value_alone (Struct s) is = absurd (false≢true is)
  value_alone (Function result params dots) is = absurd (false≢true is)
  value_alone (Opaque n) is = absurd (false≢true is)

  -- ---- lists of one kind

  module _ (test : CType → Bool) where
    abbrev Passes : Place → Type 0
    Passes place = test (form_of table place.node) ≡ true

    adds_none : (IsOne : Place → Type 0) (all : ℕ) (xs : List Place) → (all ≤ 65536 → (place : Place) → IsOne place → Passes place → ⊥) → Adds table test IsOne all xs xs
    adds_none IsOne all xs none = record {
      longer = omega arith;
      kept = λ place was. was;
      only = λ place was. inl was;
      each = λ few place is passes. absurd (none few place is passes);
    }

    adds_one : (IsOne : Place → Type 0) (all : ℕ) (one : Place) (old new : List Place) → new ≡ old ++ one ∷ [] → IsOne one → Passes one → ((place : Place) → IsOne place → place ≡ one) → Adds table test IsOne all old new
    adds_one IsOne all one old new is is_one passes same = record {
      longer = omega (arith, ap length is, length_push old one);
      kept = λ place was. subst (λ xs. Contains xs place) (sym is) (Contains-append_left old (one ∷ []) place was);
      only = λ place there. elim (Contains-push_cases old one place (subst (λ xs. Contains xs place) is there)) [
        | inl was ↦ inl was
        | inr equal ↦ inr (subst IsOne equal is_one, subst Passes equal passes)
      ];
      each = λ few place is_place pass. subst (Contains new) (sym (same place is_place)) (subst (λ xs. Contains xs one) (sym is) (Contains-push old one));
    }

    adds_as : (IsOne Is : Place → Type 0) (all : ℕ) (old new : List Place) → ((place : Place) → IsOne place → Is place) → ((place : Place) → Is place → Passes place → IsOne place) → Adds table test IsOne all old new → Adds table test Is all old new
    adds_as IsOne Is all old new on back adds = record {
      longer = adds.longer;
      kept = adds.kept;
      only = λ place there. elim (adds.only place there) [ inl was ↦ inl was | inr put ↦ inr (on place put.0, put.1) ];
      each = λ few place is passes. adds.each few place (back place is passes) passes;
    }

    adds_then : (IsOne Is IsEither : Place → Type 0) (all more : ℕ) (a b c : List Place) → (more ≤ 65536 → all ≤ 65536) → ((place : Place) → IsOne place → IsEither place) → ((place : Place) → Is place → IsEither place) →
        ((place : Place) → IsEither place → IsOne place ⊎ Is place) → Adds table test IsOne all a b → Adds table test Is more b c → Adds table test IsEither more a c
    adds_then IsOne Is IsEither all more a b c few left right either before adds = record {
      longer = omega (arith, before.longer, adds.longer);
      kept = λ place was. adds.kept place (before.kept place was);
      only = λ place there. elim (adds.only place there) [
        | inl was ↦ elim (before.only place was) [ inl old ↦ inl old | inr put ↦ inr (left place put.0, put.1) ]
        | inr put ↦ inr (right place put.0, put.1)
      ];
      each = λ fits place is passes. elim (either place is) [
        | inl one ↦ adds.kept place (before.each (few fits) place one passes)
        | inr other ↦ adds.each fits place other passes
      ];
    }

  -- ---- both kinds

  pub cells_none : (IsOne : Place → Type 0) (cells : Cells) → (count_of_cells cells ≤ 65536 → (place : Place) → IsOne place → (is_value (form_of table place.node) ≡ true) ⊎ (is_mutex (form_of table place.node) ≡ true) → ⊥) → AddsCells table IsOne cells cells
  cells_none IsOne cells none = record {
    values = adds_none is_value IsOne (count_of_cells cells) cells.values.items (λ few place is passes. none few place is (inl passes));
    locks = adds_none is_mutex IsOne (count_of_cells cells) cells.locks.items (λ few place is passes. none few place is (inr passes));
  }

  pub cells_full : (IsOne : Place → Type 0) (cells : Cells) → 65536 < count_of_cells cells → AddsCells table IsOne cells cells
  cells_full IsOne cells full = cells_none IsOne cells (λ few place is either. absurd (omega (arith, full, few)))

  pub cells_as : (IsOne Is : Place → Type 0) (old new : Cells) → ((place : Place) → IsOne place → Is place) →
      ((place : Place) → Is place → (is_value (form_of table place.node) ≡ true) ⊎ (is_mutex (form_of table place.node) ≡ true) → IsOne place) → AddsCells table IsOne old new → AddsCells table Is old new
  cells_as IsOne Is old new on back adds = record {
    values = adds_as is_value IsOne Is (count_of_cells new) old.values.items new.values.items on (λ place is passes. back place is (inl passes)) adds.values;
    locks = adds_as is_mutex IsOne Is (count_of_cells new) old.locks.items new.locks.items on (λ place is passes. back place is (inr passes)) adds.locks;
  }

  pub cells_then : (IsOne Is IsEither : Place → Type 0) (a b c : Cells) → ((place : Place) → IsOne place → IsEither place) → ((place : Place) → Is place → IsEither place) → ((place : Place) → IsEither place → IsOne place ⊎ Is place) →
      AddsCells table IsOne a b → AddsCells table Is b c → AddsCells table IsEither a c
  cells_then IsOne Is IsEither a b c left right either before adds = record {
    values = adds_then is_value IsOne Is IsEither (count_of_cells b) (count_of_cells c) a.values.items b.values.items c.values.items few left right either before.values adds.values;
    locks = adds_then is_mutex IsOne Is IsEither (count_of_cells b) (count_of_cells c) a.locks.items b.locks.items c.locks.items few left right either before.locks adds.locks;
  }
    where
      few : count_of_cells c ≤ 65536 → count_of_cells b ≤ 65536
      few fits = omega (arith, fits, adds.values.longer, adds.locks.longer)

  -- ---- a part, by its form

  pub value_put : (part : PartOf) (old new : Cells) (form : CType) → form_of table part.node ≡ form → is_value form ≡ true → new.values.items ≡ old.values.items ++ place_of part.root part.node ∷ [] → new.locks.items ≡ old.locks.items →
      AddsCells table (IsInPart table part) old new
  value_put part old new form is passes put same = record {
    values = adds_one is_value (IsInPart table part) (count_of_cells new) (place_of part.root part.node) old.values.items new.values.items put (refl, itself) (ap is_value is ∙ passes) one;
    locks = subst (Adds table is_mutex (IsInPart table part) (count_of_cells new) old.locks.items) (sym same) (adds_none is_mutex (IsInPart table part) (count_of_cells new) old.locks.items (λ few place here passes_too. no_lock place here passes_too));
  }
    where
      alone : (element_of (form_of table part.node) ≡ None) × (fields_of table (form_of table part.node) ≡ []) × (is_mutex (form_of table part.node) ≡ false)
      alone = value_alone (form_of table part.node) (ap is_value is ∙ passes)

      one_node : (place : Place) → IsInPart table part place → place.node ≡ part.node
      one_node place here = reached_alone table alone.0 (λ isnt. alone.1) here.1

      one : (place : Place) → IsInPart table part place → place ≡ place_of part.root part.node
      one place here = ap (λ r. place_of r place.node) here.0 ∙ ap (place_of part.root) (one_node place here)

      no_lock : (place : Place) → IsInPart table part place → is_mutex (form_of table place.node) ≡ true → ⊥
      no_lock place here passes_too = both_ways (is_mutex (form_of table part.node)) alone.2 (subst (λ n. is_mutex (form_of table n) ≡ true) (one_node place here) passes_too)

  pub lock_put : (part : PartOf) (old new : Cells) (form : CType) → form_of table part.node ≡ form → form ≡ Mutex → new.values.items ≡ old.values.items → new.locks.items ≡ old.locks.items ++ place_of part.root part.node ∷ [] →
      AddsCells table (IsInPart table part) old new
  lock_put part old new form was mutex same put = record {
    values = subst (Adds table is_value (IsInPart table part) (count_of_cells new) old.values.items) (sym same) (adds_none is_value (IsInPart table part) (count_of_cells new) old.values.items (λ few place here passes. no_value place here passes));
    locks = adds_one is_mutex (IsInPart table part) (count_of_cells new) (place_of part.root part.node) old.locks.items new.locks.items put (refl, itself) (ap is_mutex is) one;
  }
    where
      is : form_of table part.node ≡ Mutex
      is = was ∙ mutex

      one_node : (place : Place) → IsInPart table part place → place.node ≡ part.node
      one_node place here = reached_alone table (ap element_of is) (λ isnt. ap (fields_of table) is) here.1

      one : (place : Place) → IsInPart table part place → place ≡ place_of part.root part.node
      one place here = ap (λ r. place_of r place.node) here.0 ∙ ap (place_of part.root) (one_node place here)

      no_value : (place : Place) → IsInPart table part place → is_value (form_of table place.node) ≡ true → ⊥
      no_value place here passes = both_ways (is_value (form_of table part.node)) (ap is_value is) (subst (λ n. is_value (form_of table n) ≡ true) (one_node place here) passes)

  abbrev IsAlone : CType → Type 0
  IsAlone form = (element_of form ≡ None) × (is_function form ≡ false → fields_of table form ≡ []) × (is_value form ≡ false) × (is_mutex form ≡ false)

  other_alone : (form : CType) → is_other form ≡ true → IsAlone form
  other_alone Void is = (refl, λ isnt. refl, refl, refl)
  other_alone (Int kind) is = absurd (false≢true is)
  other_alone ThreadId is = absurd (false≢true is)
  other_alone Mutex is = absurd (false≢true is)
  other_alone Cond is = (refl, λ isnt. refl, refl, refl)
  other_alone (Pointer t) is = absurd (false≢true is)
  other_alone (Array t n) is = absurd (false≢true is)
  other_alone (Struct s) is = absurd (false≢true is)
  other_alone (Function result params dots) is = (refl, λ isnt. absurd (false≢true (sym isnt)), refl, refl)
  other_alone (Opaque n) is = (refl, λ isnt. refl, refl, refl)

  pub other_put : (part : PartOf) (cells : Cells) (form : CType) → form_of table part.node ≡ form → is_other form ≡ true → AddsCells table (IsInPart table part) cells cells
  other_put part cells form is other = cells_none (IsInPart table part) cells none
    where
      alone : IsAlone (form_of table part.node)
      alone = other_alone (form_of table part.node) (ap is_other is ∙ other)

      none : count_of_cells cells ≤ 65536 → (place : Place) → IsInPart table part place → (is_value (form_of table place.node) ≡ true) ⊎ (is_mutex (form_of table place.node) ≡ true) → ⊥
      none few place here either =
          let same : place.node ≡ part.node = reached_alone table alone.0 alone.1 here.1 in
          elim either [
            | inl value ↦ both_ways (is_value (form_of table part.node)) alone.2 (subst (λ n. is_value (form_of table n) ≡ true) same value)
            | inr mutex ↦ both_ways (is_mutex (form_of table part.node)) alone.3 (subst (λ n. is_mutex (form_of table n) ≡ true) same mutex)
          ]

  -- the part itself is no cell
  no_cell : (part : PartOf) (place : Place) → is_value (form_of table part.node) ≡ false → is_mutex (form_of table part.node) ≡ false → place.node ≡ part.node → (is_value (form_of table place.node) ≡ true) ⊎ (is_mutex (form_of table place.node) ≡ true) → ⊥
  no_cell part place no_value no_mutex same either = elim either [
    | inl value ↦ both_ways (is_value (form_of table part.node)) no_value (subst (λ n. is_value (form_of table n) ≡ true) same value)
    | inr mutex ↦ both_ways (is_mutex (form_of table part.node)) no_mutex (subst (λ n. is_mutex (form_of table n) ≡ true) same mutex)
  ]

  pub array_put : (part : PartOf) (old new : Cells) (form : CType) (t n : ℕ) → form_of table part.node ≡ form → form ≡ Array t n → AddsCells table (IsInInner table part Element) old new → AddsCells table (IsInPart table part) old new
  array_put part old new form t n was array adds =
      cells_as (IsInInner table part Element) (IsInPart table part) old new (λ place here. (here.0, by_element part.node here.1.0 here.1.1 here.1.2)) back adds
    where
      is : form_of table part.node ≡ Array t n
      is = was ∙ array

      back : (place : Place) → IsInPart table part place → (is_value (form_of table place.node) ≡ true) ⊎ (is_mutex (form_of table place.node) ≡ true) → IsInInner table part Element place
      back place here either = elim (reached_element table (ap (fields_of table) is) here.1) [
        | inl same ↦ absurd (no_cell part place (ap is_value is) (ap is_mutex is) same either)
        | inr below ↦ (here.0, below)
      ]

  pub struct_put : (part : PartOf) (old new : Cells) (form : CType) (s count : ℕ) → form_of table part.node ≡ form → form ≡ Struct s → count ≡ length (fields_of table (Struct s)) → AddsCells table (IsInMembers table part count) old new →
      AddsCells table (IsInPart table part) old new
  struct_put part old new form s count was struct counts adds =
      cells_as (IsInMembers table part count) (IsInPart table part) old new (λ place here. (here.0, by_field part.node here.1.1 here.1.0 (ap is_function is) here.1.3 here.1.4)) back adds
    where
      is : form_of table part.node ≡ Struct s
      is = was ∙ struct

      back : (place : Place) → IsInPart table part place → (is_value (form_of table place.node) ≡ true) ⊎ (is_mutex (form_of table place.node) ≡ true) → IsInMembers table part count place
      back place here either = elim (reached_member table (ap element_of is) here.1) [
        | inl same ↦ absurd (no_cell part place (ap is_value is) (ap is_mutex is) same either)
        | inr below ↦ (here.0, (below.0, below.1, subst (λ n. below.0 < n) (ap (λ f. length (fields_of table f)) is ∙ sym counts) below.2, below.3, below.4))
      ]

  -- ---- a step, and members one by one

  pub inner_put : (part inner : PartOf) (sel : Sel) (old new : Cells) → inner.root ≡ part.root → Steps table part.node sel inner.node → AddsCells table (IsInPart table inner) old new → AddsCells table (IsInInner table part sel) old new
  inner_put part inner sel old new root to adds =
      cells_as (IsInPart table inner) (IsInInner table part sel) old new (λ place here. (here.0 ∙ root, (inner.node, to, here.1)))
      (λ place here either. (here.0 ∙ sym root, subst (Reaches table place.node) (one_step table part.node here.1.0 inner.node sel here.1.1 to) here.1.2)) adds

  pub no_members : (part : PartOf) (cells : Cells) → AddsCells table (IsInMembers table part 0) cells cells
  no_members part cells = cells_none (IsInMembers table part 0) cells (λ few place here either. absurd (omega (arith, here.1.2)))

  pub member_put : (part : PartOf) (k : ℕ) (a b c : Cells) → AddsCells table (IsInMembers table part k) a b → AddsCells table (IsInInner table part (Field k)) b c → AddsCells table (IsInMembers table part (k + 1)) a c
  member_put part k a b c before adds =
      cells_then (IsInMembers table part k) (IsInInner table part (Field k)) (IsInMembers table part (k + 1)) a b c (λ place here. (here.0, (here.1.0, here.1.1, omega (arith, here.1.2), here.1.3, here.1.4)))
      (λ place here. (here.0, (k, here.1.0, omega arith, here.1.1, here.1.2))) either before adds
    where
      either : (place : Place) → IsInMembers table part (k + 1) place → IsInMembers table part k place ⊎ IsInInner table part (Field k) place
      either place here = elim (cases_lt here.1.0 k) [
        | inl less ↦ inl (here.0, (here.1.0, here.1.1, less, here.1.3, here.1.4))
        | inr more ↦
            let same : here.1.0 ≡ k = omega (arith, here.1.2, more) in
            inr (here.0, (here.1.1, subst (λ j. Steps table part.node (Field j) here.1.1) same here.1.3, here.1.4))
      ]

  -- ---- roots

  pub root_put : (roots : List Root) (is : Root) (part : PartOf) (old new : Cells) → slice_get roots part.root ≡ Some is → has_cells is.kind ≡ true → IsNode table part.node → node_of table part.node ≡ first (Start is.ty) →
      AddsCells table (IsInPart table part) old new → AddsCells table (IsInRoot table roots part.root) old new
  root_put roots is part old new at cells node begins adds = cells_as (IsInPart table part) (IsInRoot table roots part.root) old new on back adds
    where
      start : IsStart table is.ty part.node
      start = record { node = node; first = begins }

      on : (place : Place) → IsInPart table part place → IsInRoot table roots part.root place
      on place here = (
        here.0,
        record {
          root = is;
          of = ap (slice_get roots) here.0 ∙ at;
          cells = cells;
          within = reached_within table is.ty (within_start part.node start) here.1;
        },
      )

      back : (place : Place) → IsInRoot table roots part.root place → (is_value (form_of table place.node) ≡ true) ⊎ (is_mutex (form_of table place.node) ≡ true) → IsInPart table part place
      back place here either =
          let same : here.1.root ≡ is = same_Some here.1.root is (sym here.1.of ∙ (ap (slice_get roots) here.0 ∙ at)) in
          (here.0, within_reached table is.ty part.node start (subst (λ (root : Root). IsWithin table root.ty place.node) same here.1.within))

  pub no_root : (roots : List Root) (is : Root) (r : ℕ) (cells : Cells) → slice_get roots r ≡ Some is → has_cells is.kind ≡ false → AddsCells table (IsInRoot table roots r) cells cells
  no_root roots is r cells at isnt = cells_none (IsInRoot table roots r) cells none
    where
      none : count_of_cells cells ≤ 65536 → (place : Place) → IsInRoot table roots r place → (is_value (form_of table place.node) ≡ true) ⊎ (is_mutex (form_of table place.node) ≡ true) → ⊥
      none few place here either =
          let same : here.1.root ≡ is = same_Some here.1.root is (sym here.1.of ∙ (ap (slice_get roots) here.0 ∙ at)) in
          both_ways (has_cells is.kind) isnt (subst (λ (root : Root). has_cells root.kind ≡ true) same here.1.cells)

  -- ---- all roots

  pub are_none : (IsOne : Place → Type 0) (cells : Cells) → cells.values.items ≡ [] → cells.locks.items ≡ [] → ((place : Place) → IsOne place → ⊥) → AreCells table IsOne cells
  are_none IsOne cells no_values no_locks none = record {
    only_values = λ place there. absurd (in_none place (subst (λ xs. Contains xs place) no_values there));
    only_locks = λ place there. absurd (in_none place (subst (λ xs. Contains xs place) no_locks there));
    each_value = λ few place is passes. absurd (none place is);
    each_lock = λ few place is passes. absurd (none place is);
  }
    where
      in_none : (place : Place) → Contains [] place → ⊥
      in_none place there = omega (arith, there.1)

  pub are_more : (IsOne Is IsEither : Place → Type 0) (old new : Cells) → ((place : Place) → IsOne place → IsEither place) → ((place : Place) → Is place → IsEither place) → ((place : Place) → IsEither place → IsOne place ⊎ Is place) →
      AreCells table IsOne old → AddsCells table Is old new → AreCells table IsEither new
  are_more IsOne Is IsEither old new left right either before adds = record {
    only_values = λ place there. elim (adds.values.only place there) [ inl was ↦ (let is = before.only_values place was in (left place is.0, is.1)) | inr put ↦ (right place put.0, put.1) ];
    only_locks = λ place there. elim (adds.locks.only place there) [ inl was ↦ (let is = before.only_locks place was in (left place is.0, is.1)) | inr put ↦ (right place put.0, put.1) ];
    each_value = λ fits place is passes. elim (either place is) [
      | inl one ↦ adds.values.kept place (before.each_value (few fits) place one passes)
      | inr other ↦ adds.values.each fits place other passes
    ];
    each_lock = λ fits place is passes. elim (either place is) [
      | inl one ↦ adds.locks.kept place (before.each_lock (few fits) place one passes)
      | inr other ↦ adds.locks.each fits place other passes
    ];
  }
    where
      few : count_of_cells new ≤ 65536 → count_of_cells old ≤ 65536
      few fits = omega (arith, fits, adds.values.longer, adds.locks.longer)

  -- one root more
  root_more : (roots : List Root) (front : List (ℕ × ℕ × ℕ × ℕ)) (last : ℕ × ℕ × ℕ × ℕ) (old new : Cells) → AreCells table (IsInRoots table roots front) old → AddsCells table (IsInRoot table roots last.3) old new →
      AreCells table (IsInRoots table roots (front ++ last ∷ [])) new
  root_more roots front last old new before adds = are_more (IsInRoots table roots front) (IsInRoot table roots last.3) (IsInRoots table roots (front ++ last ∷ [])) old new first_roots last_root either_root before adds
    where
      first_roots : (place : Place) → IsInRoots table roots front place → IsInRoots table roots (front ++ last ∷ []) place
      first_roots place here = (let was = here.0 in (was.0, was.1, was.2, Contains-append_left front (last ∷ []) (was.0, was.1, was.2, place.root) was.3), here.1)

      last_root : (place : Place) → IsInRoot table roots last.3 place → IsInRoots table roots (front ++ last ∷ []) place
      last_root place here = ((last.0, last.1, last.2, subst (λ n. Contains (front ++ last ∷ []) (last.0, last.1, last.2, n)) (sym here.0) (Contains-push front last)), here.1)

      either_root : (place : Place) → IsInRoots table roots (front ++ last ∷ []) place → IsInRoots table roots front place ⊎ IsInRoot table roots last.3 place
      either_root place here =
          let has = here.0 in
          elim (Contains-push_cases front last (has.0, has.1, has.2, place.root) has.3) [
            | inl was ↦ inl ((has.0, has.1, has.2, was), here.1)
            | inr same ↦ inr (sym (ap (λ (x : ℕ × ℕ × ℕ × ℕ). x.3) same), here.1)
          ]

  pub roots_put : (roots : List Root) (order : List (ℕ × ℕ × ℕ × ℕ)) (k : ℕ) (one : ℕ × ℕ × ℕ × ℕ) (old new : Cells) → k < length order → AreCells table (IsInRoots table roots (take k order)) old → AddsCells table (IsInRoot table roots (get_or order k one).3) old new →
      AreCells table (IsInRoots table roots (take (k + 1) order)) new
  roots_put roots order k one old new below before adds =
      subst (λ xs. AreCells table (IsInRoots table roots xs) new) (sym (take_more order k one below)) (root_more roots (take k order) (get_or order k one) old new before adds)
