-- The steps of each form of expression (C99 6.5).
use Rattle.std.specs.Prelude.{ℕ, ℤ, pos, ◌++◌, Bool, true, false, List, [], ◌∷◌, Option, None, Some, ◌||◌, nat_eq, if◌then◌else◌}
use Rattle.lk_arith.specs.declared.operators.Op.{Op}
use Rattle.lk_arith.specs.declared.operators.Op.TheVariants as op
use Rattle.lk_arith.specs.declared.operators.UnaryOp.{UnaryOp}
use Rattle.lk_base.specs.declared.kind.Kind.TheVariants.{Int as IntKind}
use Rattle.lk_facts.specs.declared.action.Action.TheVariants as does
use Rattle.lk_lower_expr.specs.Names.{Names, Node}
use Rattle.lk_lower_expr.specs.Parts as parts
use Rattle.lk_lower_expr.specs.Parts.{Part, goes, step, first_of, in_turn, standing_at, values}
use Rattle.lk_lower_expr.specs.Walk.{◌then◌}
use Rattle.lk_lower_expr.specs.declared.step.Step.{Step}
use Rattle.lk_tree.specs.declared.operators.StepOperator.{StepOperator}
use Rattle.lk_tree.specs.declared.operators.StepOperator.TheVariants.{Increment, Decrement}
use Rattle.lk_typed.specs.declared.expression.Change.{Change}
use Rattle.lk_typed.specs.declared.expression.Change.TheVariants.{After, Before}
use Rattle.lk_typed.specs.declared.expression.Storage.{Storage}
use Rattle.lk_typed.specs.declared.expression.Storage.TheVariants as storage
use Rattle.lk_types.specs.Predeclared.{kind_id}
use Rattle.lk_types.specs.declared.c_type.CType.{CType}
use Rattle.lk_types.specs.declared.c_type.CType.TheVariants.{Void, Int, ThreadId, Mutex, Cond, Pointer, Array, Struct, Function, Opaque}

abbrev pub is_pointer : CType → Bool
is_pointer Void = false
is_pointer (Int k) = false
is_pointer ThreadId = false
is_pointer Mutex = false
is_pointer Cond = false
is_pointer (Pointer t) = true
is_pointer (Array t n) = false
is_pointer (Struct s) = false
is_pointer (Function result params dots) = false
is_pointer (Opaque n) = false

-- the slot that a name stands for: a local may be one
abbrev pub slot_named : (slot : ℕ → Option ℕ) → Storage → Option ℕ
slot_named slot (storage.Entity e) = None
slot_named slot (storage.Local l) = slot l

-- what `++` and `--` compute
abbrev pub operator_of : StepOperator → Op
operator_of Increment = op.Add
operator_of Decrement = op.Subtract

-- control goes on at the first of two points where the value of `a` is neither zero
-- nor null, else at the second
abbrev pub branch : Node → ℕ → (yes_ no_ : ℕ) → Step
branch node a yes_ no_ =
    record { does = does.Branch a; gives = None; next = yes_ ∷ no_ ∷ []; spot = node.spot }

-- the two results of `&&` and `||`, each put into the hidden slot: the steps 2 to 6 of
-- a node whose step k is `at k`
abbrev pub truths : (at : ℕ → ℕ) → (slot : ℕ) → Node → ℕ → List Step
truths at slot node on =
    step (does.Value (pos 1) (kind_id IntKind)) (Some (kind_id IntKind)) node.spot (at 3) ∷
    step (does.SlotWrite slot (at 2)) None node.spot (at 6) ∷
    step (does.Value (pos 0) (kind_id IntKind)) (Some (kind_id IntKind)) node.spot (at 5) ∷
    step (does.SlotWrite slot (at 4)) None node.spot (at 6) ∷
    step (does.SlotRead slot) (Some (kind_id IntKind)) node.spot on ∷ []

module _ (names : Names) where
  abbrev at : ℕ → ℕ → ℕ
  at = names.at

  -- ---- places (C99 6.3.2.1, 6.5.1, 6.5.2, 6.5.3.2): the value is the pointer to the place

  abbrev pub object_part : Node → Storage → Part
  object_part node storage =
      parts.then_one names node [] (does.Root (names.object storage)) (parts.pointer_to names node.type)

  abbrev pub name_of : Option ℕ → Node → Storage → Part
  name_of None node storage = object_part node storage
  name_of (Some slot) node storage = parts.slot_part names node slot

  abbrev pub name_part : Node → Storage → Part
  name_part node storage = name_of (slot_named names.slot storage) node storage

  abbrev pub text_part : Node → Part
  text_part node =
      parts.then_one names node [] (does.Text (names.text node.ordinal)) (parts.pointer_to names node.type)

  -- `place.member` and `pointer->member`: both have the pointer to the struct
  abbrev pub member_part : Node → Part → ℕ → Part
  member_part node a k =
      parts.then_one names node (a ∷ []) (does.Field a.value k) (parts.pointer_to names node.type)

  -- `pointer[index]`: the pointer moves by the index
  abbrev pub index_part : Node → Part → Part → Part
  index_part node a b =
      parts.then_one names node (a ∷ b ∷ []) (does.Index a.value b.value false)
      (parts.pointer_to names node.type)

  -- ---- values

  abbrev pub number_part : Node → ℤ → Part
  number_part node number =
      parts.then_one names node [] (does.Value number (names.type node.type)) (parts.value_of names node.type)

  abbrev pub function_part : Node → ℕ → Part
  function_part node entity =
      parts.then_one names node [] (does.Func (names.function entity)) (parts.value_of names node.type)

  abbrev pub unary_part : Node → UnaryOp → Part → Part
  unary_part node op a =
      parts.then_one names node (a ∷ []) (does.Unary op a.value) (parts.value_of names node.type)

  abbrev pub binary_part : Node → Op → Part → Part → Part
  binary_part node op a b =
      parts.then_one names node (a ∷ b ∷ []) (does.Binary op a.value b.value) (parts.value_of names node.type)

  -- `left, right`: the left value is dropped (C99 6.5.17)
  abbrev pub comma_part : Node → Part → Part → Part
  comma_part node a b = record {
    node = node;
    slot = None;
    count = 0;
    steps = λ on. [];
    first = a.first;
    value = b.value;
    inside = λ on. goes a b.first then goes b on;
  }

  -- ---- the operators that decide on the way (C99 6.5.13 to 6.5.15)

  abbrev decides : Node → Part → Part → (ℕ → List Step) → Part
  decides node a b steps = record {
    node = node;
    slot = None;
    count = 7;
    steps = steps;
    first = a.first;
    value = at node.ordinal 6;
    inside = λ on. goes a (at node.ordinal 0) then goes b (at node.ordinal 1);
  }

  abbrev pub and_part : Node → Part → Part → Part
  and_part node a b = decides node a b (λ on.
      branch node a.value b.first (at node.ordinal 4) ∷
      branch node b.value (at node.ordinal 2) (at node.ordinal 4) ∷
      truths (at node.ordinal) (names.hidden node.ordinal) node on)

  abbrev pub or_part : Node → Part → Part → Part
  or_part node a b = decides node a b (λ on.
      branch node a.value (at node.ordinal 2) b.first ∷
      branch node b.value (at node.ordinal 2) (at node.ordinal 4) ∷
      truths (at node.ordinal) (names.hidden node.ordinal) node on)

  -- `condition ? taken : other`, of type void and of another type
  abbrev pub void_choice : Node → Part → Part → Part → Part
  void_choice node c a b = record {
    node = node;
    slot = None;
    count = 1;
    first = c.first;
    value = at node.ordinal 0;
    steps = λ on. branch node c.value a.first b.first ∷ [];
    inside = λ on. goes c (at node.ordinal 0) then goes a on then goes b on;
  }

  abbrev pub value_choice : Node → Part → Part → Part → Part
  value_choice node c a b =
      let o = node.ordinal in record {
        node = node;
        slot = None;
        count = 4;
        first = c.first;
        value = at o 3;
        steps = λ on.
            branch node c.value a.first b.first ∷
            step (does.SlotWrite (names.hidden o) a.value) None node.spot (at o 3) ∷
            step (does.SlotWrite (names.hidden o) b.value) None node.spot (at o 3) ∷
            step (does.SlotRead (names.hidden o)) (parts.value_of names node.type) node.spot on ∷ [];
        inside = λ on. goes c (at o 0) then goes a (at o 1) then goes b (at o 2);
      }

  abbrev pub choice_of : CType → Node → Part → Part → Part → Part
  choice_of Void = void_choice
  choice_of (Int k) = value_choice
  choice_of ThreadId = value_choice
  choice_of Mutex = value_choice
  choice_of Cond = value_choice
  choice_of (Pointer t) = value_choice
  choice_of (Array t n) = value_choice
  choice_of (Struct s) = value_choice
  choice_of (Function result params dots) = value_choice
  choice_of (Opaque n) = value_choice

  unfoldable pub choice_part : Node → Part → Part → Part → Part
  choice_part node = choice_of (names.form node.type) node

  -- ---- assignments (C99 6.5.16, 6.5.2.4, 6.5.3.1): the value is that which is written

  abbrev pub reading : Part → ℕ → Step
  reading a on = step (parts.reads names a.slot a.value) (parts.value_of names a.node.type) a.node.spot on

  abbrev pub writing : Part → ℕ → ℕ → Step
  writing a value on = step (parts.writes names a.slot a.value value) None a.node.spot on

  abbrev pub converting : Node → (value type on : ℕ) → Step
  converting node value t on = step (does.Convert value (names.type t)) (parts.value_of names t) node.spot on

  abbrev pub computing : Node → Op → (a b type on : ℕ) → Step
  computing node op a b t on = step (does.Binary op a b) (parts.value_of names t) node.spot on

  abbrev pub assign_part : Node → Part → Part → Part
  assign_part node a b =
      parts.with_value b.value
      (parts.computes names node (parts.place_of names a.slot a ++ (b ∷ [])) 1 (λ on. writing a b.value on ∷ []))

  -- `place op= value`, where the place has the type in which it is computed, and where
  -- it is converted to it and back
  abbrev pub compound_alike : Node → Op → Part → Part → ℕ → Part
  compound_alike node op a b t =
      let o = node.ordinal in record {
        node = node;
        slot = None;
        count = 3;
        first = first_of (parts.place_of names a.slot a) (at o 0);
        value = at o 1;
        steps =
            λ on. reading a b.first ∷ computing node op (at o 0) b.value t (at o 2) ∷
            writing a (at o 1) on ∷ [];
        inside = λ on. in_turn (parts.place_of names a.slot a) (at o 0) then goes b (at o 1);
      }

  abbrev pub compound_converted : Node → Op → Part → Part → ℕ → Part
  compound_converted node op a b t =
      let o = node.ordinal in record {
        node = node;
        slot = None;
        count = 5;
        first = first_of (parts.place_of names a.slot a) (at o 0);
        value = at o 3;
        steps = λ on.
            reading a b.first ∷ converting node (at o 0) t (at o 2) ∷
            computing node op (at o 1) b.value t (at o 3) ∷
            converting node (at o 2) a.node.type (at o 4) ∷ writing a (at o 3) on ∷ [];
        inside = λ on. in_turn (parts.place_of names a.slot a) (at o 0) then goes b (at o 1);
      }

  unfoldable pub compound_part : Node → Op → Part → Part → ℕ → Part
  compound_part node op a b t =
      if nat_eq a.node.type t then compound_alike node op a b t else compound_converted node op a b t

  -- `++` and `--`: the value is that which was read, or that which is written
  abbrev pub changed : Change → (was is : ℕ) → ℕ
  changed After was is = was
  changed Before was is = is

  abbrev pub one_of : Node → ℕ → Step
  one_of node on = step (does.Value (pos 1) (kind_id IntKind)) (parts.int names) node.spot on

  abbrev changes : Node → Part → (value : ℕ) → (count : ℕ) → (ℕ → List Step) → Part
  changes node a value count steps =
      parts.with_value value (parts.computes names node (parts.place_of names a.slot a) count steps)

  -- a place of pointers or of int
  abbrev pub step_plain : Node → Op → Change → Part → ℕ → Part
  step_plain node op change a t =
      let o = node.ordinal in changes node a (changed change (at o 0) (at o 2)) 4 (λ on.
      reading a (at o 1) ∷ one_of node (at o 2) ∷ computing node op (at o 0) (at o 1) t (at o 3) ∷
      writing a (at o 2) on ∷ [])

  -- a place of integers that rank above int: the 1 is converted
  abbrev pub step_wide : Node → Op → Change → Part → ℕ → Part
  step_wide node op change a t =
      let o = node.ordinal in changes node a (changed change (at o 0) (at o 3)) 5 (λ on.
      reading a (at o 1) ∷ one_of node (at o 2) ∷ converting node (at o 1) t (at o 3) ∷
      computing node op (at o 0) (at o 2) t (at o 4) ∷ writing a (at o 3) on ∷ [])

  -- a place of integers that rank below int: it is converted to int and back
  abbrev pub step_narrow : Node → Op → Change → Part → ℕ → Part
  step_narrow node op change a t =
      let o = node.ordinal in changes node a (changed change (at o 0) (at o 4)) 6 (λ on.
      reading a (at o 1) ∷ one_of node (at o 2) ∷ converting node (at o 0) t (at o 3) ∷
      computing node op (at o 2) (at o 1) t (at o 4) ∷
      converting node (at o 3) a.node.type (at o 5) ∷ writing a (at o 4) on ∷ [])

  unfoldable pub step_part : Node → StepOperator → Change → Part → ℕ → Part
  step_part node operator change a t =
      if nat_eq a.node.type t
      then (if is_pointer (names.form t)
      || nat_eq t (kind_id IntKind) then step_plain node (operator_of operator) change a t
      else step_wide node (operator_of operator) change a t)
      else step_narrow node (operator_of operator) change a t

  -- ---- conversions (C99 6.3): each is a step of the node that it converts, and that of a cast one of the cast's own

  -- the value that a place has
  abbrev pub load_part : Node → Part → Part
  load_part node a =
      parts.followed names node (standing_at node.ordinal a) (parts.reads names a.slot a.value)
      (parts.value_of names node.type)

  -- the pointer to the first element of an array
  abbrev pub decay_part : Node → Part → Part
  decay_part node a =
      parts.followed names node
      (parts.followed names node (standing_at node.ordinal a) (does.Value (pos 0) (kind_id IntKind)) (parts.int names))
      (does.Index a.value (at node.ordinal (standing_at node.ordinal a).count) true)
      (parts.value_of names node.type)

  abbrev pub convert_part : Node → Part → Part
  convert_part node a =
      parts.followed names node (standing_at node.ordinal a) (does.Convert a.value (names.type node.type))
      (parts.value_of names node.type)

  abbrev pub null_part : Node → Part
  null_part node =
      parts.then_one names node [] (does.Null (names.type node.type)) (parts.value_of names node.type)
