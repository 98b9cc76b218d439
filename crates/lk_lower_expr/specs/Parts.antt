-- How expressions are put together from the steps of their operands (C99 5.1.2.3, 6.5; operands go
-- from the left to the right).
use Rattle.std.specs.Prelude.{ℕ, ◌+◌, false, List, [], ◌∷◌, ◌++◌, Option, None, Some, nat_eq, if◌then◌else◌}
use Rattle.lk_base.specs.declared.kind.Kind.TheVariants.{Int as IntKind}
use Rattle.lk_base.specs.declared.spot.Spot.{Spot}
use Rattle.lk_facts.specs.declared.action.Action.{Action}
use Rattle.lk_facts.specs.declared.action.Action.TheVariants as does
use Rattle.lk_lower_expr.specs.Names.{Names, Node}
use Rattle.lk_lower_expr.specs.Walk.{Walk, nothing, own, ◌then◌}
use Rattle.lk_lower_expr.specs.declared.step.Step.{Step}
use Rattle.lk_types.specs.Predeclared.{kind_id}
use Rattle.lk_types.specs.declared.c_type.CType.{CType}
use Rattle.lk_types.specs.declared.c_type.CType.TheVariants.{Void, Int, ThreadId, Mutex, Cond, Pointer, Array, Struct, Function, Opaque}

-- an expression
pub record Part : Type 0 where
  pub node : Node
  -- the slot that it is, where it names one
  pub slot : Option ℕ
  -- the point at which it begins, and the one that gives its value or the pointer to the place that it names
  pub first : ℕ
  pub value : ℕ
  -- the steps of its own node, how many they are, and those of the nodes inside it; each by the
  -- point at which control goes on
  pub count : ℕ
  pub steps : ℕ → List Step
  pub inside : ℕ → Walk

-- all steps of an expression
abbrev pub goes : Part → ℕ → Walk
goes a on = own a.node.ordinal (a.steps on) then a.inside on

abbrev pub step : Action → Option ℕ → Spot → ℕ → Step
step does gives spot on = record { does = does; gives = gives; next = on ∷ []; spot = spot }

-- operands one after the other: the point at which the first begins, and all their steps,
-- where control goes on at `last`
abbrev pub first_of : List Part → ℕ → ℕ
first_of [] last = last
first_of (a ∷ others) last = a.first

abbrev pub in_turn : List Part → ℕ → Walk
in_turn [] last = nothing
in_turn (a ∷ others) last = goes a (first_of others last) then in_turn others last

-- a place or a value, by the steps that it has at a node where it is read or converted: its
-- own, where it stands there. What a cast converts stands at another node, and all its steps
-- are inside the cast (C99 6.5.4)
abbrev pub standing_at : ℕ → Part → Part
standing_at node a = record {
  node = a.node;
  slot = a.slot;
  first = a.first;
  value = a.value;
  count = if nat_eq a.node.ordinal node then a.count else 0;
  steps = λ on. if nat_eq a.node.ordinal node then a.steps on else [];
  inside = λ on. if nat_eq a.node.ordinal node then a.inside on else goes a on;
}

-- an expression whose value is that of another point
abbrev pub with_value : ℕ → Part → Part
with_value value a =
    record { node = a.node; slot = a.slot; first = a.first; value = value; count = a.count; steps = a.steps; inside = a.inside }

-- their values
abbrev pub values : List Part → List ℕ
values [] = []
values (a ∷ others) = a.value ∷ values others

module _ (names : Names) where
  -- the type of a value: void has none
  abbrev pub gives_of : CType → ℕ → Option ℕ
  gives_of Void t = None
  gives_of (Int k) t = Some (names.type t)
  gives_of ThreadId t = Some (names.type t)
  gives_of Mutex t = Some (names.type t)
  gives_of Cond t = Some (names.type t)
  gives_of (Pointer u) t = Some (names.type t)
  gives_of (Array u n) t = Some (names.type t)
  gives_of (Struct s) t = Some (names.type t)
  gives_of (Function result params dots) t = Some (names.type t)
  gives_of (Opaque n) t = Some (names.type t)

  abbrev pub value_of : ℕ → Option ℕ
  value_of t = gives_of (names.form t) t

  -- the pointer to a place of that type
  abbrev pub pointer_to : ℕ → Option ℕ
  pointer_to t = Some (names.pointer t)

  -- a constant of type int
  abbrev pub int : Option ℕ
  int = Some (kind_id IntKind)

  -- a node that computes its operands in turn, and then has these steps, the first of which gives its value
  abbrev pub computes : Node → List Part → (count : ℕ) → (ℕ → List Step) → Part
  computes node operands count steps = record {
    node = node;
    slot = None;
    count = count;
    steps = steps;
    first = first_of operands (names.at node.ordinal 0);
    value = names.at node.ordinal 0;
    inside = λ on. in_turn operands (names.at node.ordinal 0);
  }

  -- the same with one step
  abbrev pub then_one : Node → List Part → Action → Option ℕ → Part
  then_one node operands does gives = computes node operands 1 (λ on. step does gives node.spot on ∷ [])

  -- a node without steps of its own, which stands for its operand
  abbrev pub stands_for : Node → Part → Part
  stands_for node a = record {
    node = node;
    slot = None;
    count = 0;
    steps = λ on. [];
    first = a.first;
    value = a.value;
    inside = λ on. goes a on;
  }

  -- a slot has no steps until it is read or written
  abbrev pub slot_part : Node → ℕ → Part
  slot_part node slot = record {
    node = node;
    slot = Some slot;
    count = 0;
    steps = λ on. [];
    first = names.at node.ordinal 0;
    value = names.at node.ordinal 0;
    inside = λ on. nothing;
  }

  abbrev pub paren_of : Option ℕ → Node → Part → Part
  paren_of None node a = stands_for node a
  paren_of (Some slot) node a = slot_part node slot

  -- one more step of the same node, which gives the value
  abbrev pub followed : Node → Part → Action → Option ℕ → Part
  followed node a does gives = record {
    node = node;
    slot = None;
    count = a.count + 1;
    first = a.first;
    value = names.at node.ordinal a.count;
    steps = λ on. a.steps (names.at node.ordinal a.count) ++ (step does gives node.spot on ∷ []);
    inside = λ on. a.inside (names.at node.ordinal a.count);
  }

  -- what reads a place and what writes it: a cell by the pointer to it, or a slot
  abbrev pub reads : Option ℕ → (pointer : ℕ) → Action
  reads None pointer = does.Read pointer false
  reads (Some slot) pointer = does.SlotRead slot

  abbrev pub writes : Option ℕ → (pointer value : ℕ) → Action
  writes None pointer value = does.Write pointer value false
  writes (Some slot) pointer value = does.SlotWrite slot value

  -- a place as an operand: a slot isn't computed
  abbrev pub place_of : Option ℕ → Part → List Part
  place_of None a = a ∷ []
  place_of (Some slot) a = []
