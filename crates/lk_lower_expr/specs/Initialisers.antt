-- The steps of initialisers (C99 6.7.8): the named parts in the order of the entries, and then the
-- cells that no entry names. All but the steps of the values are steps of the node of the declared
-- name, and stand at its place.
use Rattle.std.specs.Prelude.{ℕ, ℤ, pos, suc, ◌+◌, true, false, List, [], ◌∷◌, ◌++◌, length, Option, None, Some}
use Rattle.std.specs.Option.{unwrap_or}
use Rattle.lk_arith.specs.Conversions.{convert}
use Rattle.lk_base.specs.declared.cell.CellStep.{CellStep}
use Rattle.lk_base.specs.declared.cell.CellStep.TheVariants.{Field, Index}
use Rattle.lk_base.specs.declared.kind.Kind.TheVariants.{Int as IntKind}
use Rattle.lk_base.specs.declared.spot.Spot.{Spot}
use Rattle.lk_facts.specs.declared.action.Action.{Action}
use Rattle.lk_facts.specs.declared.action.Action.TheVariants as does
use Rattle.lk_facts.specs.declared.place.Place.{Place}
use Rattle.lk_lower_expr.specs.Expressions.{part}
use Rattle.lk_lower_expr.specs.Names.{Names, Node}
use Rattle.lk_lower_expr.specs.Parts as parts
use Rattle.lk_lower_expr.specs.Parts.{goes, step}
use Rattle.lk_lower_expr.specs.Walk.{Walk, nothing, own, ◌then◌}
use Rattle.lk_lower_expr.specs.declared.step.Deed.{Deed}
use Rattle.lk_lower_expr.specs.declared.step.Step.{Step}
use Rattle.lk_typed.specs.declared.initialiser.AbsentCells.{AbsentCells}
use Rattle.lk_typed.specs.declared.initialiser.LocalPart.{LocalPart}
use Rattle.lk_typed.specs.declared.initialiser.LocalValue.{LocalValue}
use Rattle.lk_typed.specs.declared.initialiser.LocalValue.TheVariants as value
use Rattle.lk_types.specs.Predeclared.{kind_id}
use Rattle.lk_types.specs.declared.c_type.CType.{CType}
use Rattle.lk_types.specs.declared.c_type.CType.TheVariants.{Void, Int, ThreadId, Mutex, Cond, Pointer, Array, Struct, Function, Opaque}

-- the step that gives the pointer to a part of what the pointer that the step `k` gives points to: a Field a
-- member, a Value and an Index an element
abbrev pub after : ℕ → CellStep → ℕ
after k (Field m) = suc k
after k (Index i) = suc (suc k)

abbrev pub pointed : ℕ → List CellStep → ℕ
pointed k [] = k
pointed k (next ∷ path) = pointed (after k next) path

-- the step behind those of a part that begin with the step `k`
abbrev pub past_part : ℕ → List CellStep → ℕ
past_part k path = suc (suc (pointed k path))

-- these steps of a node whose step k is `at k`, the first of them the step `k`: each leads
-- to the next, the last to `on`
abbrev pub comes_to : (at : ℕ → ℕ) → (k : ℕ) → Deed → ℕ
comes_to at k deed = unwrap_or deed.comes (at k)

abbrev pub numbered : (at : ℕ → ℕ) → Spot → (k : ℕ) → List Deed → (on : ℕ) → List Step
numbered at spot k [] on = []
numbered at spot k (deed ∷ []) on = step deed.does deed.gives spot on ∷ []
numbered at spot k (deed ∷ (next ∷ others)) on =
    step deed.does deed.gives spot (comes_to at (suc k) next) ∷ numbered at spot (suc k) (next ∷ others) on

-- a byte of a text as an element of a type: it is converted to the type's kind; texts
-- have no elements of other types
abbrev pub byte_of : CType → ℕ → ℤ
byte_of Void byte = pos byte
byte_of (Int k) byte = convert k (pos byte)
byte_of ThreadId byte = pos byte
byte_of Mutex byte = pos byte
byte_of Cond byte = pos byte
byte_of (Pointer t) byte = pos byte
byte_of (Array t n) byte = pos byte
byte_of (Struct s) byte = pos byte
byte_of (Function result params dots) byte = pos byte
byte_of (Opaque n) byte = pos byte

module _ (names : Names) where
  -- a step that gives a pointer to a type
  abbrev pub points : Action → (t : ℕ) → Deed
  points does t = record { does = does; gives = parts.pointer_to names t; comes = None }

  abbrev pub to_part : Node → (k t : ℕ) → CellStep → List Deed
  to_part node k t (Field m) = points (does.Field (names.at node.ordinal k) m) t ∷ []
  to_part node k t (Index i) =
      record { does = does.Value (pos i) (kind_id IntKind); gives = parts.int names; comes = None } ∷
      points (does.Index (names.at node.ordinal k) (names.at node.ordinal (suc k)) true) t ∷ []

  -- from the pointer that the step `k` gives, to an object of type t, along the path
  abbrev pub along : Node → (k t : ℕ) → List CellStep → List Deed
  along node k t [] = []
  along node k t (next ∷ path) =
      to_part node k (names.inside t next) next ++ along node (after k next) (names.inside t next) path

  -- the steps to a part of the object of a root, the first of them the step `k`
  abbrev pub way_to : Node → (root k : ℕ) → List CellStep → List Deed
  way_to node root k path = points (does.Root root) node.type ∷ along node k node.type path

  -- and then what settles the part by the pointer to it: a Write, to which control comes through the steps of
  -- the value, an Init or a Fill
  abbrev pub settled : Node → (root k : ℕ) → List CellStep → (comes : Option ℕ) →
      ((pointer : ℕ) → Action) → List Deed
  settled node root k path comes settles =
      way_to node root k path ++
      (record { does = settles (names.at node.ordinal (pointed k path)); gives = None; comes = comes } ∷ [])

  -- the bytes of the text at a node go to the elements of an array, the first of these to the element `i`
  abbrev pub text_deeds : Node → (root k : ℕ) → List CellStep → (text i : ℕ) → List ℕ → List Deed
  text_deeds node root k path text i [] = []
  text_deeds node root k path text i (byte ∷ others) =
      settled node root k (path ++ (Index i ∷ [])) (Some (names.at text i))
      (λ pointer. does.Write pointer (names.at text i) false) ++
      text_deeds node root (past_part k (path ++ (Index i ∷ []))) path text (suc i) others

  -- the steps of a part at the declared name, the first of them the step `k`
  abbrev pub part_deeds : Node → (root k : ℕ) → List CellStep → LocalValue → List Deed
  part_deeds node root k path (value.Expr e) =
      settled node root k path (Some (part names e).first)
      (λ pointer. does.Write pointer (part names e).value false)
  part_deeds node root k path (value.Text spot text bytes) = text_deeds node root k path text 0 bytes
  part_deeds node root k path value.Ready = settled node root k path None does.Init

  -- how many they are
  abbrev pub part_count : Node → (root k : ℕ) → LocalPart → ℕ
  part_count node root k one = length (part_deeds node root k one.path one.value)

  abbrev pub parts_deeds : Node → (root k : ℕ) → List LocalPart → List Deed
  parts_deeds node root k [] = []
  parts_deeds node root k (one ∷ others) =
      part_deeds node root k one.path one.value ++
      parts_deeds node root (k + part_count node root k one) others

  -- the steps of the bytes of a text, each of which leads to the step that writes
  -- it: those are steps of the text
  abbrev pub byte_steps : Node → Spot → (k t : ℕ) → List CellStep → (i : ℕ) → List ℕ → List Step
  byte_steps node spot k t path i [] = []
  byte_steps node spot k t path i (byte ∷ others) =
      step (does.Value (byte_of (names.form t) byte) (names.type t)) (parts.value_of names t) spot
      (names.at node.ordinal (suc (pointed k (path ++ (Index i ∷ []))))) ∷
      byte_steps node spot (past_part k (path ++ (Index i ∷ []))) t path (suc i) others

  -- the steps of the value of a part, whose steps at the declared name begin with the step `k`
  abbrev pub value_walk : Node → (k t : ℕ) → List CellStep → LocalValue → Walk
  value_walk node k t path (value.Expr e) = goes (part names e) (names.at node.ordinal (suc (pointed k path)))
  value_walk node k t path (value.Text spot text bytes) =
      own text (byte_steps node spot k (names.inside t (Index 0)) path 0 bytes)
  value_walk node k t path value.Ready = nothing

  -- those of all values, the last of them first
  abbrev pub values_walk : Node → (root k : ℕ) → List LocalPart → Walk
  values_walk node root k [] = nothing
  values_walk node root k (one ∷ others) =
      values_walk node root (k + part_count node root k one) others
      then value_walk node k one.ty one.path one.value

  -- the cells that no entry names: the steps to the first of them, and a Fill
  abbrev pub fills_deeds : Node → (List CellStep → Place) → (root k : ℕ) → List AbsentCells → List Deed
  fills_deeds node place root k [] = []
  fills_deeds node place root k (cells ∷ others) =
      settled node root k cells.first None (λ pointer. does.Fill pointer (place cells.first) cells.named) ++
      fills_deeds node place root (past_part k cells.first) others
