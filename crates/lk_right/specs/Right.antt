-- When a stored pointer is right: the origin of what it points to flows to the label of what
-- holds it, each in its context.
use Rattle.std.specs.Prelude.{◌≡◌, ℕ, true, List, [], Some, slice_get, ⊤}
use Rattle.lk_base.specs.declared.cell.CellStep.{CellStep}
use Rattle.lk_cells.specs.Parts.{node_along}
use Rattle.lk_facts.specs.EdgeRules.{IsInside, code}
use Rattle.lk_facts.specs.LabelRules.{IsPart, IsWithin}
use Rattle.lk_facts.specs.Labels.{LabelTable, is_global_at}
use Rattle.lk_facts.specs.Paths.{HasEdge}
use Rattle.lk_facts.specs.Program.{value_site_of}
use Rattle.lk_facts.specs.Typed.{IsForm, IsRootType}
use Rattle.lk_facts.specs.Walks.{Walk}
use Rattle.lk_facts.specs.declared.edge.Edge.{Edge}
use Rattle.lk_facts.specs.declared.label_entry.LabelName.{LabelName}
use Rattle.lk_facts.specs.declared.program.Program.{Program}
use Rattle.lk_facts.specs.declared.root.Holder.TheVariants.{Root}
use Rattle.lk_laws.specs.FlowLaws.{type_of}
use Rattle.lk_laws.specs.RowLaws.{HasPointer}
use Rattle.lk_right.specs.Contexts.{Home}
use Rattle.lk_types.specs.Equal.{IsAlike}
use Rattle.lk_types.specs.Nodes.{node_of, first}
use Rattle.lk_types.specs.Table.{type_at}
use Rattle.lk_types.specs.Walks.{is_void}
use Rattle.lk_types.specs.declared.c_type.CType.TheVariants.{Pointer as PointerType}
use Rattle.lk_types.specs.declared.node.Base.TheVariants.{Start}
use Rattle.lk_types.specs.declared.node.Sel.TheVariants.{Target, Part}
use Rattle.lk_values.specs.declared.cell.Pointer.{Pointer as PointerTo}
use Rattle.lk_values.specs.declared.value.Value.{Value}
use Rattle.lk_values.specs.declared.value.Value.TheVariants.{Number, Pointer, Function, Null, Thread, Indeterminate}

module _ (program : Program) where
  -- x is the place of the part of an object of the root r to which a path leads, its
  -- indices forgotten: an origin
  pub record IsPlaceAt (r : ℕ) (path : List CellStep) (x : LabelName) : Type 0 where
    pub ty : ℕ
    pub of : IsRootType program r ty
    pub holder : x.holder ≡ Root r
    pub within : IsWithin program.types ty x.node
    pub leads : node_along program.types (first (Start ty)) path ≡ Some (node_of program.types x.node)

  -- y is what a pointer to a part of the type u leads to, where x holds the pointer: the Target of x, or
  -- where x is a `void *` the Part of u there (C99 6.3.2.3, 1)
  pub data IsAim (x : LabelName) (u : ℕ) (y : LabelName) : Type 0 where
    typed : (t : ℕ) → IsForm program.types (type_of program x) (PointerType t) →
        IsAlike program.types.types u t → IsPart program x Target y → IsAim x u y
    untyped : (t : ℕ) (v : LabelName) → IsForm program.types (type_of program x) (PointerType t) →
        is_void (type_at program.types t) ≡ true → IsPart program x Target v →
        IsInside program v (Part u) y → IsAim x u y

  -- y is what a pointer to a function of the type u leads to, where x holds the pointer
  pub record IsFunctionAim (x : LabelName) (u : ℕ) (y : LabelName) : Type 0 where
    pub t : ℕ
    pub pointer : IsForm program.types (type_of program x) (PointerType t)
    pub alike : IsAlike program.types.types u t
    pub leads : IsPart program x Target y

  module _ (labels : LabelTable) (es : List Edge) where
    -- a walk leads from the label x in the context c to the label y in the context d
    pub record Flows (x : LabelName) (c : List ℕ) (y : LabelName) (d : List ℕ) : Type 0 where
      pub from : ℕ
      pub to : ℕ
      pub from_at : slice_get labels.names from ≡ Some x
      pub to_at : slice_get labels.names to ≡ Some y
      pub walk : Walk (HasEdge es) (is_global_at labels) from c to d

    module _ (homes : List Home) where
      -- A pointer to a part of an object, or one past it, is right in the context d for what X names: the
      -- place of the part flows, in the context of its object, to what the pointer leads to from there.
      pub record IsPointerRight (p : PointerTo) (X : LabelName → Type 0) (d : List ℕ) : Type 0 where
        pub home : Home
        pub lives_in : slice_get homes p.part.object ≡ Some home
        pub origin : LabelName
        pub place : IsPlaceAt home.root p.part.path origin
        pub held_by : LabelName
        pub is : X held_by
        pub aim : LabelName
        pub aims : IsAim held_by (type_of program origin) aim
        pub flows : Flows origin home.context aim d

      -- a pointer to a function is right: the function is used as a value, and flows there from any context
      pub record IsFunctionRight (f : ℕ) (X : LabelName → Type 0) (d : List ℕ) : Type 0 where
        pub site : ℕ
        pub used : value_site_of program f ≡ Some site
        pub origin : LabelName
        pub place : code program f origin
        pub held_by : LabelName
        pub is : X held_by
        pub aim : LabelName
        pub aims : IsFunctionAim held_by (type_of program origin) aim
        pub flows : Flows origin [] aim d

      -- A value is right in the context d for what X names; one that is no pointer always is. A pointer to a
      -- part is asked to be right only where what holds it is a pointer.
      abbrev pub IsRight : Value → (LabelName → Type 0) → List ℕ → Type 0
      IsRight (Number k n) X d = ⊤
      IsRight (Pointer p) X d = HasPointer program X → IsPointerRight p X d
      IsRight (Function f) X d = IsFunctionRight f X d
      IsRight Null X d = ⊤
      IsRight (Thread t) X d = ⊤
      IsRight Indeterminate X d = ⊤
