-- Programs whose static initialisers are right: each address that a point of theirs gives is one of a part of
-- the type to which its own type points, or its type is `void *`. In a function the conversion of a `void *`
-- to a pointer to another type has no defined step (C99 6.3.2.3, 1 and 7; 6.5, 7); those of static
-- initialisers are performed before the program begins (C99 5.1.2).
use Rattle.std.specs.Prelude.{◌≡◌, ◌⊎◌, ℕ, Bool, true, List, Some, length}
use Rattle.lk_base.specs.declared.cell.CellStep.{CellStep}
use Rattle.lk_cells.specs.Parts.{node_along}
use Rattle.lk_facts.specs.Initials.{GivesAddress}
use Rattle.lk_facts.specs.Program.{function_at}
use Rattle.lk_facts.specs.Typed.{GivesForm, IsRootType}
use Rattle.lk_facts.specs.declared.program.Program.{Program}
use Rattle.lk_types.specs.Equal.{IsAlike}
use Rattle.lk_types.specs.Nodes.{Node, first}
use Rattle.lk_types.specs.Table.{type_at}
use Rattle.lk_types.specs.Walks.{is_void}
use Rattle.lk_types.specs.declared.c_type.CType.TheVariants.{Pointer}
use Rattle.lk_types.specs.declared.node.Base.TheVariants.{Start}

module _ (program : Program) where
  -- the part of the root's objects is of the type t, but for the sizes of arrays, or t is void
  pub record IsPartOfType (r : ℕ) (path : List CellStep) (t : ℕ) : Type 0 where
    pub ty : ℕ
    pub of : IsRootType program r ty
    pub part : Node
    pub leads : node_along program.types (first (Start ty)) path ≡ Some part
    pub right : (is_void (type_at program.types t) ≡ true) ⊎ IsAlike program.types.types part.type t

  abbrev pub StartsRight : Type 0
  StartsRight =
      (p r : ℕ) (path : List CellStep) (past : Bool) (t : ℕ) →
      function_at program p ≡ Some (length program.functions) → GivesAddress program p r path past →
      GivesForm program p (Pointer t) → IsPartOfType r path t
