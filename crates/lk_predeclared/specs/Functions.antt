-- The functions of the library by the rows of their table.
use Rattle.std.specs.Prelude.{ℕ, Bool, false, Option, Some, None, map}
use Rattle.lk_typed.specs.Calls.{passes_by}
use Rattle.lk_typed.specs.Library.{LibraryFunction, passed_type}
use Rattle.lk_typed.specs.Ty.{Ty, Void, Pointer, Function, types_of}
use Rattle.lk_typed.specs.declared.typed.ExprType.{ExprType}
use Rattle.lk_typed.specs.declared.typed.ExprType.TheVariants.{Listed, PointerTo}
use Rattle.lk_predeclared.specs.Plain.{first_tree}

abbrev pub result_by : Option LibraryFunction → Ty
result_by None = Void
result_by (Some f) = f.result

abbrev pub dots_by : Option LibraryFunction → Bool
dots_by None = false
dots_by (Some f) = f.dots

-- the type of a function by its row
abbrev pub type_by : Option LibraryFunction → Ty
type_by row = Function (result_by row) (types_of (map passed_type (passes_by row None))) (dots_by row)

-- the tree of a predeclared type, or of a pointer to one
abbrev pub tree_by : ExprType → Ty
tree_by (Listed n) = first_tree n
tree_by (PointerTo n) = Pointer (first_tree n)

abbrev pub number_by : ExprType → ℕ
number_by (Listed n) = n
number_by (PointerTo n) = n
