-- The tree that a number of a table stands for, as a function: the one that
-- `Means` of lk_typed relates to it.
use Rattle.std.specs.Prelude.{ℕ, zero, suc, map}
use Rattle.lk_types.specs.Building.{IsTable}
use Rattle.lk_types.specs.Predeclared.{HasPredeclared}
use Rattle.lk_types.specs.Table.{Table, type_at, IsKnown}
use Rattle.lk_types.specs.declared.c_type.CType.{CType}
use Rattle.lk_types.specs.declared.c_type.CType.TheVariants as form
use Rattle.lk_typed.specs.Ty.{Ty, Void, Int, ThreadId, Mutex, Cond, Pointer, Array, Struct, Function, Opaque, types_of}
use Rattle.lk_typed.specs.declared.typed.ExprType.{ExprType}
use Rattle.lk_typed.specs.declared.typed.ExprType.TheVariants.{Listed, PointerTo}

-- the tree of a form, where the trees of the types that it is made of are told
abbrev pub tree_of : (ℕ → Ty) → CType → Ty
tree_of at form.Void = Void
tree_of at (form.Int k) = Int k
tree_of at form.ThreadId = ThreadId
tree_of at form.Mutex = Mutex
tree_of at form.Cond = Cond
tree_of at (form.Pointer t) = Pointer (at t)
tree_of at (form.Array t n) = Array (at t) n
tree_of at (form.Struct s) = Struct s
tree_of at (form.Function result params dots) = Function (at result) (types_of (map at params)) dots
tree_of at (form.Opaque n) = Opaque n

-- the tree, down to so many steps
unfoldable pub tree_within : ℕ → Table → ℕ → Ty
tree_within zero table t = Void
tree_within (suc steps) table t = tree_of (tree_within steps table) (type_at table t)

-- the tree that a number stands for: what a type is made of stands before it, so there are
-- no more steps than its number
unfoldable pub meaning : Table → ℕ → Ty
meaning table t = tree_within (suc t) table t

-- the type of an expression is in the table, or is a pointer to one that is
abbrev pub meaning_of : Table → ExprType → Ty
meaning_of table (Listed t) = meaning table t
meaning_of table (PointerTo t) = Pointer (meaning table t)

abbrev pub IsKnownType : Table → ExprType → Type 0
IsKnownType table (Listed t) = IsKnown table t
IsKnownType table (PointerTo t) = IsKnown table t

-- a table that begins with the predeclared types
pub record IsReady (table : Table) : Type 0 where
  pub table_is : IsTable table
  pub predeclared : HasPredeclared table
