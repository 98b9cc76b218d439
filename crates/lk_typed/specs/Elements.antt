-- How many elements the types of a table have.
use Rattle.std.specs.Prelude.{ℕ, ◌*◌, ◌<◌, ◌^◌, ⊤}
use Rattle.lk_types.specs.Table.{Table, IsKnown}
use Rattle.lk_types.specs.declared.c_type.CType.{CType}
use Rattle.lk_types.specs.declared.c_type.CType.TheVariants.{Void, Int, ThreadId, Mutex, Cond, Pointer, Array, Struct, Function, Opaque}
use Rattle.lk_typed.specs.DeclaratorRules.{elements}
use Rattle.lk_typed.specs.Meaning.{meaning}

-- no type has 2 ^ 64 elements: one that is declared has 1,048,576 at most (code 31), and a text has
-- fewer than it could have bytes
abbrev pub HasFewElements : Table → Type 0
HasFewElements table = (t : ℕ) → IsKnown table t → elements (meaning table t) < 2 ^ 64

-- a form that keeps that where it is put
abbrev pub IsFew : Table → CType → Type 0
IsFew table Void = ⊤
IsFew table (Int kind) = ⊤
IsFew table ThreadId = ⊤
IsFew table Mutex = ⊤
IsFew table Cond = ⊤
IsFew table (Pointer t) = ⊤
IsFew table (Array t n) = n * elements (meaning table t) < 2 ^ 64
IsFew table (Struct s) = ⊤
IsFew table (Function result params dots) = ⊤
IsFew table (Opaque n) = ⊤
