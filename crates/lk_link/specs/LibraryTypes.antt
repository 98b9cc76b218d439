-- Types beside those of the library's functions, as trees.
use Rattle.std.specs.Prelude.{ℕ, Bool, List, map}
use Rattle.lk_link.specs.declared.library_types.PlainType.{PlainType}
use Rattle.lk_link.specs.declared.library_types.PlainType.TheVariants as plain
use Rattle.lk_typed.specs.Meaning.{meaning}
use Rattle.lk_typed.specs.Ty.{Ty, Void, Int, ThreadId, Mutex, Cond, Function, Opaque, types_of}
use Rattle.lk_types.specs.Table.{Table}

abbrev pub plain_tree : PlainType → Ty
plain_tree plain.Void = Void
plain_tree (plain.Int kind) = Int kind
plain_tree plain.ThreadId = ThreadId
plain_tree plain.Mutex = Mutex
plain_tree plain.Cond = Cond
plain_tree (plain.Opaque n) = Opaque n

-- a function that has a result and parameters of these types
abbrev pub function_tree : Table → ℕ → List ℕ → Bool → Ty
function_tree table result params dots =
    Function (meaning table result) (types_of (map (meaning table) params)) dots
