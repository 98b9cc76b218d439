-- The types that a table has from the start.
use Rattle.std.specs.Prelude.{ℕ, ◌≡◌, ◌++◌, List, [], ◌∷◌, length}
use Rattle.std.specs.List.{range_with_len}
use Rattle.lk_base.specs.declared.kind.Kind.{Kind}
use Rattle.lk_base.specs.declared.kind.Kind.TheVariants.{Bool, Char, SChar, UChar, Short, UShort, Int as IntKind, UInt, Long, ULong, LLong, ULLong}
use Rattle.lk_types.specs.Table.{Table}
use Rattle.lk_types.specs.declared.c_type.CType.{CType}
use Rattle.lk_types.specs.declared.c_type.CType.TheVariants.{Void, Int, ThreadId, Mutex, Cond, Opaque}

-- void, the integer kinds in their order, and the types of threads with those of their attributes
abbrev pub predeclared : List CType
predeclared =
    Void ∷ Int Bool ∷ Int Char ∷ Int SChar ∷ Int UChar ∷ Int Short ∷ Int UShort ∷ Int IntKind ∷ Int UInt ∷
    Int Long ∷ Int ULong ∷ Int LLong ∷ Int ULLong ∷
    ThreadId ∷ Mutex ∷ Cond ∷ Opaque 0 ∷ Opaque 1 ∷ Opaque 2 ∷ []

-- the table of these alone: each is the least of its kind, there are no structs, and void has no parts
abbrev pub first_table : Table
first_table =
    record { types = predeclared; members = []; parts = []; least = range_with_len 0 (length predeclared) }

-- the table begins with the predeclared types
abbrev pub HasPredeclared : Table → Type 0
HasPredeclared table = (more : List CType) × (table.types ≡ predeclared ++ more)

-- the number of the type of an integer kind
abbrev pub kind_id : Kind → ℕ
kind_id Bool = 1
kind_id Char = 2
kind_id SChar = 3
kind_id UChar = 4
kind_id Short = 5
kind_id UShort = 6
kind_id IntKind = 7
kind_id UInt = 8
kind_id Long = 9
kind_id ULong = 10
kind_id LLong = 11
kind_id ULLong = 12
