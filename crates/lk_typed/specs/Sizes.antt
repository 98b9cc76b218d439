-- Which types are complete, what they hold, and how many bytes they have (C99 6.2.5, 6.5.3.4).
use Rattle.std.specs.Prelude.{ℕ, ◌*◌, Bool, true, false, not, ◌&&◌, List, Option, Some, None, pos, nat_eq, option_map}
use Rattle.lk_arith.specs.Kinds.{bytes_of}
use Rattle.lk_typed.specs.Ty.{Ty, Void, Int, ThreadId, Mutex, Cond, Pointer, Array, Struct, Function, Opaque}
use Rattle.lk_typed.specs.Env.{Members, NotYet, Begun, Known as KnownMembers, Faulty, members_of}
use Rattle.lk_typed.specs.declared.constant.Constant.{Constant}
use Rattle.lk_typed.specs.declared.constant.Constant.TheVariants.{NotConstant, Known}

-- a struct is complete from the closing brace of its members on (C99 6.7.2.3, 4); of
-- a faulty one nothing is asked
abbrev pub are_known : Members → Bool
are_known NotYet = false
are_known Begun = false
are_known (KnownMembers fields) = true
are_known Faulty = true

abbrev pub is_faulty : Members → Bool
is_faulty NotYet = false
is_faulty Begun = false
is_faulty (KnownMembers fields) = false
is_faulty Faulty = true

-- a complete object type (C99 6.2.5, 1): its size is known
abbrev pub is_complete : List Members → Ty → Bool
is_complete structs Void = false
is_complete structs (Int k) = true
is_complete structs ThreadId = true
is_complete structs Mutex = true
is_complete structs Cond = true
is_complete structs (Pointer t) = true
is_complete structs (Array t n) = not (nat_eq n 0) && is_complete structs t
is_complete structs (Struct s) = are_known (members_of structs s)
is_complete structs (Function result params dots) = false
is_complete structs (Opaque n) = false

-- a struct with a faulty definition, or an array of such: what needs its members or size
-- has neither a type nor a fault
abbrev pub is_broken : List Members → Ty → Bool
is_broken structs Void = false
is_broken structs (Int k) = false
is_broken structs ThreadId = false
is_broken structs Mutex = false
is_broken structs Cond = false
is_broken structs (Pointer t) = false
is_broken structs (Array t n) = is_broken structs t
is_broken structs (Struct s) = is_faulty (members_of structs s)
is_broken structs (Function result params dots) = false
is_broken structs (Opaque n) = false

-- whether it is a struct, a mutex or a condition variable, or an array of such: what 42 speaks of
abbrev pub holds_struct_or_lock : Ty → Bool
holds_struct_or_lock Void = false
holds_struct_or_lock (Int k) = false
holds_struct_or_lock ThreadId = false
holds_struct_or_lock Mutex = true
holds_struct_or_lock Cond = true
holds_struct_or_lock (Pointer t) = false
holds_struct_or_lock (Array t n) = holds_struct_or_lock t
holds_struct_or_lock (Struct s) = true
holds_struct_or_lock (Function result params dots) = false
holds_struct_or_lock (Opaque n) = false

-- how many bytes sizeof counts; pointers and thread ids count 8, and of structs, mutexes and condition
-- variables no number is known
abbrev pub bytes_in : Ty → Option ℕ
bytes_in Void = None
bytes_in (Int k) = Some (bytes_of k)
bytes_in ThreadId = Some 8
bytes_in Mutex = None
bytes_in Cond = None
bytes_in (Pointer t) = Some 8
bytes_in (Array t n) = option_map (λ bytes. n * bytes) (bytes_in t)
bytes_in (Struct s) = None
bytes_in (Function result params dots) = None
bytes_in (Opaque n) = None

-- the constant that a sizeof is (C99 6.6, 6)
abbrev pub constant_of_bytes : Option ℕ → Constant
constant_of_bytes None = NotConstant
constant_of_bytes (Some n) = Known (pos n)
