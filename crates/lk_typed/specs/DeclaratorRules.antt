-- What a declarator makes of the type on its left, and the rules that it may break (C99 6.7.5). A type is
-- missing where something on the left is faulty.
use Rattle.std.specs.Prelude.{ℕ, ◌*◌, ◌++◌, Bool, true, false, not, ◌&&◌, ◌||◌, Option, Some, None, List, [], ◌∷◌, nat_lt, if◌then◌else◌, ℤ, pos, int_le, unsigned_abs}
use Rattle.lk_base.specs.declared.code.Code.{Code}
use Rattle.lk_base.specs.declared.code.Code.TheVariants.{Mismatch, Incomplete, VariableArray, OwnVararg, StructValue, MutexValue}
use Rattle.lk_typed.specs.Env.{Env, Members}
use Rattle.lk_typed.specs.Faults.{Breach, breach}
use Rattle.lk_typed.specs.Sizes.{is_broken, is_complete}
use Rattle.lk_typed.specs.declared.constant.Constant.{Constant}
use Rattle.lk_typed.specs.Typing.{known_value}
use Rattle.lk_typed.specs.Ty.{Ty, Void, Int, ThreadId, Mutex, Cond, Pointer, Array, Struct, Function, Opaque, function_of, holds_of, is_array, is_function, is_lock, is_struct, is_void}

-- a rule of one code
abbrev pub unless : Bool → Code → List Breach
unless true code = []
unless false code = breach code ∷ []

-- a rule that asks for a type
abbrev pub of_type : Option Ty → (Ty → List Breach) → List Breach
of_type None rule = []
of_type (Some t) rule = rule t

-- ---- arrays (C99 6.7.5.2)

-- what stands between the brackets of an array, if anything does: what constant it is (C99 6.6),
-- missing where it has no type
abbrev pub Size : Type 0
Size = Option (Option Constant)

-- the most elements that an array has, those of arrays in it counted
unfoldable pub most_elements : ℕ
most_elements = 1048576

-- how many elements that are no arrays a type has
abbrev pub elements : Ty → ℕ
elements Void = 1
elements (Int k) = 1
elements ThreadId = 1
elements Mutex = 1
elements Cond = 1
elements (Pointer t) = 1
elements (Array t n) = n * elements t
elements (Struct s) = 1
elements (Function result params dots) = 1
elements (Opaque n) = 1

abbrev pub is_size : ℤ → Bool
is_size z = int_le (pos 1) z && int_le z (pos most_elements)

abbrev pub is_few : ℕ → Option Ty → Bool
is_few n None = true
is_few n (Some t) = not (nat_lt most_elements (n * elements t))

-- a constant in range, and with those of the arrays inside not too many
abbrev pub is_size_of : Option Ty → Option ℤ → Bool
is_size_of element None = false
is_size_of element (Some z) = is_size z && is_few (unsigned_abs z) element

-- 31: the size is such a constant; it is missing only where that is admitted
abbrev pub has_size : Bool → Option Ty → Size → Bool
has_size may_be_absent element None = may_be_absent
has_size may_be_absent element (Some None) = true
has_size may_be_absent element (Some (Some c)) = is_size_of element (known_value c)

-- the rules of `declarator[size]`: 25 of the element (C99 6.7.5.2, 1), 31 of the size
abbrev pub array_rules : Env → Bool → Option Ty → Size → List Breach
array_rules env may_be_absent element size =
    of_type element (λ t. unless (is_complete env.structs t) Incomplete) ++
    unless (has_size may_be_absent element size) VariableArray

abbrev pub array_of_size : Option ℤ → Ty → Option Ty
array_of_size None t = None
array_of_size (Some z) t = Some (Array t (unsigned_abs z))

-- the type with so many elements, 0 where no size is written
abbrev pub array_type : Size → Ty → Option Ty
array_type None t = Some (Array t 0)
array_type (Some None) t = None
array_type (Some (Some c)) t = array_of_size (known_value c) t

-- the type of `declarator[size]` for this element; a faulty struct has none, and no fault
abbrev pub array_made : List Members → Size → Ty → Option Ty
array_made structs size t = if is_broken structs t then None else array_type size t

-- ---- pointers (C99 6.7.5.1)

abbrev pub has_dots : Ty → Bool
has_dots t = holds_of (function_of t) (λ f. f.dots)

-- the rules of `* declarator`: 40 of a pointer to a function with `...`
abbrev pub pointer_rules : Option Ty → List Breach
pointer_rules target = of_type target (λ t. unless (not (has_dots t)) OwnVararg)

-- ---- functions (C99 6.7.5.3)

-- the rules of `declarator(parameters)`: 22 where it returns a function or an array (C99 6.7.5.3, 1); 41
-- and 45 where it returns a struct or a lock
abbrev pub function_rules : Option Ty → List Breach
function_rules result =
    of_type result (λ t. unless (not (is_function t || is_array t)) Mismatch ++
    unless (not (is_struct t)) StructValue ++ unless (not (is_lock t)) MutexValue)

-- the type of a parameter as it is written, turned into a pointer where it is an array or a
-- function (C99 6.7.5.3, 7 and 8)
abbrev pub adjusted : Ty → Ty
adjusted Void = Void
adjusted (Int k) = Int k
adjusted ThreadId = ThreadId
adjusted Mutex = Mutex
adjusted Cond = Cond
adjusted (Pointer t) = Pointer t
adjusted (Array t n) = Pointer t
adjusted (Struct s) = Struct s
adjusted (Function result params dots) = Pointer (Function result params dots)
adjusted (Opaque n) = Opaque n

-- the rules of a parameter: 40 of a function with `...`, 41 of a struct, 45 of a lock; 25 of void stands at
-- its name, or here where it has none
abbrev pub parameter_rules : Bool → Option Ty → List Breach
parameter_rules is_named t =
    of_type t (λ t. unless (not (has_dots t)) OwnVararg ++ unless (not (is_struct t)) StructValue ++
    unless (not (is_lock t)) MutexValue ++ unless (is_named || not (is_void t)) Incomplete)
