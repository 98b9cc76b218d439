-- How a value converts to a type: by assignment, argument, result, initialiser or cast
-- (C99 6.3, 6.5.4, 6.5.16.1). A value is what `value` of Addresses gives.
use Rattle.std.specs.Prelude.{Bool, false, not, ◌&&◌, ◌||◌, List, [], ◌++◌, if◌then◌else◌}
use Rattle.lk_base.specs.declared.kind.Kind.{Kind}
use Rattle.lk_base.specs.declared.kind.Kind.TheVariants as kind
use Rattle.lk_base.specs.declared.code.Code.{Code}
use Rattle.lk_base.specs.declared.code.Code.TheVariants.{Mismatch, IntPointerCast, PointerCast, StructValue, MutexValue}
use Rattle.lk_arith.specs.Conversions.{convert}
use Rattle.lk_typed.specs.Ty.{Ty, Void, Int, ThreadId, Mutex, Cond, Pointer, Array, Struct, Function, Opaque, kind_of, target_of, holds_of, is_same, is_same_kind, is_void, is_integer, is_pointer, is_function, is_struct, is_lock, is_thread_id}
use Rattle.lk_typed.specs.declared.constant.Constant.{Constant}
use Rattle.lk_typed.specs.declared.constant.Constant.TheVariants.{NotConstant, Undefined, Known}
use Rattle.lk_typed.specs.Typing.{Typing, Address, NullAddress, if_so, or_at_least, is_null_value, integer, value_of_type}

-- ---- what pointers point to

abbrev pub is_bool : Ty → Bool
is_bool t = holds_of (kind_of t) (is_same_kind kind.Bool)

abbrev pub is_void_pointer : Ty → Bool
is_void_pointer t = holds_of (target_of t) is_void

abbrev pub is_function_pointer : Ty → Bool
is_function_pointer t = holds_of (target_of t) is_function

-- a pointer to an object or incomplete type, void among them (C99 6.2.5, 1)
abbrev pub is_object_pointer : Ty → Bool
is_object_pointer t = holds_of (target_of t) (λ target. not (is_function target))

abbrev pub are_same_pointers : Ty → Ty → Bool
are_same_pointers a b = is_pointer a && is_same a b

-- one is void *, the other a pointer to an object or incomplete type (C99 6.3.2.3, 1)
abbrev pub are_void_and_object : Ty → Ty → Bool
are_void_and_object a b = is_void_pointer a && is_object_pointer b || is_void_pointer b && is_object_pointer a

-- ---- conversions that C and the profile have

-- each line is one of them: integers (6.3.1); a pointer to _Bool (6.3.1.2); a null pointer constant
-- (6.3.2.3, 3); equal pointers; void * (6.3.2.3, 1); thread ids (POSIX, pthread_t)
abbrev pub converts : Ty → Typing → Bool
converts target v =
    is_integer target && is_integer v.type
    || is_bool target && is_pointer v.type
    || is_pointer target && v.is_null
    || are_same_pointers target v.type
    || are_void_and_object target v.type
    || is_thread_id target && is_thread_id v.type

-- ---- the codes of the others

-- 34: between an integer kind, as a target other than _Bool, and a pointer; other than from a null pointer
-- constant (C99 6.3.2.3, 5 and 6)
abbrev pub is_integer_and_pointer : Ty → Typing → Bool
is_integer_and_pointer target v =
    not v.is_null && (is_integer target && not (is_bool target) && is_pointer v.type || is_pointer target && is_integer v.type)

-- two different pointer types neither of which is void *
abbrev pub are_two_pointers : Ty → Ty → Bool
are_two_pointers target t =
    is_pointer target && is_pointer t && not (is_same target t) && not (is_void_pointer target)
    && not (is_void_pointer t)

-- a function pointer beside anything but its own type
abbrev pub is_function_pointer_alone : Ty → Ty → Bool
is_function_pointer_alone target t =
    (is_function_pointer target || is_function_pointer t) && not (is_same target t)

-- 35 (C99 6.3.2.3, 7 and 8)
abbrev pub are_different_pointers : Ty → Ty → Bool
are_different_pointers target t = are_two_pointers target t || is_function_pointer_alone target t

-- the codes that a conversion breaks: none where there is one; else those that name it, by number; else 22
abbrev pub conversion_codes : Ty → Typing → List Code
conversion_codes target v =
    if converts target v then []
    else or_at_least
    (if_so (is_integer_and_pointer target v) IntPointerCast
    ++ if_so (are_different_pointers target v.type) PointerCast
    ++ if_so (is_struct v.type) StructValue
    ++ if_so (is_lock target || is_lock v.type) MutexValue)
    Mismatch

-- a cast may also drop its value; but a mutex and a condition variable are no values (C99 6.3.2.2, 6.5.4, 2)
abbrev pub cast_codes : Ty → Typing → List Code
cast_codes target v = if is_void target then if_so (is_lock v.type) MutexValue else conversion_codes target v

-- ---- what a converted value is

abbrev pub converted_constant : Kind → Constant → Constant
converted_constant k NotConstant = NotConstant
converted_constant k Undefined = Undefined
converted_constant k (Known a) = Known (convert k a)

-- the address that a pointer has after its conversion to a pointer type
abbrev pub converted_address : Typing → Address
converted_address v = if v.is_null then NullAddress else v.address

-- a value that was converted: an integer constant expression stays one among integers (C99 6.6, 6); cast to
-- void *, one of value 0 is a null pointer constant (C99 6.3.2.3, 3)
abbrev pub converted : Ty → Typing → Typing
converted Void v = value_of_type Void
converted (Int k) v = integer k (converted_constant k v.constant)
converted ThreadId v = value_of_type ThreadId
converted Mutex v = value_of_type Mutex
converted Cond v = value_of_type Cond
converted (Pointer t) v =
    record {
      type = Pointer t;
      is_place = false;
      constant = NotConstant;
      is_null = is_void t && is_null_value v.constant;
      address = converted_address v;
    }
converted (Array t n) v = value_of_type (Array t n)
converted (Struct s) v = value_of_type (Struct s)
converted (Function result params dots) v = value_of_type (Function result params dots)
converted (Opaque n) v = value_of_type (Opaque n)
