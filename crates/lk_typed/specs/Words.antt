-- Names, constants and texts (C99 6.4.4, 6.4.5, 6.5.1), and the names whose use is refused.
use Rattle.std.specs.Prelude.{ℕ, ◌+◌, Bool, true, false, not, ◌&&◌, ◌||◌, Option, Some, None, List, [], ◌∷◌, ◌++◌, ℤ, pos, length, codes, is_some, nat_eq, if◌then◌else◌}
use Rattle.lk_base.specs.declared.kind.Kind.{Kind}
use Rattle.lk_base.specs.declared.kind.Kind.TheVariants as kind
use Rattle.lk_base.specs.declared.code.Code.{Code}
use Rattle.lk_base.specs.declared.code.Code.TheVariants.{Undeclared, Mismatch, TryLock, LongJmp, Atomic, UnknownExternal, CallsMain}
use Rattle.lk_base.specs.Code.{number_of}
use Rattle.lk_typed.specs.Ty.{Ty, Signature, Array, function_of, holds_of, char, is_void, is_integer}
use Rattle.lk_typed.specs.Env.{Env, Name, Role, AsOperand, ConvertedTo, AsFunction, AsRoutine, Declared, Meaning, AnObject, AFunction, ATypedef, AnEnumerator, AnInitialiserWord, AFaultyName, is_name, is_one_of, look_up}
use Rattle.lk_typed.specs.declared.constant.Constant.TheVariants.{Known, NotConstant}
use Rattle.lk_typed.specs.Typing.{Typing, Verdict, Typed, Broken, Silent, Address, Anchor, AtObject, AtText, NotAddress, FunctionAddress, Inside, place_of_type, integer, if_so, unless, or_at_least}
use Rattle.lk_typed.specs.Library.{library_function}

-- ---- names whose use as an expression is refused

pub record RefusedName : Type 0 where
  -- the name, or what such names begin with
  pub word : Name
  pub is_beginning : Bool
  pub code : Code

abbrev the_name : Code → Name → RefusedName
the_name code word = record { word = word; is_beginning = false; code = code }

abbrev beginning : Code → Name → RefusedName
beginning code word = record { word = word; is_beginning = true; code = code }

unfoldable pub refused_names : List RefusedName
refused_names =
    the_name TryLock (codes "pthread_mutex_trylock")
    ∷ the_name TryLock (codes "pthread_mutex_timedlock")
    ∷ beginning TryLock (codes "pthread_rwlock_")
    ∷ the_name LongJmp (codes "setjmp")
    ∷ the_name LongJmp (codes "_setjmp")
    ∷ the_name LongJmp (codes "sigsetjmp")
    ∷ the_name LongJmp (codes "longjmp")
    ∷ the_name LongJmp (codes "siglongjmp")
    ∷ beginning Atomic (codes "__sync_")
    ∷ beginning Atomic (codes "__atomic_")
    ∷ beginning Atomic (codes "atomic_")
    ∷ the_name UnknownExternal (codes "realloc")
    ∷ the_name UnknownExternal (codes "memset")
    ∷ the_name UnknownExternal (codes "memcpy")
    ∷ the_name UnknownExternal (codes "memmove")
    ∷ the_name UnknownExternal (codes "pthread_cond_timedwait")
    ∷ the_name UnknownExternal (codes "pthread_cancel")
    ∷ the_name UnknownExternal (codes "pthread_once")
    ∷ beginning UnknownExternal (codes "pthread_spin_")
    ∷ beginning UnknownExternal (codes "pthread_barrier_")
    ∷ beginning UnknownExternal (codes "pthread_key_")
    ∷ beginning UnknownExternal (codes "pthread_setspecific")
    ∷ beginning UnknownExternal (codes "pthread_getspecific")
    ∷ beginning UnknownExternal (codes "pthread_cleanup_")
    ∷ beginning UnknownExternal (codes "sem_")
    ∷ []

abbrev pub begins_with : Name → Name → Bool
begins_with [] name = true
begins_with (byte ∷ bytes) [] = false
begins_with (byte ∷ bytes) (first ∷ others) = nat_eq byte first && begins_with bytes others

abbrev pub is_refused_by : RefusedName → Name → Bool
is_refused_by refused name =
    if refused.is_beginning then begins_with refused.word name else is_name refused.word name

abbrev pub codes_in : List RefusedName → Name → List Code
codes_in [] name = []
codes_in (refused ∷ others) name = if_so (is_refused_by refused name) refused.code ++ codes_in others name

-- 36, 37, 38 and 43: whatever the name is declared as, unless the source defines a function of that name
abbrev pub refused_codes : Env → Name → List Code
refused_codes env name = if is_one_of env.outside.defined name then [] else codes_in refused_names name

-- ---- functions

abbrev pub is_main : Name → Bool
is_main = is_name (codes "main")

abbrev pub is_library : Name → Bool
is_library name = is_some (library_function name)

-- a function that --externs names and the source doesn't define; a library
-- function and main stay what they are
abbrev pub is_extern : Env → Name → Bool
is_extern env name =
    is_one_of env.outside.externs name && not (is_one_of env.outside.defined name) && not (is_library name)
    && not (is_main name)

-- a library or extern function's name stands only as the function of a call; as a start
-- routine it is a fault of that call
abbrev pub may_be_library : Role → Bool
may_be_library AsOperand = false
may_be_library (ConvertedTo t) = false
may_be_library AsFunction = true
may_be_library AsRoutine = true

-- an extern function gives nothing or an integer
abbrev pub is_extern_result : Signature → Bool
is_extern_result f = is_void f.result || is_integer f.result

-- 48, 22 and 43 of the name of a function
abbrev pub function_codes : Env → Name → Ty → List Code
function_codes env name t =
    if_so (is_main name) CallsMain
    ++ if_so ((is_library name || is_extern env name) && not (may_be_library env.role)) Mismatch
    ++ if_so (is_extern env name && not (holds_of (function_of t) is_extern_result)) UnknownExternal

-- ---- names as expressions

abbrev pub function_named : Ty → ℕ → Typing
function_named t n =
    record { type = t; is_place = false; constant = NotConstant; is_null = false; address = FunctionAddress n }

-- what has static storage is alone in its array (C99 6.5.6, 7)
abbrev pub whole_of : Anchor → Address
whole_of anchor = Inside (record { anchor = anchor; steps = []; is_element = false; index = 0; count = 1 })

abbrev pub address_of_storage : Bool → ℕ → Address
address_of_storage is_static n = if is_static then whole_of (AtObject n) else NotAddress

-- a use whose declaration is faulty is a fault only where its name is refused
abbrev pub silent_unless : List Code → Verdict
silent_unless [] = Silent
silent_unless (code ∷ others) = Broken (code ∷ others)

-- an object is a place, a function isn't, an enumerator is a constant; a typedef name and an
-- initialiser word are no expressions
abbrev pub use_of : Env → Name → ℕ → Meaning → Verdict
use_of env name n (AnObject t is_static) =
    unless (refused_codes env name) (place_of_type t (address_of_storage is_static n))
use_of env name n (AFunction t) =
    unless (refused_codes env name ++ function_codes env name t) (function_named t n)
use_of env name n (ATypedef t) = Broken (Mismatch ∷ refused_codes env name)
use_of env name n (AnEnumerator z) = unless (refused_codes env name) (integer kind.Int (Known z))
use_of env name n (AnInitialiserWord t) = Broken (Mismatch ∷ refused_codes env name)
use_of env name n AFaultyName = silent_unless (refused_codes env name)

abbrev pub use_of_declared : Env → Name → Option Declared → Verdict
use_of_declared env name None = Broken (or_at_least (refused_codes env name) Undeclared)
use_of_declared env name (Some d) = use_of env name d.ordinal d.meaning

abbrev pub word_rule : Env → Name → Verdict
word_rule env name = use_of_declared env name (look_up env name)

abbrev is_told_with_name : ℕ → Bool
is_told_with_name number =
    nat_eq number 20 || nat_eq number 36 || nat_eq number 37 || nat_eq number 38 || nat_eq number 43

-- the name that a refusal at a word tells: with 20, 36, 37, 38 and 43 the word, else none
abbrev pub told_name : Code → Name → Name
told_name code word = if is_told_with_name (number_of code) then word else []

-- ---- constants and texts

-- an integer constant of its kind (C99 6.4.4.1, 5)
abbrev pub number_rule : Kind → ℕ → Verdict
number_rule k n = Typed (integer k (Known (pos n)))

-- a character constant is an int (C99 6.4.4.4, 10)
abbrev pub char_rule : ℤ → Verdict
char_rule n = Typed (integer kind.Int (Known n))

-- a text is a place of static storage: an array of char with a zero at its end (C99 6.4.5, 5)
abbrev pub text_rule : ℕ → List ℕ → Verdict
text_rule n bytes = Typed (place_of_type (Array char (length bytes + 1)) (whole_of (AtText n)))
