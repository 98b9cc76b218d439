-- The library as one table: each function's type, and how each of its arguments is passed (POSIX, pthread.h;
-- C99 7.19, 7.20); and the other predeclared names.
use Rattle.std.specs.Prelude.{Bool, true, false, Option, List, [], ◌∷◌, ◌++◌, map, codes}
use Rattle.lk_base.specs.declared.code.Code.{Code}
use Rattle.lk_base.specs.declared.code.Code.TheVariants.{Attribute, JoinResult}
use Rattle.lk_typed.specs.declared.entity.Linkage.{Linkage}
use Rattle.lk_typed.specs.declared.entity.Linkage.TheVariants as linkage
use Rattle.lk_typed.specs.declared.entity.Defines.{Defines}
use Rattle.lk_typed.specs.declared.entity.Defines.TheVariants as defines
use Rattle.lk_typed.specs.Ty.{Ty, Void, ThreadId, Mutex, Cond, Pointer, Function, Opaque, types_of, int, unsigned_int, size_type, char, void_pointer}
use Rattle.lk_typed.specs.Env.{Name, Meaning, AFunction, ATypedef, AnInitialiserWord, Declared, is_name, latest}

-- how an argument is passed
pub data Passing : Type 0 where
  -- converted to the parameter's type
  Converted : Ty → Passing
  -- not converted: it must be a null pointer constant, else this code holds
  NullFor : Ty → Code → Passing
  -- not converted: it must be the name of a start routine
  Routine : Passing
  -- converted to size_t: the size of an allocation
  Size : Passing

-- what a call of the function is asked beside its arguments
pub data Asks : Type 0 where
  NothingMore : Asks
  -- printf: its first argument is a format
  AFormat : Asks
  -- malloc: its argument is the size of one object or of an array
  ASize : Asks
  -- calloc: its second argument is the size of an element
  AnElementSize : Asks

pub record LibraryFunction : Type 0 where
  pub name : Name
  pub result : Ty
  pub passes : List Passing
  pub dots : Bool
  pub asks : Asks

-- void *(void *) (POSIX, pthread_create)
abbrev pub routine_type : Ty
routine_type = Function void_pointer (types_of (void_pointer ∷ [])) false

abbrev pub passed_type : Passing → Ty
passed_type (Converted t) = t
passed_type (NullFor t code) = t
passed_type Routine = Pointer routine_type
passed_type Size = size_type

abbrev pub type_of_function : LibraryFunction → Ty
type_of_function f = Function f.result (types_of (map passed_type f.passes)) f.dots

abbrev row : Name → Ty → List Passing → LibraryFunction
row name result passes =
    record { name = name; result = result; passes = passes; dots = false; asks = NothingMore }

abbrev mutex_pointer : Passing
mutex_pointer = Converted (Pointer Mutex)

abbrev cond_pointer : Passing
cond_pointer = Converted (Pointer Cond)

abbrev text_pointer : Passing
text_pointer = Converted (Pointer char)

unfoldable pub library : List LibraryFunction
library =
    row (codes "pthread_create") int
    (Converted (Pointer ThreadId) ∷ NullFor (Pointer (Opaque 0)) Attribute ∷ Routine ∷ Converted void_pointer ∷ [])
    ∷ row (codes "pthread_join") int (Converted ThreadId ∷ NullFor (Pointer void_pointer) JoinResult ∷ [])
    ∷ row (codes "pthread_detach") int (Converted ThreadId ∷ [])
    ∷ row (codes "pthread_exit") Void (Converted void_pointer ∷ [])
    ∷ row (codes "pthread_self") ThreadId []
    ∷ row (codes "pthread_equal") int (Converted ThreadId ∷ Converted ThreadId ∷ [])
    ∷ row (codes "pthread_mutex_init") int (mutex_pointer ∷ NullFor (Pointer (Opaque 1)) Attribute ∷ [])
    ∷ row (codes "pthread_mutex_destroy") int (mutex_pointer ∷ [])
    ∷ row (codes "pthread_mutex_lock") int (mutex_pointer ∷ [])
    ∷ row (codes "pthread_mutex_unlock") int (mutex_pointer ∷ [])
    ∷ row (codes "pthread_cond_init") int (cond_pointer ∷ NullFor (Pointer (Opaque 2)) Attribute ∷ [])
    ∷ row (codes "pthread_cond_destroy") int (cond_pointer ∷ [])
    ∷ row (codes "pthread_cond_signal") int (cond_pointer ∷ [])
    ∷ row (codes "pthread_cond_broadcast") int (cond_pointer ∷ [])
    ∷ row (codes "pthread_cond_wait") int (cond_pointer ∷ mutex_pointer ∷ [])
    ∷ record { name = codes "malloc"; result = void_pointer; passes = Size ∷ []; dots = false; asks = ASize }
    ∷ record { name = codes "calloc"; result = void_pointer; passes = Converted size_type ∷ Size ∷ []; dots = false; asks = AnElementSize }
    ∷ row (codes "free") Void (Converted void_pointer ∷ [])
    ∷ row (codes "exit") Void (Converted int ∷ [])
    ∷ row (codes "abort") Void []
    ∷ row (codes "puts") int (text_pointer ∷ [])
    ∷ row (codes "perror") Void (text_pointer ∷ [])
    ∷ row (codes "atoi") int (text_pointer ∷ [])
    ∷ record { name = codes "printf"; result = int; passes = text_pointer ∷ []; dots = true; asks = AFormat }
    ∷ row (codes "putchar") int (Converted int ∷ [])
    ∷ row (codes "getchar") int []
    ∷ row (codes "rand") int []
    ∷ row (codes "sleep") unsigned_int (Converted unsigned_int ∷ [])
    ∷ []

abbrev pub library_function : Name → Option LibraryFunction
library_function name = latest (λ f. is_name f.name name) library

-- ---- the declarations with which each source begins, in its file scope

abbrev declared : Linkage → Defines → Name → Meaning → Declared
declared reach defined name meaning =
    record { name = name; meaning = meaning; linkage = reach; defines = defined; ordinal = 0 }

abbrev pub predeclared_types : List Declared
predeclared_types =
    declared linkage.None defines.Nothing (codes "pthread_t") (ATypedef ThreadId)
    ∷ declared linkage.None defines.Nothing (codes "pthread_mutex_t") (ATypedef Mutex)
    ∷ declared linkage.None defines.Nothing (codes "pthread_cond_t") (ATypedef Cond)
    ∷ declared linkage.None defines.Nothing (codes "size_t") (ATypedef size_type)
    ∷ declared linkage.None defines.Nothing (codes "pthread_attr_t") (ATypedef (Opaque 0))
    ∷ declared linkage.None defines.Nothing (codes "pthread_mutexattr_t") (ATypedef (Opaque 1))
    ∷ declared linkage.None defines.Nothing (codes "pthread_condattr_t") (ATypedef (Opaque 2))
    ∷ declared linkage.None defines.Nothing (codes "PTHREAD_MUTEX_INITIALIZER") (AnInitialiserWord Mutex)
    ∷ declared linkage.None defines.Nothing (codes "PTHREAD_COND_INITIALIZER") (AnInitialiserWord Cond)
    ∷ []

-- a library function has external linkage, and what it does is its body
unfoldable pub predeclared_names : List Declared
predeclared_names =
    predeclared_types ++ map
    (λ f. declared linkage.External defines.Whole f.name (AFunction (type_of_function f))) library
