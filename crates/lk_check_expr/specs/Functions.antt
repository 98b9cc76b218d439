-- The functions of the library in the code, by their names, and how their arguments are passed.
use Rattle.std.specs.Prelude.{◌≡◌, ⊤, Option, Some, None, List, [], ◌∷◌, codes}
use Rattle.std.specs.List.{find}
use Rattle.std.specs.Str.{bytes_eq}
use Rattle.lk_base.specs.declared.code.Code.TheVariants.{Attribute, JoinResult}
use Rattle.lk_types.specs.Table.{Table}
use Rattle.lk_typed.specs.Env.{Name}
use Rattle.lk_typed.specs.Library as spec
use Rattle.lk_typed.specs.Library.{library_function}
use Rattle.lk_typed.specs.Meaning.{meaning_of, IsKnownType}
use Rattle.lk_typed.specs.Ty.{ThreadId, Mutex, Cond, Pointer, Opaque, int, unsigned_int, size_type, char, void_pointer}
use Rattle.lk_check_expr.specs.declared.library.LibraryFunction.{LibraryFunction}
use Rattle.lk_check_expr.specs.declared.library.LibraryFunction.TheVariants as f
use Rattle.lk_check_expr.specs.declared.library.Parameter.{Parameter}
use Rattle.lk_check_expr.specs.declared.library.Parameter.TheVariants as p
use Rattle.lk_check_expr.specs.declared.library.Passing.{Passing}
use Rattle.lk_check_expr.specs.declared.library.Passing.TheVariants.{Converted, NullFor, Routine, Size}
use Rattle.lk_check_expr.specs.declared.library.Asks.{Asks}
use Rattle.lk_check_expr.specs.declared.library.Asks.TheVariants as asks

abbrev pub spelling : LibraryFunction → Name
spelling f.Create = codes "pthread_create"
spelling f.Join = codes "pthread_join"
spelling f.Detach = codes "pthread_detach"
spelling f.ExitThread = codes "pthread_exit"
spelling f.SelfId = codes "pthread_self"
spelling f.Equal = codes "pthread_equal"
spelling f.MutexInit = codes "pthread_mutex_init"
spelling f.MutexDestroy = codes "pthread_mutex_destroy"
spelling f.MutexLock = codes "pthread_mutex_lock"
spelling f.MutexUnlock = codes "pthread_mutex_unlock"
spelling f.CondInit = codes "pthread_cond_init"
spelling f.CondDestroy = codes "pthread_cond_destroy"
spelling f.CondSignal = codes "pthread_cond_signal"
spelling f.CondBroadcast = codes "pthread_cond_broadcast"
spelling f.CondWait = codes "pthread_cond_wait"
spelling f.Malloc = codes "malloc"
spelling f.Calloc = codes "calloc"
spelling f.Free = codes "free"
spelling f.Exit = codes "exit"
spelling f.Abort = codes "abort"
spelling f.Puts = codes "puts"
spelling f.Perror = codes "perror"
spelling f.Atoi = codes "atoi"
spelling f.Printf = codes "printf"
spelling f.Putchar = codes "putchar"
spelling f.Getchar = codes "getchar"
spelling f.Rand = codes "rand"
spelling f.Sleep = codes "sleep"

-- all of them
abbrev pub functions : List LibraryFunction
functions =
    f.Create ∷ f.Join ∷ f.Detach ∷ f.ExitThread ∷ f.SelfId ∷ f.Equal ∷ f.MutexInit ∷ f.MutexDestroy ∷
    f.MutexLock ∷ f.MutexUnlock ∷ f.CondInit ∷ f.CondDestroy ∷ f.CondSignal ∷ f.CondBroadcast ∷ f.CondWait ∷
    f.Malloc ∷ f.Calloc ∷ f.Free ∷ f.Exit ∷ f.Abort ∷ f.Puts ∷ f.Perror ∷ f.Atoi ∷ f.Printf ∷ f.Putchar ∷
    f.Getchar ∷ f.Rand ∷ f.Sleep ∷ []

unfoldable pub function_named : Name → Option LibraryFunction
function_named name = find (λ function. bytes_eq (spelling function) name) functions

-- the row of a function in the table of the rules
abbrev pub rows_of : LibraryFunction → Option spec.LibraryFunction
rows_of function = library_function (spelling function)

abbrev pub row_of : Option LibraryFunction → Option spec.LibraryFunction
row_of None = None
row_of (Some function) = rows_of function

abbrev pub IsPassing : Table → Passing → spec.Passing → Type 0
IsPassing table (Converted t) (spec.Converted u) = IsKnownType table t × (meaning_of table t ≡ u)
IsPassing table (Converted t) (spec.NullFor u code) = ⊥
IsPassing table (Converted t) spec.Routine = ⊥
IsPassing table (Converted t) spec.Size = ⊥
IsPassing table (NullFor code) (spec.Converted u) = ⊥
IsPassing table (NullFor code) (spec.NullFor u other) = code ≡ other
IsPassing table (NullFor code) spec.Routine = ⊥
IsPassing table (NullFor code) spec.Size = ⊥
IsPassing table Routine (spec.Converted u) = ⊥
IsPassing table Routine (spec.NullFor u code) = ⊥
IsPassing table Routine spec.Routine = ⊤
IsPassing table Routine spec.Size = ⊥
IsPassing table Size (spec.Converted u) = ⊥
IsPassing table Size (spec.NullFor u code) = ⊥
IsPassing table Size spec.Routine = ⊥
IsPassing table Size spec.Size = ⊤

-- how an argument of a library function is passed, in the words of the rules
abbrev pub parameter_in : Parameter → spec.Passing
parameter_in p.Int = spec.Converted int
parameter_in p.UnsignedInt = spec.Converted unsigned_int
parameter_in p.Count = spec.Converted size_type
parameter_in p.Thread = spec.Converted ThreadId
parameter_in p.ToThread = spec.Converted (Pointer ThreadId)
parameter_in p.ToMutex = spec.Converted (Pointer Mutex)
parameter_in p.ToCond = spec.Converted (Pointer Cond)
parameter_in p.ToText = spec.Converted (Pointer char)
parameter_in p.ToAnything = spec.Converted void_pointer
parameter_in p.NoThreadAttributes = spec.NullFor (Pointer (Opaque 0)) Attribute
parameter_in p.NoMutexAttributes = spec.NullFor (Pointer (Opaque 1)) Attribute
parameter_in p.NoCondAttributes = spec.NullFor (Pointer (Opaque 2)) Attribute
parameter_in p.NoResult = spec.NullFor (Pointer void_pointer) JoinResult
parameter_in p.Routine = spec.Routine
parameter_in p.Size = spec.Size

abbrev pub asked_by : Asks → spec.Asks
asked_by asks.NothingMore = spec.NothingMore
asked_by asks.Format = spec.AFormat
asked_by asks.Size = spec.ASize
asked_by asks.ElementSize = spec.AnElementSize
