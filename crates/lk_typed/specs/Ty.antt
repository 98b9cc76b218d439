-- The types of C as trees (C99 6.2.5), and which tree a number of a table of types stands for. Qualifiers
-- count nowhere, and an enumeration is int.
use Rattle.std.specs.Prelude.{ℕ, ◌≡◌, ◌&&◌, ◌||◌, Bool, true, false, Option, Some, None, List, [], ◌∷◌, slice_get, nat_eq, is_some}
use Rattle.std.specs.Bool.{beq}
use Rattle.lk_base.specs.declared.kind.Kind.{Kind}
use Rattle.lk_base.specs.declared.kind.Kind.TheVariants as kind
use Rattle.lk_types.specs.declared.c_type.CType.TheVariants as form
use Rattle.lk_types.specs.declared.c_type.CType.{CType}
use Rattle.lk_types.specs.Predeclared.{kind_id}

mutual
  pub data Ty : Type 0 where
    Void : Ty
    -- an integer type
    Int : Kind → Ty
    -- pthread_t, pthread_mutex_t, pthread_cond_t
    ThreadId : Ty
    Mutex : Ty
    Cond : Ty
    Pointer : Ty → Ty
    -- an array of elements of a type, and how many there are; 0 stands for no size
    Array : Ty → ℕ → Ty
    -- the struct with this number
    Struct : ℕ → Ty
    -- a function: its result, the types of its parameters, and whether further arguments may follow
    Function : Ty → Tys → Bool → Ty
    -- a type that is never complete: 0 pthread_attr_t, 1 pthread_mutexattr_t, 2 pthread_condattr_t
    Opaque : ℕ → Ty

  -- a list of types
  pub data Tys : Type 0 where
    none : Tys
    more : Ty → Tys → Tys

abbrev pub types_of : List Ty → Tys
types_of [] = none
types_of (t ∷ ts) = more t (types_of ts)

abbrev pub list_of : Tys → List Ty
list_of none = []
list_of (more t ts) = t ∷ list_of ts

-- ---- what a type is

-- the kind of an integer type
abbrev pub kind_of : Ty → Option Kind
kind_of Void = None
kind_of (Int k) = Some k
kind_of ThreadId = None
kind_of Mutex = None
kind_of Cond = None
kind_of (Pointer t) = None
kind_of (Array t n) = None
kind_of (Struct s) = None
kind_of (Function result params dots) = None
kind_of (Opaque n) = None

-- the type that a pointer points to
abbrev pub target_of : Ty → Option Ty
target_of Void = None
target_of (Int k) = None
target_of ThreadId = None
target_of Mutex = None
target_of Cond = None
target_of (Pointer t) = Some t
target_of (Array t n) = None
target_of (Struct s) = None
target_of (Function result params dots) = None
target_of (Opaque n) = None

-- the type of the elements of an array, and how many there are
abbrev pub array_of : Ty → Option (Ty × ℕ)
array_of Void = None
array_of (Int k) = None
array_of ThreadId = None
array_of Mutex = None
array_of Cond = None
array_of (Pointer t) = None
array_of (Array t n) = Some (t, n)
array_of (Struct s) = None
array_of (Function result params dots) = None
array_of (Opaque n) = None

-- the number of a struct
abbrev pub struct_of : Ty → Option ℕ
struct_of Void = None
struct_of (Int k) = None
struct_of ThreadId = None
struct_of Mutex = None
struct_of Cond = None
struct_of (Pointer t) = None
struct_of (Array t n) = None
struct_of (Struct s) = Some s
struct_of (Function result params dots) = None
struct_of (Opaque n) = None

pub record Signature : Type 0 where
  pub result : Ty
  pub params : Tys
  pub dots : Bool

-- the result and parameters of a function
abbrev pub function_of : Ty → Option Signature
function_of Void = None
function_of (Int k) = None
function_of ThreadId = None
function_of Mutex = None
function_of Cond = None
function_of (Pointer t) = None
function_of (Array t n) = None
function_of (Struct s) = None
function_of (Function result params dots) = Some (record { result = result; params = params; dots = dots })
function_of (Opaque n) = None

-- the number of a type that is never complete
abbrev pub opaque_of : Ty → Option ℕ
opaque_of Void = None
opaque_of (Int k) = None
opaque_of ThreadId = None
opaque_of Mutex = None
opaque_of Cond = None
opaque_of (Pointer t) = None
opaque_of (Array t n) = None
opaque_of (Struct s) = None
opaque_of (Function result params dots) = None
opaque_of (Opaque n) = Some n

abbrev pub is_void : Ty → Bool
is_void Void = true
is_void (Int k) = false
is_void ThreadId = false
is_void Mutex = false
is_void Cond = false
is_void (Pointer t) = false
is_void (Array t n) = false
is_void (Struct s) = false
is_void (Function result params dots) = false
is_void (Opaque n) = false

abbrev pub is_thread_id : Ty → Bool
is_thread_id Void = false
is_thread_id (Int k) = false
is_thread_id ThreadId = true
is_thread_id Mutex = false
is_thread_id Cond = false
is_thread_id (Pointer t) = false
is_thread_id (Array t n) = false
is_thread_id (Struct s) = false
is_thread_id (Function result params dots) = false
is_thread_id (Opaque n) = false

abbrev pub is_mutex : Ty → Bool
is_mutex Void = false
is_mutex (Int k) = false
is_mutex ThreadId = false
is_mutex Mutex = true
is_mutex Cond = false
is_mutex (Pointer t) = false
is_mutex (Array t n) = false
is_mutex (Struct s) = false
is_mutex (Function result params dots) = false
is_mutex (Opaque n) = false

abbrev pub is_cond : Ty → Bool
is_cond Void = false
is_cond (Int k) = false
is_cond ThreadId = false
is_cond Mutex = false
is_cond Cond = true
is_cond (Pointer t) = false
is_cond (Array t n) = false
is_cond (Struct s) = false
is_cond (Function result params dots) = false
is_cond (Opaque n) = false

abbrev pub is_integer : Ty → Bool
is_integer t = is_some (kind_of t)

abbrev pub is_pointer : Ty → Bool
is_pointer t = is_some (target_of t)

abbrev pub is_array : Ty → Bool
is_array t = is_some (array_of t)

abbrev pub is_struct : Ty → Bool
is_struct t = is_some (struct_of t)

abbrev pub is_function : Ty → Bool
is_function t = is_some (function_of t)

-- a mutex or a condition variable (POSIX, sys/types.h)
abbrev pub is_lock : Ty → Bool
is_lock t = is_mutex t || is_cond t

-- ---- when two types are one

-- something that is there and holds
abbrev pub holds_of : {A : Type 0} → Option A → (A → Bool) → Bool
holds_of None test = false
holds_of (Some a) test = test a

abbrev pub is_same_kind : Kind → Kind → Bool
is_same_kind j k = nat_eq (kind_id j) (kind_id k)

abbrev mutual
  -- the same type, where sizes of arrays may differ as `sizes` says
  pub is_equal_but : (ℕ → ℕ → Bool) → Ty → Ty → Bool
  is_equal_but sizes Void b = is_void b
  is_equal_but sizes (Int k) b = holds_of (kind_of b) (is_same_kind k)
  is_equal_but sizes ThreadId b = is_thread_id b
  is_equal_but sizes Mutex b = is_mutex b
  is_equal_but sizes Cond b = is_cond b
  is_equal_but sizes (Pointer t) b = holds_of (target_of b) (λ u. is_equal_but sizes t u)
  is_equal_but sizes (Array t n) b =
      holds_of (array_of b) (λ other. is_equal_but sizes t other.0 && sizes n other.1)
  is_equal_but sizes (Struct s) b = holds_of (struct_of b) (nat_eq s)
  is_equal_but sizes (Function result params dots) b =
      holds_of (function_of b)
      (λ other. is_equal_but sizes result other.result && are_equal_but sizes params other.params && beq dots other.dots)
  is_equal_but sizes (Opaque n) b = holds_of (opaque_of b) (nat_eq n)

  pub are_equal_but : (ℕ → ℕ → Bool) → Tys → Tys → Bool
  are_equal_but sizes none none = true
  are_equal_but sizes none (more u us) = false
  are_equal_but sizes (more t ts) none = false
  are_equal_but sizes (more t ts) (more u us) = is_equal_but sizes t u && are_equal_but sizes ts us

-- the same type exactly
unfoldable pub is_same : Ty → Ty → Bool
is_same = is_equal_but nat_eq

-- an array without a size equals one with a size and the same elements
abbrev pub sizes_or_none : ℕ → ℕ → Bool
sizes_or_none n m = nat_eq n m || nat_eq n 0 || nat_eq m 0

-- types that two declarations of one name may have (C99 6.2.7)
unfoldable pub is_redeclarable : Ty → Ty → Bool
is_redeclarable = is_equal_but sizes_or_none

-- ---- types that the rules name

abbrev pub int : Ty
int = Int kind.Int

abbrev pub long : Ty
long = Int kind.Long

abbrev pub unsigned_int : Ty
unsigned_int = Int kind.UInt

-- size_t
abbrev pub size_type : Ty
size_type = Int kind.ULong

abbrev pub char : Ty
char = Int kind.Char

abbrev pub void_pointer : Ty
void_pointer = Pointer Void

-- ---- the tree that a number stands for

mutual
  pub data Means (types : List CType) : ℕ → Ty → Type 0 where
    a_void : {t : ℕ} → slice_get types t ≡ Some form.Void → Means types t Void
    an_integer : {t : ℕ} {k : Kind} → slice_get types t ≡ Some (form.Int k) → Means types t (Int k)
    a_thread_id : {t : ℕ} → slice_get types t ≡ Some form.ThreadId → Means types t ThreadId
    a_mutex : {t : ℕ} → slice_get types t ≡ Some form.Mutex → Means types t Mutex
    a_cond : {t : ℕ} → slice_get types t ≡ Some form.Cond → Means types t Cond
    a_pointer : {t u : ℕ} {target : Ty} → slice_get types t ≡ Some (form.Pointer u) → Means types u target →
        Means types t (Pointer target)
    an_array : {t u n : ℕ} {element : Ty} → slice_get types t ≡ Some (form.Array u n) →
        Means types u element → Means types t (Array element n)
    a_struct : {t s : ℕ} → slice_get types t ≡ Some (form.Struct s) → Means types t (Struct s)
    a_function : {t r : ℕ} {ps : List ℕ} {dots : Bool} {result : Ty} {params : Tys} →
        slice_get types t ≡ Some (form.Function r ps dots) → Means types r result → MeanEach types ps params →
        Means types t (Function result params dots)
    an_opaque : {t n : ℕ} → slice_get types t ≡ Some (form.Opaque n) → Means types t (Opaque n)

  pub data MeanEach (types : List CType) : List ℕ → Tys → Type 0 where
    no_types : MeanEach types [] none
    a_type_more : {t : ℕ} {ts : List ℕ} {a : Ty} {others : Tys} → Means types t a → MeanEach types ts others →
        MeanEach types (t ∷ ts) (more a others)
