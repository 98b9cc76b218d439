-- The rules of initialisers (C99 6.7.8). Each inner struct and each inner array has braces of its own, or is
-- an array that a text initialises; so an entry of a list initialises one element or one member, in order.
use Rattle.std.specs.Prelude.{ℕ, ◌||◌, ◌++◌, Bool, true, false, not, Option, Some, None, List, [], ◌∷◌, nat_eq, nat_le, suc, length, slice_get, if◌then◌else◌}
use Rattle.lk_base.specs.declared.kind.Kind.{Kind}
use Rattle.lk_base.specs.declared.kind.Kind.TheVariants as kind
use Rattle.lk_base.specs.declared.code.Code.TheVariants.{Mismatch, NotConstant, BadInitialiser, VariableArray, StructValue, MutexValue}
use Rattle.lk_typed.specs.DeclaratorRules.{most_elements, unless}
use Rattle.lk_typed.specs.Faults.{Breach, breach}
use Rattle.lk_typed.specs.Ty.{Ty, Void, Int, ThreadId, Mutex, Cond, Pointer, Array, Struct, Function, Opaque, holds_of, is_same, is_struct}

-- ---- what an initialiser is asked for

-- an expression, where it has a type, or an initialiser word
pub record Seen : Type 0 where
  -- the type of its value, or of the object that the word initialises
  pub type : Ty
  -- how many bytes a text has, without the zero at its end
  pub text : Option ℕ
  -- the type whose initialiser word it is
  pub word : Option Ty
  -- the codes of its conversion to the object's type
  pub conversion : List Breach
  -- whether it is an integer constant or an address constant (C99 6.6, 6 to 9)
  pub is_constant : Bool

-- what is initialised
pub record Object : Type 0 where
  pub type : Ty
  -- whether it is an element or a member of what a list round it initialises
  pub is_inner : Bool
  -- whether its storage is static
  pub is_static : Bool

-- a kind whose arrays a text may initialise (C99 6.7.8, 14)
abbrev pub is_character : Kind → Bool
is_character kind.Bool = false
is_character kind.Char = true
is_character kind.SChar = true
is_character kind.UChar = true
is_character kind.Short = false
is_character kind.UShort = false
is_character kind.Int = false
is_character kind.UInt = false
is_character kind.Long = false
is_character kind.ULong = false
is_character kind.LLong = false
is_character kind.ULLong = false

abbrev pub is_character_type : Ty → Bool
is_character_type Void = false
is_character_type (Int k) = is_character k
is_character_type ThreadId = false
is_character_type Mutex = false
is_character_type Cond = false
is_character_type (Pointer t) = false
is_character_type (Array t n) = false
is_character_type (Struct s) = false
is_character_type (Function result params dots) = false
is_character_type (Opaque n) = false

-- ---- expressions

-- 27 where the braces are missing round something inner, else the code of the outermost object
abbrev pub without_braces : Object → List Breach → List Breach
without_braces object outermost = if object.is_inner then breach BadInitialiser ∷ [] else outermost

-- a struct: 41 of a struct's value, 22 of any other one
abbrev pub struct_rules : Object → Seen → List Breach
struct_rules object seen =
    without_braces object (if is_struct seen.type then breach StructValue ∷ [] else breach Mismatch ∷ [])

-- the text and its zero fit into an array, where the zero may be left out (C99 6.7.8, 14); an
-- array without a size has room
abbrev pub text_rules : ℕ → ℕ → List Breach
text_rules n bytes = unless (nat_eq n 0 || nat_le bytes n) BadInitialiser

abbrev pub array_by : Object → Ty → ℕ → Option ℕ → List Breach
array_by object element n None = without_braces object (breach Mismatch ∷ [])
array_by object element n (Some bytes) =
    if is_character_type element then text_rules n bytes else without_braces object (breach Mismatch ∷ [])

-- a mutex or condition variable: by its own word alone (POSIX, pthread_mutex_init)
abbrev pub lock_rules : Ty → Seen → List Breach
lock_rules lock seen = unless (holds_of seen.word (is_same lock)) MutexValue

-- an object that holds a value: the codes of the conversion (C99 6.7.8, 11),
-- and 24 of a static one (6.7.8, 4)
abbrev pub scalar_rules : Object → Seen → List Breach
scalar_rules object seen = seen.conversion ++ unless (not object.is_static || seen.is_constant) NotConstant

abbrev pub by_expression : Object → Seen → Ty → List Breach
by_expression object seen Void = []
by_expression object seen (Int k) = scalar_rules object seen
by_expression object seen ThreadId = scalar_rules object seen
by_expression object seen Mutex = lock_rules Mutex seen
by_expression object seen Cond = lock_rules Cond seen
by_expression object seen (Pointer t) = scalar_rules object seen
by_expression object seen (Array t n) = array_by object t n seen.text
by_expression object seen (Struct s) = struct_rules object seen
by_expression object seen (Function result params dots) = []
by_expression object seen (Opaque n) = []

-- the rules of an initialiser that is an expression: they hold at it
abbrev pub expression_rules : Object → Option Seen → List Breach
expression_rules object None = []
expression_rules object (Some seen) = by_expression object seen object.type

-- ---- lists in braces

-- a list: how many entries it has, whether one has a designator, and the bytes of the text that is all of it
pub record Braces : Type 0 where
  pub entries : ℕ
  pub has_designator : Bool
  pub text : Option ℕ

-- whether a text in its own braces initialises an array of these elements
abbrev pub is_text : Ty → Option ℕ → Bool
is_text element None = false
is_text element (Some bytes) = is_character_type element

-- whether a list that is a text alone initialises an object of this type, as the text would
-- without the braces (C99 6.7.8, 14)
abbrev pub is_text_for : Ty → Option ℕ → Bool
is_text_for Void text = false
is_text_for (Int k) text = false
is_text_for ThreadId text = false
is_text_for Mutex text = false
is_text_for Cond text = false
is_text_for (Pointer t) text = false
is_text_for (Array t n) text = is_text t text
is_text_for (Struct s) text = false
is_text_for (Function result params dots) text = false
is_text_for (Opaque n) text = false

-- too many entries (C99 6.7.8, 2); an array without a size has as many as its list
abbrev pub count_rules : ℕ → ℕ → List Breach
count_rules entries n = unless (nat_eq n 0 || nat_le entries n) BadInitialiser

abbrev pub list_of_array : Ty → ℕ → Braces → List Breach
list_of_array element n braces = if is_text element braces.text then [] else count_rules braces.entries n

-- what a list in braces may initialise, where `fields` has the members of a complete struct: 27 round a
-- scalar, a mutex or a condition variable
abbrev pub by_list : (ℕ → List Ty) → Braces → Ty → List Breach
by_list fields braces Void = []
by_list fields braces (Int k) = breach BadInitialiser ∷ []
by_list fields braces ThreadId = breach BadInitialiser ∷ []
by_list fields braces Mutex = breach BadInitialiser ∷ []
by_list fields braces Cond = breach BadInitialiser ∷ []
by_list fields braces (Pointer t) = breach BadInitialiser ∷ []
by_list fields braces (Array t n) = list_of_array t n braces
by_list fields braces (Struct s) = count_rules braces.entries (length (fields s))
by_list fields braces (Function result params dots) = []
by_list fields braces (Opaque n) = []

-- the rules of a list: they hold at it
abbrev pub list_rules : (ℕ → List Ty) → Object → Braces → List Breach
list_rules fields object braces =
    if braces.has_designator then breach BadInitialiser ∷ [] else by_list fields braces object.type

-- the type of the object that an entry initialises, if there is one: the element,
-- or the member with this number
abbrev pub entry_type : (ℕ → List Ty) → Ty → ℕ → Option Ty
entry_type fields Void k = None
entry_type fields (Int j) k = None
entry_type fields ThreadId k = None
entry_type fields Mutex k = None
entry_type fields Cond k = None
entry_type fields (Pointer t) k = None
entry_type fields (Array t n) k = if nat_eq n 0 || not (nat_le n k) then Some t else None
entry_type fields (Struct s) k = slice_get (fields s) k
entry_type fields (Function result params dots) k = None
entry_type fields (Opaque n) k = None

-- ---- sizes that an initialiser gives (C99 6.7.8, 22)

-- a text gives room for its zero
abbrev pub with_zero : Option ℕ → ℕ
with_zero None = 0
with_zero (Some bytes) = suc bytes

abbrev pub size_given : Ty → Braces → ℕ
size_given element braces = if is_text element braces.text then with_zero braces.text else braces.entries

-- 31 of such a size: it stands at the declared name
abbrev pub given_rules : ℕ → List Breach
given_rules n = unless (nat_le n most_elements) VariableArray
