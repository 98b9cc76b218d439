-- Calls (C99 6.5.2.2), with what the library's functions ask of their arguments: attributes, start routines,
-- formats and sizes of allocations.
use Rattle.std.specs.Prelude.{ℕ, Bool, true, false, not, ◌&&◌, ◌||◌, Option, Some, None, List, [], ◌∷◌, ◌++◌, map, codes, nat_eq, if◌then◌else◌}
use Rattle.lk_base.specs.declared.kind.Kind.TheVariants as kind
use Rattle.lk_base.specs.declared.code.Code.{Code}
use Rattle.lk_base.specs.declared.code.Code.TheVariants.{Mismatch, StructValue, MutexValue, StartRoutine, AllocShape}
use Rattle.lk_typed.specs.Ty.{Ty, Signature, target_of, function_of, kind_of, holds_of, list_of, is_same, is_same_kind, is_lock, is_struct, size_type}
use Rattle.lk_typed.specs.Env.{Env, Name, Role, AsOperand, ConvertedTo, AsFunction, AsRoutine, Declared, Meaning, AnObject, AFunction, ATypedef, AnEnumerator, AnInitialiserWord, AFaultyName, is_one_of}
use Rattle.lk_typed.specs.Typing.{Typing, Look, Verdict, Broken, value_of_type, if_so, unless}
use Rattle.lk_typed.specs.Addresses.{value}
use Rattle.lk_typed.specs.Conversions.{is_function_pointer}
use Rattle.lk_typed.specs.Operators.{is_scalar, must_be}
use Rattle.lk_typed.specs.Assignments.{given_codes}
use Rattle.lk_typed.specs.Library.{Passing, Converted, NullFor, Routine, Size, Asks, NothingMore, AFormat, ASize, AnElementSize, LibraryFunction, library_function, routine_type}
use Rattle.lk_typed.specs.Words.{is_library, is_extern}

-- an argument: its typing, and how it is written
pub record Argument : Type 0 where
  pub typing : Typing
  pub look : Look

-- ---- start routines: 46 (POSIX, pthread_create)

-- the name of a function of the program with the type of a start routine
abbrev pub is_routine : Env → Name → Meaning → Bool
is_routine env name (AnObject t is_static) = false
is_routine env name (AFunction t) =
    is_same t routine_type && not (is_library name) && not (is_extern env name)
is_routine env name (ATypedef t) = false
is_routine env name (AnEnumerator n) = false
is_routine env name (AnInitialiserWord t) = false
is_routine env name AFaultyName = false

abbrev pub names_routine : Env → Option Declared → Bool
names_routine env routine = holds_of routine (λ d. is_routine env d.name d.meaning)

-- ---- arguments

-- 41 and 45 of an argument that nothing converts
abbrev pub passed_whole_codes : Ty → List Code
passed_whole_codes t = if_so (is_struct t) StructValue ++ if_so (is_lock t) MutexValue

abbrev pub argument_codes : Env → Passing → Argument → List Code
argument_codes env (Converted t) a = given_codes t a.typing
argument_codes env (NullFor t code) a =
    if_so (not (value a.typing).is_null) code ++ passed_whole_codes a.typing.type
argument_codes env Routine a =
    if_so (not (names_routine env a.look.routine)) StartRoutine ++ passed_whole_codes a.typing.type
argument_codes env Size a = given_codes size_type a.typing

-- an argument behind those that have a parameter gets the promotions: a scalar (C99 6.5.2.2, 7)
abbrev pub further_codes : Argument → List Code
further_codes a =
    if is_struct a.typing.type then StructValue ∷ [] else must_be is_scalar (value a.typing).type

-- as many arguments as parameters, or where `...` ends them as many at least (C99 6.5.2.2, 2)
abbrev pub arguments_codes : Env → Bool → List Passing → List Argument → List Code
arguments_codes env dots [] [] = []
arguments_codes env dots [] (a ∷ others) =
    (if dots then further_codes a else Mismatch ∷ []) ++ arguments_codes env dots [] others
arguments_codes env dots (pass ∷ passes) [] = Mismatch ∷ []
arguments_codes env dots (pass ∷ passes) (a ∷ others) =
    argument_codes env pass a ++ arguments_codes env dots passes others

-- ---- formats: no % may lead to n (C99 7.19.6.1)

pub data Scanned : Type 0 where
  -- outside a conversion specification; directly behind its %; behind further flags,
  -- digits, points and lengths of it
  Plain : Scanned
  BehindPercent : Scanned
  BehindFlags : Scanned

-- -+ #0123456789.*hljzt
abbrev pub is_flag : ℕ → Bool
is_flag byte = is_one_of (map (λ flag. flag ∷ []) (codes "-+ #0123456789.*hljzt")) (byte ∷ [])

abbrev pub behind_flag : Scanned → ℕ → Option Scanned
behind_flag Plain byte = Some (if nat_eq byte 37 then BehindPercent else Plain)
behind_flag BehindPercent byte =
    if nat_eq byte 110 then None else Some (if is_flag byte then BehindFlags else Plain)
behind_flag BehindFlags byte =
    if nat_eq byte 110 then None
    else Some (if nat_eq byte 37 then BehindPercent else if is_flag byte then BehindFlags else Plain)

abbrev pub goes_on : Option Scanned → (Scanned → Bool) → Bool
goes_on None next = false
goes_on (Some state) next = next state

abbrev pub is_format_from : List ℕ → Scanned → Bool
is_format_from [] state = true
is_format_from (byte ∷ bytes) state = goes_on (behind_flag state byte) (is_format_from bytes)

abbrev pub is_format : List ℕ → Bool
is_format bytes = is_format_from bytes Plain

-- ---- sizes of allocations: 47

-- a pointer to char, signed char or unsigned char
abbrev pub is_byte_pointer : Ty → Bool
is_byte_pointer t =
    holds_of (target_of t) (λ target. holds_of (kind_of target)
    (λ k. is_same_kind k kind.Char || is_same_kind k kind.SChar || is_same_kind k kind.UChar))

abbrev pub counts_bytes : Role → Bool
counts_bytes AsOperand = false
counts_bytes (ConvertedTo t) = is_byte_pointer t
counts_bytes AsFunction = false
counts_bytes AsRoutine = false

-- a sizeof; its product with what holds none; or no sizeof, where the call is directly
-- converted to a pointer to bytes
abbrev pub is_size : Role → Look → Bool
is_size role look = look.is_sizeof || look.is_product || not look.holds_sizeof && counts_bytes role

-- ---- what the function asks beside

abbrev pub asked : Role → Asks → List Argument → List Code
asked role NothingMore arguments = []
asked role AFormat [] = []
asked role AFormat (format ∷ others) = if_so (not (holds_of format.look.text is_format)) Mismatch
asked role ASize [] = []
asked role ASize (size ∷ others) = if_so (not (is_size role size.look)) AllocShape
asked role AnElementSize [] = []
asked role AnElementSize (count ∷ []) = []
asked role AnElementSize (count ∷ size ∷ others) = if_so (not size.look.is_sizeof) AllocShape

-- ---- the function

-- the library function of this name, where its innermost declaration is one of a function
abbrev pub library_meaning : Name → Meaning → Option LibraryFunction
library_meaning name (AnObject t is_static) = None
library_meaning name (AFunction t) = library_function name
library_meaning name (ATypedef t) = None
library_meaning name (AnEnumerator n) = None
library_meaning name (AnInitialiserWord t) = None
library_meaning name AFaultyName = None

abbrev pub library_called : Option Declared → Option LibraryFunction
library_called None = None
library_called (Some d) = library_meaning d.name d.meaning

-- the signature of the function that a value points to
abbrev pub signature_at : Option Ty → Option Signature
signature_at None = None
signature_at (Some target) = function_of target

abbrev pub signature_of : Typing → Option Signature
signature_of f = signature_at (target_of (value f).type)

-- how the arguments of a call are passed
abbrev pub passes_by : Option LibraryFunction → Option Signature → List Passing
passes_by (Some f) signature = f.passes
passes_by None None = []
passes_by None (Some f) = map Converted (list_of f.params)

abbrev pub asks_of : Option LibraryFunction → Asks
asks_of None = NothingMore
asks_of (Some f) = f.asks

abbrev pub call_of : Env → Option LibraryFunction → Typing → Option Signature → List Argument → Verdict
call_of env known f None arguments = Broken (must_be is_function_pointer (value f).type)
call_of env known f (Some signature) arguments =
    unless (arguments_codes env signature.dots (passes_by known (Some signature)) arguments ++
    asked env.role (asks_of known) arguments) (value_of_type signature.result)

abbrev pub call_rule : Env → Argument → List Argument → Verdict
call_rule env f arguments =
    call_of env (library_called f.look.word) f.typing (signature_of f.typing) arguments
