-- The arguments of calls in the code, in the words of the rules.
use Rattle.std.specs.Prelude.{ℕ, ◌≡◌, ◌&&◌, ◌||◌, ◌++◌, ⊤, Bool, not, All, Option, Some, None, List, [], ◌∷◌, length, map, slice_get, if◌then◌else◌}
use Rattle.lk_base.specs.declared.code.Code.{Code}
use Rattle.lk_base.specs.declared.code.Code.TheVariants.{Mismatch, StartRoutine, StructValue}
use Rattle.lk_base.specs.declared.kind.Kind.{Kind}
use Rattle.lk_base.specs.declared.kind.Kind.TheVariants as kind
use Rattle.lk_types.specs.Table.{Table, IsKnown}
use Rattle.lk_typed.specs.Addresses.{value}
use Rattle.lk_typed.specs.Calls as spec
use Rattle.lk_typed.specs.Calls.{passed_whole_codes}
use Rattle.lk_typed.specs.Env.{Env}
use Rattle.lk_typed.specs.Library as rows
use Rattle.lk_typed.specs.Meaning.{meaning, IsKnownType}
use Rattle.lk_typed.specs.Operators.{is_scalar, must_be}
use Rattle.lk_typed.specs.Ty.{is_same_kind, is_struct}
use Rattle.lk_typed.specs.Typing.{Typing, if_so}
use Rattle.lk_typed.specs.Typings.{IsTyping}
use Rattle.lk_check_expr.specs.Functions.{IsPassing, parameter_in}
use Rattle.lk_check_expr.specs.Looks.{IsLook}
use Rattle.lk_check_expr.specs.declared.calls.Argument.{Argument}
use Rattle.lk_check_expr.specs.declared.calls.Passes.{Passes}
use Rattle.lk_check_expr.specs.declared.calls.Passes.TheVariants as passes
use Rattle.lk_check_expr.specs.declared.library.Passing.{Passing}
use Rattle.lk_check_expr.specs.declared.library.Passing.TheVariants.{Converted, NullFor, Routine, Size}
use Rattle.lk_check_expr.specs.declared.looks.Look.{Look}

pub record IsArgument (table : Table) (env : Env) (a : Argument) (x : spec.Argument) : Type 0 where
  pub typing : IsTyping table a.typing x.typing
  pub look : IsLook env a.look x.look

pub record AreArguments (table : Table) (env : Env) (arguments : List Argument)
    (xs : List spec.Argument) : Type 0 where
  pub count : length arguments ≡ length xs
  pub each : (i : ℕ) (a : Argument) (x : spec.Argument) → slice_get arguments i ≡ Some a →
      slice_get xs i ≡ Some x → IsArgument table env a x

-- ---- how they are passed

abbrev pub IsPassedAt : Table → Option Passing → Option rows.Passing → Type 0
IsPassedAt table None None = ⊤
IsPassedAt table None (Some pass) = ⊥
IsPassedAt table (Some pass) None = ⊥
IsPassedAt table (Some pass) (Some other) = IsPassing table pass other

-- as the parameters of a library function are, or each converted to its type
abbrev pub ArePassedBy : Table → Passes → List rows.Passing → Type 0
ArePassedBy table (passes.Library parameters) ps = map parameter_in parameters.now ≡ ps
ArePassedBy table (passes.Parameters types) ps =
    (map (λ t. rows.Converted (meaning table t)) types.now ≡ ps) × All (IsKnown table) types.now

abbrev pub IsKnownPasses : Table → Passes → Type 0
IsKnownPasses table (passes.Library parameters) = ⊤
IsKnownPasses table (passes.Parameters types) = All (IsKnown table) types.now

abbrev pub IsKnownPassing : Table → Passing → Type 0
IsKnownPassing table (Converted t) = IsKnownType table t
IsKnownPassing table (NullFor code) = ⊤
IsKnownPassing table Routine = ⊤
IsKnownPassing table Size = ⊤

-- ---- the codes of single arguments

abbrev pub null_codes : Code → Typing → List Code
null_codes code x = if_so (not (value x).is_null) code ++ passed_whole_codes x.type

abbrev pub routine_codes : Bool → Typing → List Code
routine_codes is_routine x = if_so (not is_routine) StartRoutine ++ passed_whole_codes x.type

abbrev pub further_codes : Typing → List Code
further_codes x = if is_struct x.type then StructValue ∷ [] else must_be is_scalar (value x).type

-- of one by how it is passed; None: it has no parameter
abbrev pub passed_codes : Env → Bool → Option rows.Passing → spec.Argument → List Code
passed_codes env dots None x = if dots then spec.further_codes x else Mismatch ∷ []
passed_codes env dots (Some pass) x = spec.argument_codes env pass x

abbrev pub size_by : Look → Bool → Bool
size_by look counts_bytes = look.is_sizeof || look.is_product || not look.holds_sizeof && counts_bytes

-- char, signed char or unsigned char
abbrev pub is_byte_kind : Kind → Bool
is_byte_kind k = is_same_kind k kind.Char || is_same_kind k kind.SChar || is_same_kind k kind.UChar
