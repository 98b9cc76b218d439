-- What the forms of a declarator make of the type on its left, one after another (C99 6.7.5).
use Rattle.std.specs.Prelude.{ℕ, ◌≡◌, ⊤, Bool, true, false, not, nat_eq, Option, Some, None, List, [], map, All, IfSome}
use Rattle.std.specs.Option.{option_map}
use Rattle.lk_types.specs.Building.{IsPartOfObjects, IsPassed, IsLonger}
use Rattle.lk_types.specs.Table.{Table, IsKnown}
use Rattle.lk_typed.specs.DeclaratorRules.{Size, array_rules, function_rules, pointer_rules}
use Rattle.lk_typed.specs.Elements.{HasFewElements}
use Rattle.lk_typed.specs.Env.{Members}
use Rattle.lk_typed.specs.Faults.{Breach}
use Rattle.lk_typed.specs.Layers.{array_by, function_by, pointer_made}
use Rattle.lk_typed.specs.Meaning.{meaning}
use Rattle.lk_typed.specs.MemberRules.{is_over, within_bounds}
use Rattle.lk_typed.specs.Sizes.{is_broken, is_complete}
use Rattle.lk_typed.specs.Told.{Span}
use Rattle.lk_typed.specs.Ty.{Ty, Array}
use Rattle.lk_check_decl.specs.Arrays.{size_of}
use Rattle.lk_check_decl.specs.Breaches.{told}
use Rattle.lk_check_decl.specs.declared.arrays.ArraySize.{ArraySize}
use Rattle.lk_check_decl.specs.declared.arrays.ArraySize.TheVariants as size
use Rattle.lk_found.specs.declared.layers.Layer.{Layer}
use Rattle.lk_found.specs.declared.layers.Layer.TheVariants as code
use Rattle.lk_found.specs.declared.layers.Element.{Element}
use Rattle.lk_found.specs.declared.layers.Made.{Made}

-- what one form makes of a type
pub data Form : Type 0 where
  APointer : Form
  AnArray : Size → Form
  -- with the types of the parameters, missing where one of them is faulty; and whether `...` ends them
  AFunction : Option (List Ty) → Bool → Form

abbrev pub params_in : Table → Option (List ℕ) → Option (List Ty)
params_in table params = option_map (map (meaning table)) params

abbrev pub form_in : Table → Layer → Form
form_in table code.Pointer = APointer
form_in table (code.Array size) = AnArray (size_of size)
form_in table (code.Function params dots) = AFunction (params_in table params) dots

abbrev pub made_of : Form → Span → Option Ty → Option Ty
made_of APointer span t = pointer_made t
made_of (AnArray size) span t = array_by span size t
made_of (AFunction params dots) span t = function_by dots params t

-- its rules; a size in which a fault stands hides them
abbrev pub array_codes : Span → Size → Option Ty → List Breach
array_codes span None t = array_rules span.env span.may_be_absent t None
array_codes span (Some None) t = []
array_codes span (Some (Some c)) t = array_rules span.env span.may_be_absent t (Some (Some c))

abbrev pub rules_of : Form → Span → Option Ty → List Breach
rules_of APointer span t = pointer_rules t
rules_of (AnArray size) span t = array_codes span size t
rules_of (AFunction params dots) span t = function_rules t

-- the type that it gives to the form inside
abbrev pub type_by : Span → Form → Option Ty → Option Ty
type_by span form t = within_bounds span.behind (made_of form span t)

-- ---- what the code keeps of a type

-- whether it is complete and whether it is faulty, where the declarator begins
abbrev pub IsElement : List Members → Element → Option Ty → Type 0
IsElement structs element None = ⊤
IsElement structs element (Some t) =
    (is_complete structs t ≡ element.is_complete) × (is_broken structs t ≡ element.is_broken)

-- where it is complete and not faulty the table can have arrays of it
abbrev pub IsElementIn : Table → Element → ℕ → Type 0
IsElementIn table element t = element.is_complete ≡ true → element.is_broken ≡ false → IsPartOfObjects table t

abbrev pub IsKnownMade : Table → Made → Type 0
IsKnownMade table made = IfSome made.ty (IsKnown table) × IfSome made.ty (IsElementIn table made.element)

-- the types of a layer are those of parameters
abbrev pub IsKnownLayer : Table → Layer → Type 0
IsKnownLayer table code.Pointer = ⊤
IsKnownLayer table (code.Array size) = ⊤
IsKnownLayer table (code.Function params dots) = IfSome params (All (IsPassed table))

-- whether a fault stands in a size
abbrev pub is_faulty : ArraySize → Bool
is_faulty size.Absent = false
is_faulty size.Faulty = true
is_faulty (size.Written c) = false

-- ---- what a form made of a type

pub record IsMadeBy (old new : Table) (span : Span) (form : Form) (left : Option Ty)
    (made : Made) : Type 0 where
  pub code : made.code ≡ told (rules_of form span left)
  pub type : option_map (meaning new) made.ty ≡ type_by span form left
  pub large : made.is_large ≡ is_over span.behind (made_of form span left)
  pub element : IsElement span.env.structs made.element (type_by span form left)

-- an array of elements that are complete and not faulty
pub record IsArrayMade (old new : Table) (span : Span) (element : Ty) (count : ℕ) (made : Made) : Type 0 where
  pub code : made.code ≡ None
  pub type : option_map (meaning new) made.ty ≡ within_bounds span.behind (Some (Array element count))
  pub large : made.is_large ≡ is_over span.behind (Some (Array element count))
  pub complete : made.element.is_complete ≡ not (nat_eq count 0)
  pub broken : made.element.is_broken ≡ false

-- types were put into the table, and its structs are as they were
pub record IsGrown (old new : Table) : Type 0 where
  pub longer : IsLonger old new
  pub members : new.members ≡ old.members
  pub few : HasFewElements old → HasFewElements new
