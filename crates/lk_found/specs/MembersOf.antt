-- The members of a struct so far, and what is told of one more (C99 6.7.2.1).
use Rattle.std.specs.Prelude.{ℕ, ◌≡◌, ◌++◌, ◌&&◌, Bool, true, false, Option, Some, None, List, [], ◌∷◌, map, All, MatchOption, is_some, nat_eq, if◌then◌else◌}
use Rattle.lk_types.specs.Building.{IsPartOfObjects}
use Rattle.lk_types.specs.Sizes.{fields_size, is_too_large}
use Rattle.lk_types.specs.Table.{Table}
use Rattle.lk_types.specs.declared.size.TypeSize.{TypeSize}
use Rattle.lk_base.specs.Code.{number_of}
use Rattle.lk_base.specs.declared.code.Code.{Code}
use Rattle.lk_base.specs.declared.code.Code.TheVariants.{Redeclared}
use Rattle.lk_tree.specs.declared.expression.Declarator.{Declarator}
use Rattle.lk_tree.specs.declared.expression.Expr.{Expr}
use Rattle.lk_typed.specs.DeclaratorRules.{of_type}
use Rattle.lk_typed.specs.Env.{Env, Field, Name, as_operand, extend}
use Rattle.lk_typed.specs.Expressions.{declarator_found, expr_adds, expression}
use Rattle.lk_typed.specs.Faults.{Breach}
use Rattle.lk_typed.specs.Layers.{faulty_member, field_told, type_made}
use Rattle.lk_typed.specs.Meaning.{meaning}
use Rattle.lk_typed.specs.MemberRules.{large_struct_rules, member_rules}
use Rattle.lk_typed.specs.NodeRules.{is_none_broken, mark}
use Rattle.lk_typed.specs.Nodes.{IsMember}
use Rattle.lk_typed.specs.Told.{MemberTold, Named}
use Rattle.lk_typed.specs.Ty.{Ty}
use Rattle.lk_typed.specs.Typings.{field_in}
use Rattle.lk_typed.specs.declared.members.Field.{Field as CodeField}
use Rattle.lk_found.specs.Declarators.{name_codes}
use Rattle.lk_found.specs.Keepings.{Codes, codes_at}
use Rattle.lk_found.specs.declared.fields.MembersFound.{MembersFound}

-- ---- members so far

-- a struct may have these fields, and is as large as told with them
pub record HasFields (table : Table) (found : MembersFound) : Type 0 where
  pub parts : All (λ field. IsPartOfObjects table field.ty) found.fields
  pub size : found.size ≡ fields_size table (map (λ field. field.ty) found.fields)
  pub small : is_too_large found.size ≡ false

-- they tell this, whatever they add to the environment
pub record AreMembers (table : Table) (found : MembersFound) (told : MemberTold) : Type 0 where
  pub fields : map (field_in table) found.fields ≡ told.fields
  pub sound : found.is_sound ≡ told.sound
  pub holds_sizeof : found.holds_sizeof ≡ told.holds_sizeof

-- they have these fields, and are faulty or not
pub record TellsFields (table : Table) (found : MembersFound) (told : MemberTold) : Type 0 where
  pub fields : map (field_in table) found.fields ≡ told.fields
  pub sound : found.is_sound ≡ told.sound

-- ---- one declarator, whose type this is, in the environment behind it

-- what it tells, where it adds this: a bit-field is no field
abbrev pub member_of : Env → Bool → List Field → Option Named → Option Ty → MemberTold → MemberTold
member_of behind true before name t faulty = faulty
member_of behind false before name t faulty = field_told behind before name t faulty

-- a declarator of a field or a bit-field
abbrev pub found_of : Bool → Declarator → Env → Option Ty → List Field → MemberTold
found_of bit_field d env t before =
    let told = declarator_found d in
    member_of (extend env (told.additions env)) bit_field before told.name (type_made env false t told)
    (faulty_member (told.additions env) (told.holds_sizeof env))

-- a width
abbrev pub width_told : Expr → Env → MemberTold
width_told e env = faulty_member (expr_adds e env) (expression e (as_operand env)).look.holds_sizeof

abbrev pub member_codes : Env → List Field → Declarator → Option Ty → List Codes
member_codes behind before d t =
    name_codes behind t (IsMember before) (declarator_found d).name ++
    codes_at (mark d.spot d.ordinal) (of_type t (large_struct_rules behind before)) ∷ []

-- with 21 the name is told
abbrev pub is_again : Code → Bool
is_again code = nat_eq (number_of code) (number_of Redeclared)

abbrev pub member_breach : Name → Code → Breach
member_breach name code = record { code = code; name = if is_again code then name else [] }

-- whether it has a name without a code
abbrev pub is_free : Env → List Field → Option Named → Ty → Bool
is_free behind before None t = false
is_free behind before (Some named) t = is_none_broken (member_rules behind before named.name t)

-- so large is a struct with these fields and one more, within its bounds
pub record IsSizeWith (table : Table) (fields : List CodeField) (t : ℕ) (larger : TypeSize) : Type 0 where
  pub size : larger ≡ fields_size table (map (λ field. field.ty) fields ++ t ∷ [])
  pub small : is_too_large larger ≡ false

-- the size with one more field, or 32
abbrev pub IsLarger : Table → Env → List CodeField → ℕ → Option TypeSize → Type 0
IsLarger table behind fields t larger =
    MatchOption larger (is_none_broken (large_struct_rules behind (map (field_in table) fields) (meaning table t)) ≡ false)
    (λ size. IsSizeWith table fields t size
    × (is_none_broken (large_struct_rules behind (map (field_in table) fields) (meaning table t)) ≡ true))

-- whether the struct may have it as a field
abbrev pub may_have : Env → List Field → Option Named → Ty → Bool
may_have behind before name t =
    is_free behind before name t && is_none_broken (large_struct_rules behind before t)

-- the size is there where it may
abbrev pub IsThereWhere : Table → Env → List CodeField → Option Named → ℕ → Option TypeSize → Type 0
IsThereWhere table behind fields name t size =
    is_some size ≡ may_have behind (map (field_in table) fields) name (meaning table t)
