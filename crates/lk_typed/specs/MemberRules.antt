-- The rules of members of a struct (C99 6.7.2.1).
use Rattle.std.specs.Prelude.{ℕ, ◌++◌, Bool, false, not, Option, Some, None, List, [], ◌∷◌, map, is_some, if◌then◌else◌}
use Rattle.lk_base.specs.declared.code.Code.TheVariants.{Redeclared, Incomplete, LargeType}
use Rattle.lk_typed.specs.Bounds.{is_large, is_large_struct}
use Rattle.lk_typed.specs.DeclaratorRules.{unless}
use Rattle.lk_typed.specs.Env.{Env, Name, Members, NotYet, Begun, Known, Faulty, Field, field_of, members_of}
use Rattle.lk_typed.specs.Faults.{Breach, breach_of}
use Rattle.lk_typed.specs.Sizes.{is_complete}
use Rattle.lk_typed.specs.Ty.{Ty}

abbrev pub types_in : Members → List Ty
types_in NotYet = []
types_in Begun = []
types_in (Known fields) = map (λ field. field.type) fields
types_in Faulty = []

-- the types of the members of each struct
abbrev pub fields_in : Env → ℕ → List Ty
fields_in env s = types_in (members_of env.structs s)

-- the rules of a member's name: 21 where the struct has it already; 25 where its type is incomplete, void
-- or a function (C99 6.7.2.1, 2)
abbrev pub member_rules : Env → List Field → Name → Ty → List Breach
member_rules env before name t =
    (if is_some (field_of before name) then breach_of Redeclared name ∷ [] else []) ++
    unless (is_complete env.structs t) Incomplete

-- whether a type is over a bound
abbrev pub is_over : Env → Option Ty → Bool
is_over env None = false
is_over env (Some t) = is_large (fields_in env) t

-- a type, unless it is over a bound
abbrev pub within_bounds : Env → Option Ty → Option Ty
within_bounds env None = None
within_bounds env (Some t) = if is_large (fields_in env) t then None else Some t

-- 32 of a member's declarator, besides its types: the struct up to and with it
abbrev pub large_struct_rules : Env → List Field → Ty → List Breach
large_struct_rules env before t =
    unless (not (is_large_struct (fields_in env) (map (λ field. field.type) before ++ t ∷ []))) LargeType
