-- The sizes of structs while their members are read.
use Rattle.std.specs.Prelude.{◌≡◌, ◌++◌, [], ◌∷◌, Some, None, Option, List, map, MatchOption}
use Rattle.lk_base.specs.declared.code.Code.TheVariants.{LargeType}
use Rattle.lk_types.specs.declared.size.TypeSize.{TypeSize}
use Rattle.lk_typed.specs.Bounds.{plain, size_of, size_of_parts}
use Rattle.lk_typed.specs.Env.{Env, Field}
use Rattle.lk_typed.specs.MemberRules.{fields_in, large_struct_rules}
use Rattle.lk_typed.specs.Ty.{Ty}
use Rattle.lk_check_decl.specs.Breaches.{told}

-- how large a struct with these members is
abbrev pub size_with : Env → List Ty → TypeSize
size_with env types = size_of_parts (size_of (fields_in env)) (map plain types)

abbrev pub types_of : List Field → List Ty
types_of fields = map (λ field. field.type) fields

-- the size of the struct with one more member, or 32
abbrev pub IsWithMember : Env → List Field → Ty → Option TypeSize → Type 0
IsWithMember env before t answer =
    MatchOption answer (told (large_struct_rules env before t) ≡ Some LargeType)
    (λ size. (size ≡ size_with env (types_of before ++ t ∷ [])) × (told (large_struct_rules env before t) ≡ None))
