-- The member that a name means, and what `->` says of another target.
use Rattle.std.specs.Prelude.{ℕ, ◌||◌, List, Option, if◌then◌else◌}
use Rattle.std.specs.Option.{option_map}
use Rattle.lk_base.specs.declared.code.Code.{Code}
use Rattle.lk_base.specs.declared.code.Code.TheVariants.{Mismatch, Incomplete}
use Rattle.lk_typed.specs.Env.{Members, Name, is_name, latest}
use Rattle.lk_typed.specs.Sizes.{is_complete}
use Rattle.lk_typed.specs.Ty.{Ty, is_function, is_void}
use Rattle.lk_typed.specs.declared.members.Field.{Field}

-- the type of the latest member with a name
abbrev pub type_named : List Field → Name → Option ℕ
type_named fields name = option_map (λ field. field.ty) (latest (λ field. is_name field.name name) fields)

abbrev pub other_target_code : List Members → Ty → Code
other_target_code structs target = if is_void target || is_function target || is_complete structs target
    then Mismatch else Incomplete
