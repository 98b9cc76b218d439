-- Structs whose definition has begun, and the tags of those that begin (C99 6.7.2.3).
use Rattle.std.specs.Prelude.{ℕ, ◌≡◌, false, Option, Some, None, List, [], if◌then◌else◌}
use Rattle.std.specs.List.{slice_get}
use Rattle.lk_tree.specs.declared.expression.DeclaratorForm.TheOpen.{Specifier-F}
use Rattle.lk_typed.specs.Env.{Env, Name}
use Rattle.lk_typed.specs.declared.members.Members.{Members}
use Rattle.lk_typed.specs.declared.members.Members.TheVariants.{Begun}
use Rattle.lk_typed.specs.Redeclared.{TagUse, may_use, tag_meant}
use Rattle.lk_typed.specs.Structs.{struct_begun}
use Rattle.lk_typed.specs.Told.{struct_meant}

-- a struct whose definition has begun stays so
abbrev pub KeepsBegun : List Members → List Members → Type 0
KeepsBegun old new = (s : ℕ) → slice_get old s ≡ Some Begun → slice_get new s ≡ Some Begun

-- ---- structs that begin (C99 6.7.2.3)

-- the tag of the struct that a use of a tag begins, where it stands for none yet
abbrev pub begun_where : Option ℕ → Option Name → Option (Option Name)
begun_where None tag = Some tag
begun_where (Some s) tag = None

-- the same of a use that may not stand
abbrev pub begun_if_admitted : Env → TagUse → Name → Option (Option Name)
begun_if_admitted env wanted name =
    if may_use env (tag_meant env wanted name) wanted
    then begun_where (struct_meant (tag_meant env wanted name)) (Some name) else None

-- at `struct tag {`, whatever its members
abbrev pub definition_begun : Env → Option Name → Option (Option Name)
definition_begun env tag = struct_begun env false (Specifier-F.Struct tag [])
