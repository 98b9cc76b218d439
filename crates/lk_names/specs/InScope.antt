-- What is in scope at a place of a source, and the environment of the rules that it makes (C99 6.2.1, 6.2.3).
use Rattle.std.specs.Prelude.{ℕ, ◌<◌, List, [], map, length, All, ⊤}
use Rattle.lk_types.specs.Table.{Table}
use Rattle.lk_typed.specs.Env.{Env}
use Rattle.lk_typed.specs.Names.{declared_in, tag_in, IsKnownName}
use Rattle.lk_typed.specs.Typings.{structs_in, HasKnownFields}
use Rattle.lk_typed.specs.declared.names.Declared.{Declared}
use Rattle.lk_typed.specs.declared.names.Tag.{Tag}
use Rattle.lk_typed.specs.declared.names.TagMeaning.{TagMeaning}
use Rattle.lk_typed.specs.declared.names.TagMeaning.TheVariants as tag
use Rattle.lk_typed.specs.declared.members.Members.{Members}

-- names, tags and structs, with the numbers of types in a table
pub record InScope : Type 0 where
  -- the names that are no tags, the oldest first; those of the innermost scope stand from `base` on
  pub declared : List Declared
  pub base : ℕ
  -- the tags, in the same way
  pub tags : List Tag
  pub tag_base : ℕ
  -- the structs of the source by their numbers
  pub structs : List Members

abbrev pub nothing_in_scope : InScope
nothing_in_scope = record { declared = []; base = 0; tags = []; tag_base = 0; structs = [] }

-- the environment with these in scope; all else is as told
abbrev pub env_in : Table → Env → InScope → Env
env_in table rest scope =
    record rest {
      declared = map (declared_in table) scope.declared;
      base = scope.base;
      tags = map tag_in scope.tags;
      tag_base = scope.tag_base;
      structs = structs_in table scope.structs;
    }

-- the struct of a tag is one of so many
abbrev pub HasStruct : ℕ → TagMeaning → Type 0
HasStruct count (tag.Struct s) = s < count
HasStruct count tag.Enum = ⊤
HasStruct count tag.Faulty = ⊤

-- each type in scope is in the table, and each tag's struct is there
pub record IsKnownScope (table : Table) (scope : InScope) : Type 0 where
  pub names : All (IsKnownName table) scope.declared
  pub tags : All (λ tag. HasStruct (length scope.structs) tag.meaning) scope.tags
  pub members : All (HasKnownFields table) scope.structs
