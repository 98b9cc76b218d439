-- How what is in scope changes, in the words of the rules.
use Rattle.std.specs.Prelude.{ℕ, ◌≡◌, List, [], ◌∷◌, All, drop, map, take}
use Rattle.lk_types.specs.Table.{Table}
use Rattle.lk_typed.specs.Env.{Env, Additions, Declared, Tag, enter, extend, past_scope}
use Rattle.lk_typed.specs.Names.{declared_in, tag_in, IsKnownName}
use Rattle.lk_typed.specs.declared.names.Declared.{Declared as Name}
use Rattle.lk_typed.specs.declared.names.Tag.{Tag as NamedTag}
use Rattle.lk_names.specs.InScope.{HasStruct, InScope, env_in}
use Rattle.lk_names.specs.declared.names.Mark.{Mark}

-- the additions of one name
abbrev pub name_added : Declared → Additions
name_added d = record { declared = d ∷ []; tags = []; structs = [] }

-- of one tag
abbrev pub tag_added : Tag → Additions
tag_added tag = record { declared = []; tags = tag ∷ []; structs = [] }

-- the environment is the old one with these additions, whatever the table and all else
abbrev pub Adds : InScope → InScope → (Table → Additions) → Type 0
Adds old new added =
    (table : Table) (rest : Env) → env_in table rest new ≡ extend (env_in table rest old) (added table)

-- the environment is the old one in a new scope
abbrev pub Enters : InScope → InScope → Type 0
Enters old new = (table : Table) (rest : Env) → env_in table rest new ≡ enter (env_in table rest old)

-- a mark keeps where the innermost scope of an environment begins
pub record IsMarkOf (mark : Mark) (env : Env) : Type 0 where
  pub names : mark.base ≡ env.base
  pub tags : mark.tag_base ≡ env.tag_base

-- what is in scope behind the scope that was begun when the mark was given
abbrev pub left : Mark → InScope → InScope
left mark scope =
    record {
      declared = take scope.base scope.declared;
      base = mark.base;
      tags = take scope.tag_base scope.tags;
      tag_base = mark.tag_base;
      structs = scope.structs;
    }

-- where the old one stood in a scope of an environment, behind these additions, the new
-- one stands behind that scope
abbrev pub Leaves : Mark → InScope → InScope → Type 0
Leaves mark old new = (table : Table) (rest before : Env) (added : Additions) → IsMarkOf mark before →
    env_in table rest old ≡ extend (enter before) added →
    env_in table rest new ≡ extend before (past_scope added)

-- ---- what was declared in a scope

pub record InLeftScope : Type 0 where
  -- the names that are no tags, the oldest first
  pub declared : List Name
  -- the tags, in the same way
  pub tags : List NamedTag

abbrev pub in_innermost : InScope → InLeftScope
in_innermost scope =
    record { declared = drop scope.base scope.declared; tags = drop scope.tag_base scope.tags }

-- the additions of these names and tags
abbrev pub scope_added : Table → InLeftScope → Additions
scope_added table scope =
    record { declared = map (declared_in table) scope.declared; tags = map tag_in scope.tags; structs = [] }

-- where the old one stood in a scope of an environment, behind these additions, they are its names and tags
abbrev pub GivesBack : InScope → InLeftScope → Type 0
GivesBack old scope = (table : Table) (rest before : Env) (added : Additions) →
    env_in table rest old ≡ extend (enter before) added →
    scope_added table scope ≡ record added { structs = [] }

-- each of their types is in the table, and each tag's struct is one of so many
pub record IsKnownLeft (table : Table) (count : ℕ) (scope : InLeftScope) : Type 0 where
  pub names : All (IsKnownName table) scope.declared
  pub tags : All (λ tag. HasStruct count tag.meaning) scope.tags
