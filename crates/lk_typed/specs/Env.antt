-- What a node of the tree is given from outside: the names, tags and structs in scope (C99 6.2.1, 6.2.3), and
-- what the node stands as; and what a node adds for those after it. A node never makes an environment: it
-- says what it adds, so a block gives its environment back by itself.
use Rattle.std.specs.Prelude.{ℕ, suc, Bool, true, false, Option, Some, None, List, [], ◌∷◌, ◌++◌, ℤ, length, drop, slice_get, slice_set, nat_eq, unwrap_or, if◌then◌else◌}
use Rattle.std.specs.Cmp.Lexicographic.{pointwise}
use Rattle.lk_typed.specs.declared.entity.Linkage.{Linkage}
use Rattle.lk_typed.specs.declared.entity.Defines.{Defines}
use Rattle.lk_typed.specs.Ty.{Ty}

-- ---- names

-- a name, by its bytes
abbrev pub Name : Type 0
Name = List ℕ

abbrev pub is_name : Name → Name → Bool
is_name = pointwise nat_eq

abbrev pub is_one_of : List Name → Name → Bool
is_one_of [] name = false
is_one_of (other ∷ others) name = if is_name other name then true else is_one_of others name

-- what a name that is no tag stands for (C99 6.2.3)
pub data Meaning : Type 0 where
  -- an object of this type, and whether its storage is static (C99 6.2.4)
  AnObject : Ty → Bool → Meaning
  AFunction : Ty → Meaning
  ATypedef : Ty → Meaning
  -- an enumerator with this value; its type is int (C99 6.7.2.2, 3)
  AnEnumerator : ℤ → Meaning
  -- a word that stands only as the initialiser of an object of this type (POSIX, pthread.h)
  AnInitialiserWord : Ty → Meaning
  -- a name whose declaration is faulty: its uses have neither a type nor a fault
  AFaultyName : Meaning

pub record Declared : Type 0 where
  pub name : Name
  pub meaning : Meaning
  -- how it reaches beyond its scope; None for what is neither an object nor a function (C99 6.2.2)
  pub linkage : Linkage
  -- what its declaration defines (C99 6.9.1, 6.9.2)
  pub defines : Defines
  -- the number of the node that declares it; 0 of what is predeclared
  pub ordinal : ℕ

-- ---- tags and structs

pub data TagMeaning : Type 0 where
  -- the struct with this number
  AStructTag : ℕ → TagMeaning
  AnEnumTag : TagMeaning
  -- a tag whose declaration is faulty
  AFaultyTag : TagMeaning

pub record Tag : Type 0 where
  pub name : Name
  pub meaning : TagMeaning

pub record Field : Type 0 where
  pub name : Name
  pub type : Ty

-- what is known of a struct's members (C99 6.7.2.1, 6.7.2.3)
pub data Members : Type 0 where
  -- nothing yet: the struct is incomplete
  NotYet : Members
  -- nothing yet, and its definition has begun: it is incomplete up to the closing brace (C99 6.7.2.3, 4)
  Begun : Members
  Known : List Field → Members
  -- its definition is faulty: what needs its members has neither a type nor a fault
  Faulty : Members

-- a change of the list of structs
pub data StructStep : Type 0 where
  -- one more struct, incomplete; its number is how many there were
  Begins : StructStep
  -- the struct with this number has these members from here on
  Completes : ℕ → Members → StructStep

-- ---- environments

-- what a node stands as
pub data Role : Type 0 where
  -- an operand, or a value that nothing converts
  AsOperand : Role
  -- a value that is converted to this type directly: by assignment, argument, result, initialiser or cast
  ConvertedTo : Ty → Role
  -- the function of a call
  AsFunction : Role
  -- the third argument of pthread_create
  AsRoutine : Role

-- what is known of the whole source before it is checked
pub record Outside : Type 0 where
  -- the names of the functions that the source defines, at any place of it
  pub defined : List Name
  -- the names that --externs lists
  pub externs : List Name

pub record Env : Type 0 where
  pub outside : Outside
  -- the names that are no tags, oldest first; those of the innermost scope stand from `base` on
  pub declared : List Declared
  pub base : ℕ
  -- the tags, in the same way
  pub tags : List Tag
  pub tag_base : ℕ
  -- the structs of the source by their numbers; a number is never used again
  pub structs : List Members
  -- the result of the function in whose body the node stands
  pub result : Option Ty
  pub role : Role
  -- whether the node stands in the size of an allocation
  pub in_size : Bool

-- what a node adds to the environment of those after it, each oldest first
pub record Additions : Type 0 where
  pub declared : List Declared
  pub tags : List Tag
  pub structs : List StructStep

abbrev pub nothing : Additions
nothing = record { declared = []; tags = []; structs = [] }

-- the additions of a node and then those of a later one
abbrev pub both : Additions → Additions → Additions
both a b =
    record { declared = a.declared ++ b.declared; tags = a.tags ++ b.tags; structs = a.structs ++ b.structs }

-- what is left of additions where their scope ends: the structs, so that no number stands for two
abbrev pub past_scope : Additions → Additions
past_scope a = record { declared = []; tags = []; structs = a.structs }

abbrev pub after_step : List Members → StructStep → List Members
after_step structs Begins = structs ++ NotYet ∷ []
after_step structs (Completes s members) = slice_set structs s members

abbrev pub after_steps : List Members → List StructStep → List Members
after_steps structs [] = structs
after_steps structs (step ∷ steps) = after_steps (after_step structs step) steps

-- the environment behind a node that adds this
abbrev pub extend : Env → Additions → Env
extend env a =
    record env { declared = env.declared ++ a.declared; tags = env.tags ++ a.tags; structs = after_steps env.structs a.structs }

-- the environment in a new scope
abbrev pub enter : Env → Env
enter env = record env { base = length env.declared; tag_base = length env.tags }

-- ---- what a part of a node stands as

abbrev pub as_operand : Env → Env
as_operand env = record env { role = AsOperand }

abbrev pub converted_to : Env → Ty → Env
converted_to env target = record env { role = ConvertedTo target }

abbrev pub as_function : Env → Env
as_function env = record env { role = AsFunction }

abbrev pub as_routine : Env → Env
as_routine env = record env { role = AsRoutine }

abbrev pub as_size : Env → Env
as_size env = record env { role = AsOperand; in_size = true }

-- ---- look-up

abbrev pub or_else : {A : Type 0} → Option A → Option A → Option A
or_else (Some a) b = Some a
or_else None b = b

-- the last one that passes the test
abbrev pub latest : {A : Type 0} → (A → Bool) → List A → Option A
latest test [] = None
latest test (a ∷ others) = or_else (latest test others) (if test a then Some a else None)

-- the innermost declaration of a name (C99 6.2.1, 4)
abbrev pub look_up : Env → Name → Option Declared
look_up env name = latest (λ d. is_name d.name name) env.declared

-- the latest declaration of a name in the innermost scope
abbrev pub look_up_here : Env → Name → Option Declared
look_up_here env name = latest (λ d. is_name d.name name) (drop env.base env.declared)

abbrev pub look_up_tag : Env → Name → Option Tag
look_up_tag env name = latest (λ tag. is_name tag.name name) env.tags

abbrev pub look_up_tag_here : Env → Name → Option Tag
look_up_tag_here env name = latest (λ tag. is_name tag.name name) (drop env.tag_base env.tags)

-- what is known of the struct with this number
abbrev pub members_of : List Members → ℕ → Members
members_of structs s = unwrap_or (slice_get structs s) NotYet

-- a member of a struct by its name
abbrev pub field_of : List Field → Name → Option Field
field_of fields name = latest (λ field. is_name field.name name) fields

-- the number of that member
abbrev pub number_of_field : List Field → Name → ℕ
number_of_field [] name = 0
number_of_field (field ∷ others) name =
    if is_name field.name name then 0 else suc (number_of_field others name)
