-- What the code's names, tags and roles stand for, in the words of the rules.
use Rattle.std.specs.Prelude.{Bool, true, false, ⊤}
use Rattle.lk_types.specs.Table.{Table, IsKnown}
use Rattle.lk_typed.specs.Env as env
use Rattle.lk_typed.specs.Meaning.{meaning, meaning_of, IsKnownType}
use Rattle.lk_typed.specs.declared.names.Duration.{Duration}
use Rattle.lk_typed.specs.declared.names.Duration.TheVariants.{Static, Automatic}
use Rattle.lk_typed.specs.declared.names.Meaning.{Meaning}
use Rattle.lk_typed.specs.declared.names.Meaning.TheVariants.{Object, Function, Typedef, Enumerator, InitialiserWord, Faulty}
use Rattle.lk_typed.specs.declared.names.Declared.{Declared}
use Rattle.lk_typed.specs.declared.names.TagMeaning.{TagMeaning}
use Rattle.lk_typed.specs.declared.names.TagMeaning.TheVariants as tag
use Rattle.lk_typed.specs.declared.names.Tag.{Tag}
use Rattle.lk_typed.specs.declared.role.Role.{Role}
use Rattle.lk_typed.specs.declared.role.Role.TheVariants as role

abbrev pub is_static : Duration → Bool
is_static Static = true
is_static Automatic = false

abbrev pub meaning_in : Table → Meaning → env.Meaning
meaning_in table (Object t duration) = env.AnObject (meaning table t) (is_static duration)
meaning_in table (Function t) = env.AFunction (meaning table t)
meaning_in table (Typedef t) = env.ATypedef (meaning table t)
meaning_in table (Enumerator value) = env.AnEnumerator value
meaning_in table (InitialiserWord t) = env.AnInitialiserWord (meaning table t)
meaning_in table Faulty = env.AFaultyName

abbrev pub declared_in : Table → Declared → env.Declared
declared_in table d =
    record { name = d.name; meaning = meaning_in table d.meaning; linkage = d.linkage; defines = d.defines; ordinal = d.ordinal }

-- the types of what a name stands for are in the table
abbrev pub IsKnownMeaning : Table → Meaning → Type 0
IsKnownMeaning table (Object t duration) = IsKnown table t
IsKnownMeaning table (Function t) = IsKnown table t
IsKnownMeaning table (Typedef t) = IsKnown table t
IsKnownMeaning table (Enumerator value) = ⊤
IsKnownMeaning table (InitialiserWord t) = IsKnown table t
IsKnownMeaning table Faulty = ⊤

abbrev pub IsKnownName : Table → Declared → Type 0
IsKnownName table d = IsKnownMeaning table d.meaning

abbrev pub tag_meaning_in : TagMeaning → env.TagMeaning
tag_meaning_in (tag.Struct s) = env.AStructTag s
tag_meaning_in tag.Enum = env.AnEnumTag
tag_meaning_in tag.Faulty = env.AFaultyTag

abbrev pub tag_in : Tag → env.Tag
tag_in t = record { name = t.name; meaning = tag_meaning_in t.meaning }

-- what a node stands as
abbrev pub role_in : Table → Role → env.Role
role_in table role.Operand = env.AsOperand
role_in table (role.ConvertedTo t) = env.ConvertedTo (meaning_of table t)
role_in table role.Function = env.AsFunction
role_in table role.Routine = env.AsRoutine

abbrev pub IsKnownRole : Table → Role → Type 0
IsKnownRole table role.Operand = ⊤
IsKnownRole table (role.ConvertedTo t) = IsKnownType table t
IsKnownRole table role.Function = ⊤
IsKnownRole table role.Routine = ⊤
