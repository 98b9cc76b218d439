-- The rules of declarations as wholes: specifiers (C99 6.7, 6.7.1, 6.7.2), declared names
-- (6.7, 6.9.2), and main (5.1.2.2.1).
use Rattle.std.specs.Prelude.{ℕ, ◌&&◌, ◌||◌, ◌++◌, ◌+◌, Bool, true, false, not, Option, Some, None, List, [], ◌∷◌, codes, nat_le, nat_eq, is_some, if◌then◌else◌}
use Rattle.lk_base.specs.declared.code.Code.TheVariants.{Mismatch, Incomplete, OwnVararg}
use Rattle.lk_tree.specs.declared.specifiers.Storage.{Storage}
use Rattle.lk_tree.specs.declared.specifiers.Storage.TheVariants as storage
use Rattle.lk_typed.specs.declared.entity.Linkage.{Linkage}
use Rattle.lk_typed.specs.declared.entity.Linkage.TheVariants as linkage
use Rattle.lk_typed.specs.declared.entity.Defines.{Defines}
use Rattle.lk_typed.specs.declared.entity.Defines.TheVariants as defines
use Rattle.lk_typed.specs.DeclaratorRules.{has_dots, of_type, unless}
use Rattle.lk_typed.specs.Env.{Env, Name, Declared, Meaning, AnObject, AFunction, ATypedef, AFaultyName, is_name, look_up}
use Rattle.lk_typed.specs.Faults.{Breach}
use Rattle.lk_typed.specs.Sizes.{is_complete}
use Rattle.lk_typed.specs.Told.{SpecifierTold, named_type, type_of, unless_broken}
use Rattle.lk_typed.specs.Ty.{Ty, Tys, Pointer, Function, char, int, is_array, is_function, is_same, types_of}

-- ---- specifiers

abbrev pub count_of : (Storage → Bool) → List Storage → ℕ
count_of test [] = 0
count_of test (s ∷ ss) = if test s then 1 + count_of test ss else count_of test ss

-- `typedef`, `extern` or `static`; `auto` and `register` change nothing
abbrev pub is_linking : Storage → Bool
is_linking storage.Typedef = true
is_linking storage.Extern = true
is_linking storage.Static = true
is_linking storage.Auto = false
is_linking storage.Register = false

abbrev pub is_typedef : Storage → Bool
is_typedef storage.Typedef = true
is_typedef storage.Extern = false
is_typedef storage.Static = false
is_typedef storage.Auto = false
is_typedef storage.Register = false

abbrev pub is_extern : Storage → Bool
is_extern storage.Typedef = false
is_extern storage.Extern = true
is_extern storage.Static = false
is_extern storage.Auto = false
is_extern storage.Register = false

abbrev pub is_static : Storage → Bool
is_static storage.Typedef = false
is_static storage.Extern = false
is_static storage.Static = true
is_static storage.Auto = false
is_static storage.Register = false

abbrev pub has : (Storage → Bool) → List Storage → Bool
has test ss = not (nat_eq (count_of test ss) 0)

-- where specifiers stand
pub data Holder : Type 0 where
  InDeclaration : Holder
  InDefinition : Holder
  -- of a member, a parameter or a type name
  InType : Holder

-- how many of typedef, extern and static may stand there (C99 6.7.1, 2; 6.7.2.1, 6.7.5.3, 2, 6.7.6), and that
-- a definition is no typedef (6.9.1, 4)
abbrev pub may_have : Holder → List Storage → Bool
may_have InDeclaration ss = nat_le (count_of is_linking ss) 1
may_have InDefinition ss = nat_le (count_of is_linking ss) 1 && not (has is_typedef ss)
may_have InType ss = nat_eq (count_of is_linking ss) 0

-- 22 of specifiers: words or a type in none of the combinations, or storage classes that can't stand there
abbrev pub specifier_rules : Holder → SpecifierTold → List Breach
specifier_rules holder told =
    unless (is_some (named_type told.words told.types) && may_have holder told.storages) Mismatch

-- the type that specifiers name, missing where they break a rule
abbrev pub type_in : Holder → SpecifierTold → Option Ty
type_in holder told = unless_broken (specifier_rules holder told) (type_of told)

-- ---- declared names

-- where a declaration stands
pub data Scope : Type 0 where
  AtFile : Scope
  InBlock : Scope

-- what gives a name its body or value
pub data Given : Type 0 where
  -- nothing
  Bare : Given
  -- an initialiser
  Initialised : Given
  -- the body of a function
  Defined : Given

-- a linkage that is none is external behind extern (C99 6.2.2, 4)
abbrev pub or_external : Linkage → Linkage
or_external linkage.External = linkage.External
or_external linkage.Internal = linkage.Internal
or_external linkage.None = linkage.External

-- with extern: the linkage of the declaration in scope, if it has one
abbrev pub linkage_of_meant : Option Declared → Linkage
linkage_of_meant None = linkage.External
linkage_of_meant (Some d) = or_external d.linkage

-- the linkage of a name without typedef and extern (C99 6.2.2, 3, 5 and 6): a function
-- without static is as with extern
abbrev pub file_linkage : Env → Scope → Bool → Bool → Name → Linkage
file_linkage env AtFile static is_function name =
    if static then linkage.Internal else if is_function then linkage_of_meant (look_up env name)
    else linkage.External
file_linkage env InBlock static is_function name =
    if is_function then linkage_of_meant (look_up env name) else linkage.None

-- the linkage of a name (C99 6.2.2, 3 to 6): with extern that of a declaration in scope which has one
abbrev pub linkage_of : Env → Scope → List Storage → Bool → Name → Linkage
linkage_of env scope ss is_function name =
    if has is_typedef ss then linkage.None
    else if has is_extern ss then linkage_of_meant (look_up env name)
    else file_linkage env scope (has is_static ss) is_function name

-- what a declaration defines (C99 6.9.1, 6.9.2)
abbrev pub defines_of : Scope → List Storage → Bool → Given → Defines
defines_of scope ss is_function Bare =
    if is_function || has is_extern ss || has is_typedef ss then defines.Nothing else defines.Tentative
defines_of scope ss is_function Initialised = defines.Whole
defines_of scope ss is_function Defined = defines.Whole

-- an object of static storage (C99 6.2.4, 3)
abbrev pub is_static_object : Scope → List Storage → Bool
is_static_object AtFile ss = true
is_static_object InBlock ss = has is_static ss || has is_extern ss

abbrev pub meaning_of : Scope → List Storage → Option Ty → Meaning
meaning_of scope ss None = AFaultyName
meaning_of scope ss (Some t) = if has is_typedef ss then ATypedef t else if is_function t then AFunction t
    else AnObject t (is_static_object scope ss)

-- 22 of an initialiser where none may stand: of a typedef, a function, or an extern in
-- a block (C99 6.7.8, 3 and 5)
abbrev pub may_be_given : Scope → List Storage → Ty → Given → Bool
may_be_given scope ss t Bare = true
may_be_given AtFile ss t Initialised = not (has is_typedef ss || is_function t)
may_be_given InBlock ss t Initialised = not (has is_typedef ss || is_function t || has is_extern ss)
may_be_given scope ss t Defined = true

-- 22 of static on a function in a block (C99 6.7.1, 5)
abbrev pub may_be_static : Scope → List Storage → Ty → Bool
may_be_static AtFile ss t = true
may_be_static InBlock ss t = not (has is_static ss && is_function t)

-- an object whose storage is here wants a complete type (C99 6.7, 7): with an initialiser
-- behind extern too (6.9.2, 1)
abbrev pub wants_type : List Storage → Ty → Given → Bool
wants_type ss t Bare = not (has is_typedef ss || has is_extern ss || is_function t)
wants_type ss t Initialised = not (has is_typedef ss || is_function t)
wants_type ss t Defined = not (has is_typedef ss || is_function t)

-- where the type is to be complete: a tentative definition of external linkage may have a struct that is
-- completed later, `at_end` is the environment behind the source (C99 6.9.2, 2 and 3)
abbrev pub env_for : Env → Env → Scope → List Storage → Given → Env
env_for env at_end AtFile ss Bare = if has is_static ss then env else at_end
env_for env at_end AtFile ss Initialised = env
env_for env at_end AtFile ss Defined = env
env_for env at_end InBlock ss given = env

-- the size of an array may come from an initialiser
abbrev pub has_size_later : Ty → Given → Bool
has_size_later t Bare = false
has_size_later t Initialised = is_array t
has_size_later t Defined = false

abbrev pub is_complete_object : Env → Env → Scope → List Storage → Ty → Given → Bool
is_complete_object env at_end scope ss t given =
    not (wants_type ss t given) || has_size_later t given
    || is_complete (env_for env at_end scope ss given).structs t

-- `main` has one of its two types (C99 5.1.2.2.1, 1), where it has external linkage
abbrev pub arguments : Tys
arguments = types_of (int ∷ Pointer (Pointer char) ∷ [])

abbrev pub is_main_type : Ty → Bool
is_main_type t = is_same t (Function int (types_of []) false) || is_same t (Function int arguments false)

abbrev pub may_be_main : Name → Linkage → Ty → Bool
may_be_main name linkage.External t = not (is_name name (codes "main") && is_function t) || is_main_type t
may_be_main name linkage.Internal t = true
may_be_main name linkage.None t = true

-- the rules of a declared name besides 21, which Redeclared has
abbrev pub named_rules : Env → Env → Scope → List Storage → Name → Ty → Given → List Breach
named_rules env at_end scope ss name t given =
    unless (may_be_given scope ss t given && may_be_static scope ss t
    && may_be_main name (linkage_of env scope ss (is_function t) name) t) Mismatch ++
    unless (is_complete_object env at_end scope ss t given) Incomplete

-- 40 of a definition with `...`: at the Function
abbrev pub definition_rules : Option Ty → List Breach
definition_rules t = of_type t (λ t. unless (not (has_dots t)) OwnVararg)
