-- When a name may be declared again (C99 6.7, 3; 6.2.2; 6.9.2): code 21.
use Rattle.std.specs.Prelude.{Bool, true, false, not, ◌&&◌, ◌||◌, Option, Some, None, List, [], ◌∷◌, codes, drop, if◌then◌else◌}
use Rattle.std.specs.List.{list_any}
use Rattle.lk_base.specs.declared.code.Code.TheVariants.{Redeclared}
use Rattle.lk_typed.specs.declared.entity.Linkage.{Linkage}
use Rattle.lk_typed.specs.declared.entity.Linkage.TheVariants as linkage
use Rattle.lk_typed.specs.declared.entity.Defines.{Defines}
use Rattle.lk_typed.specs.declared.entity.Defines.TheVariants as defines
use Rattle.lk_typed.specs.Env.{Env, Name, Declared, Meaning, AnObject, AFunction, ATypedef, AnEnumerator, AnInitialiserWord, AFaultyName, Tag, TagMeaning, AStructTag, AnEnumTag, AFaultyTag, Members, NotYet, Begun, Known, Faulty, is_name, is_one_of, look_up_here, look_up_tag, look_up_tag_here, members_of}
use Rattle.lk_typed.specs.Faults.{Breach, breach_of}
use Rattle.lk_typed.specs.Ty.{Ty, is_same, is_redeclarable}

-- the types that are predeclared at file scope
abbrev pub library_types : List Name
library_types =
    codes "pthread_t" ∷ codes "pthread_mutex_t" ∷ codes "pthread_cond_t" ∷ codes "size_t" ∷
    codes "pthread_attr_t" ∷ codes "pthread_mutexattr_t" ∷ codes "pthread_condattr_t" ∷ []

-- ---- what two meanings have in common

abbrev pub is_test : {A : Type 0} → Option A → (A → Bool) → Bool
is_test None test = false
is_test (Some a) test = test a

abbrev pub object_type : Meaning → Option Ty
object_type (AnObject t static) = Some t
object_type (AFunction t) = None
object_type (ATypedef t) = None
object_type (AnEnumerator z) = None
object_type (AnInitialiserWord t) = None
object_type AFaultyName = None

abbrev pub function_type : Meaning → Option Ty
function_type (AnObject t static) = None
function_type (AFunction t) = Some t
function_type (ATypedef t) = None
function_type (AnEnumerator z) = None
function_type (AnInitialiserWord t) = None
function_type AFaultyName = None

abbrev pub typedef_type : Meaning → Option Ty
typedef_type (AnObject t static) = None
typedef_type (AFunction t) = None
typedef_type (ATypedef t) = Some t
typedef_type (AnEnumerator z) = None
typedef_type (AnInitialiserWord t) = None
typedef_type AFaultyName = None

abbrev pub is_faulty : Meaning → Bool
is_faulty (AnObject t static) = false
is_faulty (AFunction t) = false
is_faulty (ATypedef t) = false
is_faulty (AnEnumerator z) = false
is_faulty (AnInitialiserWord t) = false
is_faulty AFaultyName = true

-- two types are there, and the test holds of them
abbrev pub are_both : (Ty → Ty → Bool) → Option Ty → Option Ty → Bool
are_both test a b = is_test a (λ t. is_test b (λ u. test t u))

-- both names reach beyond their scope, and equally far (C99 6.2.2, 2)
abbrev pub is_linked_alike : Linkage → Linkage → Bool
is_linked_alike linkage.External linkage.External = true
is_linked_alike linkage.External linkage.Internal = false
is_linked_alike linkage.External linkage.None = false
is_linked_alike linkage.Internal linkage.External = false
is_linked_alike linkage.Internal linkage.Internal = true
is_linked_alike linkage.Internal linkage.None = false
is_linked_alike linkage.None linkage.External = false
is_linked_alike linkage.None linkage.Internal = false
is_linked_alike linkage.None linkage.None = false

-- it has a body or an initialiser
abbrev pub is_whole : Defines → Bool
is_whole defines.Nothing = false
is_whole defines.Tentative = false
is_whole defines.Whole = true

-- ---- names that are no tags

-- the later of two declarations of a name in one scope is admitted: equal ones of a function, or of an object
-- with linkage, where at most one has a body or an initialiser; and an equal one of a predeclared type. What
-- a library function does is its body. Of a faulty declaration nothing is asked.
abbrev pub may_follow : Declared → Declared → Bool
may_follow old new =
    is_faulty old.meaning || is_faulty new.meaning ||
    (is_linked_alike old.linkage new.linkage && not (is_whole old.defines && is_whole new.defines) &&
    (are_both is_redeclarable (object_type old.meaning) (object_type new.meaning)
    || are_both is_redeclarable (function_type old.meaning) (function_type new.meaning))) ||
    (is_one_of library_types new.name && are_both is_same (typedef_type old.meaning) (typedef_type new.meaning))

abbrev pub may_stand : Option Declared → Declared → Bool
may_stand None new = true
may_stand (Some old) new = may_follow old new

-- a declaration that isn't faulty has a body or an initialiser
abbrev pub is_given : Declared → Bool
is_given d = is_whole d.defines && not (is_faulty d.meaning)

abbrev pub gives_name : Name → Declared → Bool
gives_name name d = is_given d && is_name d.name name

-- one of the declarations of the name in this scope has one
abbrev pub is_given_here : Env → Name → Bool
is_given_here env name = list_any (gives_name name) (drop env.base env.declared)

-- a second body or initialiser of one name, also where a declaration without one stands between (C99 6.9, 3
-- and 5)
abbrev pub is_second : Env → Declared → Bool
is_second env new = is_given new && is_given_here env new.name

-- 21 of a name that is no tag
abbrev pub name_rules : Env → Declared → List Breach
name_rules env new =
    if may_stand (look_up_here env new.name) new && not (is_second env new) then []
    else breach_of Redeclared new.name ∷ []

-- ---- tags (C99 6.7.2.3): a struct whose definition has begun may not be defined again, inside its own definition neither

-- what specifiers do with a tag
pub data TagUse : Type 0 where
  -- `struct tag { .. }`, `enum tag { .. }`
  DefinesStruct : TagUse
  DefinesEnum : TagUse
  -- `struct tag`, `enum tag`
  NamesStruct : TagUse
  NamesEnum : TagUse
  -- `struct tag;` (C99 6.7.2.3, 7)
  DeclaresStruct : TagUse

abbrev pub is_open : Members → Bool
is_open NotYet = true
is_open Begun = false
is_open (Known fields) = false
is_open Faulty = false

-- whether a use may stand where the tag has this meaning: a struct is defined once, an enumeration is defined
-- once, and each is named by its own word
abbrev pub admits : Env → TagMeaning → TagUse → Bool
admits env (AStructTag s) DefinesStruct = is_open (members_of env.structs s)
admits env (AStructTag s) DefinesEnum = false
admits env (AStructTag s) NamesStruct = true
admits env (AStructTag s) NamesEnum = false
admits env (AStructTag s) DeclaresStruct = true
admits env AnEnumTag DefinesStruct = false
admits env AnEnumTag DefinesEnum = false
admits env AnEnumTag NamesStruct = false
admits env AnEnumTag NamesEnum = true
admits env AnEnumTag DeclaresStruct = false
admits env AFaultyTag DefinesStruct = true
admits env AFaultyTag DefinesEnum = true
admits env AFaultyTag NamesStruct = true
admits env AFaultyTag NamesEnum = true
admits env AFaultyTag DeclaresStruct = true

-- the tag that a use speaks of: a definition or a lone declaration that of its own
-- scope, else the innermost one
abbrev pub tag_meant : Env → TagUse → Name → Option Tag
tag_meant env DefinesStruct name = look_up_tag_here env name
tag_meant env DefinesEnum name = look_up_tag_here env name
tag_meant env NamesStruct name = look_up_tag env name
tag_meant env NamesEnum name = look_up_tag env name
tag_meant env DeclaresStruct name = look_up_tag_here env name

abbrev pub may_use : Env → Option Tag → TagUse → Bool
may_use env None wanted = true
may_use env (Some tag) wanted = admits env tag.meaning wanted

-- 21 of a tag
abbrev pub tag_rules : Env → TagUse → Name → List Breach
tag_rules env wanted name =
    if may_use env (tag_meant env wanted name) wanted then [] else breach_of Redeclared name ∷ []
