-- The rules of a declared name besides 21, each by itself; together they are `named_rules` of lk_typed.
use Rattle.std.specs.Prelude.{◌≡◌, ◌&&◌, ◌||◌, Bool, not, nat_eq, List}
use Rattle.lk_base.specs.declared.code.Code.TheVariants.{Mismatch, Incomplete}
use Rattle.lk_tree.specs.declared.specifiers.Storage.{Storage}
use Rattle.lk_typed.specs.declared.entity.Linkage.{Linkage}
use Rattle.lk_typed.specs.DeclarationRules.{Scope, Given, arguments, env_for, linkage_of, may_be_given, may_be_static, may_be_main, wants_type, has_size_later}
use Rattle.lk_typed.specs.DeclaratorRules.{unless}
use Rattle.lk_typed.specs.Env.{Env, Name, Members}
use Rattle.lk_typed.specs.Faults.{Breach}
use Rattle.lk_typed.specs.Sizes.{is_complete}
use Rattle.lk_typed.specs.Ty.{Ty, Tys, are_equal_but, is_function, none}
use Rattle.lk_check_decl.specs.Twins.{scope_of, given_of}
use Rattle.lk_check_decl.specs.declared.names.NameUse.{NameUse}

-- 22 of an initialiser, of static, and of main
abbrev pub use_rules : Scope → List Storage → Name → Linkage → Ty → Given → List Breach
use_rules scope ss name reach t given =
    unless (may_be_given scope ss t given && may_be_static scope ss t && may_be_main name reach t) Mismatch

-- 25 of an object, by the structs where its type is to be complete
abbrev pub object_rules : List Members → List Storage → Ty → Given → List Breach
object_rules structs ss t given =
    unless (not (wants_type ss t given) || has_size_later t given || is_complete structs t) Incomplete

-- the parameters of main
abbrev pub are_main_params : Tys → Bool
are_main_params params = are_equal_but nat_eq params none || are_equal_but nat_eq params arguments

-- the name has this linkage
abbrev pub IsUsed : Env → List Storage → Name → NameUse → Ty → Type 0
IsUsed env ss name declared t =
    declared.linkage ≡ linkage_of env (scope_of declared.scope) ss (is_function t) name

-- these are the structs where its type is to be complete
abbrev pub IsJudgedBy : Env → Env → List Storage → NameUse → List Members → Type 0
IsJudgedBy env at_end ss declared structs =
    (env_for env at_end (scope_of declared.scope) ss (given_of declared.given)).structs ≡ structs
