-- What declarations add (C99 6.7, 6.2.2, 6.2.7, 6.9.1, 6.9.2): each declared name stands from the end of its
-- declarator on, so in its own initialiser too (6.2.1, 7).
use Rattle.std.specs.Prelude.{ℕ, Bool, true, false, Option, Some, None, List, [], ◌∷◌, nat_eq, if◌then◌else◌}
use Rattle.lk_tree.specs.declared.declaration.Declare.{Declare}
use Rattle.lk_tree.specs.declared.declaration.Init.{Init}
use Rattle.lk_tree.specs.declared.declaration.InitDeclarator.{InitDeclarator}
use Rattle.lk_tree.specs.declared.specifiers.Storage.{Storage}
use Rattle.lk_typed.specs.declared.entity.Linkage.{Linkage}
use Rattle.lk_typed.specs.DeclarationRules.{InDeclaration, Scope, Given, Bare, Initialised, has, is_extern, linkage_of, defines_of, meaning_of, type_in}
use Rattle.lk_typed.specs.Env.{Env, Additions, Name, Declared, nothing, both, extend, look_up, or_else}
use Rattle.lk_typed.specs.DeclaratorRules.{elements}
use Rattle.lk_typed.specs.InitialiserRules.{given_rules}
use Rattle.lk_typed.specs.Initialisers.{completed_by, init_adds}
use Rattle.lk_typed.specs.Layers.{type_made}
use Rattle.lk_typed.specs.Redeclared.{is_linked_alike, object_type, function_type}
use Rattle.lk_typed.specs.Told.{SpecifierTold, Named, unless_broken, with_optional}
use Rattle.lk_typed.specs.Ty.{Ty, Void, Int, ThreadId, Mutex, Cond, Pointer, Array, Struct, Function, Opaque, Tys, none, more, target_of, array_of, function_of, is_function, is_redeclarable}
use Rattle.lk_typed.specs.Expressions.{declarator_found, specifiers_found}

-- the size that one of two declarations gives
abbrev pub sized : ℕ → ℕ → ℕ
sized n m = if nat_eq n 0 then m else n

abbrev mutual
  -- the type of two declarations of one name (C99 6.2.7, 3): an array in it has the
  -- size that either of them gives
  pub composite : Ty → Ty → Ty
  composite Void old = Void
  composite (Int k) old = Int k
  composite ThreadId old = ThreadId
  composite Mutex old = Mutex
  composite Cond old = Cond
  composite (Pointer t) old = with_optional (Pointer t) (λ u. Pointer (composite t u)) (target_of old)
  composite (Array t n) old =
      with_optional (Array t n) (λ other. Array (composite t other.0) (sized n other.1)) (array_of old)
  composite (Struct s) old = Struct s
  composite (Function result params dots) old =
      with_optional (Function result params dots)
      (λ other. Function (composite result other.result) (composites params other.params) dots)
      (function_of old)
  composite (Opaque n) old = Opaque n

  pub composites : Tys → Tys → Tys
  composites none olds = none
  composites (more t ts) none = more t ts
  composites (more t ts) (more old olds) = more (composite t old) (composites ts olds)

abbrev pub composite_if_equal : Ty → Option Ty → Ty
composite_if_equal t None = t
composite_if_equal t (Some old) = if is_redeclarable t old then composite t old else t

-- the type of an object or function with linkage that is declared before (C99 6.2.7, 4)
abbrev pub old_type : Option Declared → Option Ty
old_type None = None
old_type (Some old) =
    if is_linked_alike old.linkage old.linkage
    then or_else (object_type old.meaning) (function_type old.meaning) else None

abbrev pub given_by : Option Init → Given
given_by None = Bare
given_by (Some init) = Initialised

-- whether `[]` may stand in a declarator: extern, or with an initialiser
abbrev pub may_lack_size : List Storage → Option Init → Bool
may_lack_size ss None = has is_extern ss
may_lack_size ss (Some init) = true

-- the type with the size that an initialiser gives (C99 6.7.8, 22)
abbrev pub sized_by : Option Init → Option Ty → Option Ty
sized_by init None = None
sized_by None (Some t) = Some t
sized_by (Some init) (Some t) = Some (completed_by init t)

-- how many elements an object has that has an initialiser
abbrev pub elements_given : Option Init → Option Ty → ℕ
elements_given init None = 0
elements_given None (Some t) = 0
elements_given (Some init) (Some t) = elements (completed_by init t)

-- the same type, missing where it has too many elements by that: 31
abbrev pub completed : Option Init → Option Ty → Option Ty
completed init t = unless_broken (given_rules (elements_given init t)) (sized_by init t)

-- a name with linkage has the composite type (C99 6.2.7, 4)
abbrev pub type_with_old : Env → Name → Linkage → Option Ty → Option Ty
type_with_old env name reach None = None
type_with_old env name reach (Some t) =
    Some (composite_if_equal t (if is_linked_alike reach reach then old_type (look_up env name) else None))

abbrev pub is_function_type : Option Ty → Bool
is_function_type None = false
is_function_type (Some t) = is_function t

-- the linkage of a name of this type
abbrev pub reach_of : Env → Scope → List Storage → Name → Option Ty → Linkage
reach_of env scope ss name t = linkage_of env scope ss (is_function_type t) name

-- the type that a declared name has by its declarator and the declarations before it
abbrev pub composite_type : Env → Scope → List Storage → Name → Option Ty → Option Ty
composite_type env scope ss name t = type_with_old env name (reach_of env scope ss name t) t

-- the same of a name that may be missing
abbrev pub type_of_name : Env → Scope → List Storage → Option Named → Option Ty → Option Ty
type_of_name env scope ss None t = t
type_of_name env scope ss (Some named) t = composite_type env scope ss named.name t

-- a declared name (C99 6.2.2, 6.2.4), with the size that its initialiser gives; its declaration is
-- faulty where its type is missing
abbrev pub declared_as : Env → Scope → List Storage → Given → Option Init → Name → ℕ → Option Ty → Declared
declared_as env scope ss given init name n t =
    record {
      name = name;
      meaning = meaning_of scope ss (completed init (composite_type env scope ss name t));
      linkage = reach_of env scope ss name t;
      defines = defines_of scope ss (is_function_type t) given;
      ordinal = n;
    }

abbrev pub one_name : Declared → Additions
one_name d = record { declared = d ∷ []; tags = []; structs = [] }

abbrev pub named_additions : Env → Scope → List Storage → Given → Option Init → Option Named →
    Option Ty → Additions
named_additions env scope ss given init None t = nothing
named_additions env scope ss given init (Some named) t =
    one_name (declared_as env scope ss given init named.name named.ordinal t)

abbrev pub initialiser_adds : Env → Option Init → Additions
initialiser_adds env None = nothing
initialiser_adds env (Some init) = init_adds init env

-- a declarator with its initialiser: what it adds up to its name, and what the initialiser adds behind that
abbrev pub name_adds : Scope → SpecifierTold → Env → InitDeclarator → Additions
name_adds scope told env d =
    let inner = declarator_found d.declarator in
    let a = inner.additions env in
    let t = type_made env (may_lack_size told.storages d.init) (type_in InDeclaration told) inner in
    both a (named_additions (extend env a) scope told.storages (given_by d.init) d.init inner.name t)

abbrev pub declarator_adds : Scope → SpecifierTold → Env → InitDeclarator → Additions
declarator_adds scope told env d =
    let a = name_adds scope told env d in
    both a (initialiser_adds (extend env a) d.init)

abbrev pub declarators_add : Scope → SpecifierTold → Env → List InitDeclarator → Additions
declarators_add scope told env [] = nothing
declarators_add scope told env (d ∷ ds) = let a = declarator_adds scope told env d in
    both a (declarators_add scope told (extend env a) ds)

abbrev pub is_alone : List InitDeclarator → Bool
is_alone [] = true
is_alone (d ∷ ds) = false

-- what a declaration adds
abbrev pub declaration_adds : Scope → Env → Declare → Additions
declaration_adds scope env node =
    let told = specifiers_found node.specifiers env (is_alone node.declarators) in
    both told.additions (declarators_add scope told (extend env told.additions) node.declarators)
