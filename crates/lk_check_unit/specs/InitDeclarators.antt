-- What walks over declarators with initialisers, and over declarations, find and leave behind (C99 6.7).
use Rattle.std.specs.Prelude.{ℕ, ◌≡◌, ◌↔◌, ◌++◌, Bool, true, Option, Some, None, List, [], ◌∷◌}
use Rattle.std.specs.Option.{option_map}
use Rattle.lk_tree.specs.declared.declaration.Declare.{Declare}
use Rattle.lk_tree.specs.declared.declaration.Init.{Init}
use Rattle.lk_tree.specs.declared.declaration.InitDeclarator.{InitDeclarator}
use Rattle.lk_tree.specs.declared.specifiers.Storage.{Storage}
use Rattle.lk_types.specs.Table.{Table}
use Rattle.lk_typed.specs.DeclarationRules as rule
use Rattle.lk_typed.specs.DeclarationRules.{InDeclaration, type_in}
use Rattle.lk_typed.specs.Declarations.{completed, declaration_adds, declarator_adds, declarators_add, declared_as, elements_given, given_by, initialiser_adds, name_adds, named_additions, type_of_name}
use Rattle.lk_typed.specs.Entities.{NameDeclared, StandsAmong}
use Rattle.lk_typed.specs.Env.{Declared, Env, extend, look_up}
use Rattle.lk_typed.specs.Expressions.{declarator_found}
use Rattle.lk_typed.specs.Meaning.{meaning}
use Rattle.lk_typed.specs.NodeParts.{declared_left, declarators_in_turn, initialiser_part, type_declared}
use Rattle.lk_typed.specs.NodeRules.{those_without_type}
use Rattle.lk_typed.specs.Nodes.{ADeclaration, ADeclarator, AnInitialiser, Declares, at}
use Rattle.lk_typed.specs.Parts.{perhaps}
use Rattle.lk_typed.specs.Told.{Named, SpecifierTold}
use Rattle.lk_typed.specs.Ty.{Ty}
use Rattle.lk_rules.specs.Keeping.{IsBroken}
use Rattle.lk_rules.specs.NodeLaws.{initialisers_in_turn}
use Rattle.lk_check_decl.specs.Twins.{scope_of}
use Rattle.lk_check_decl.specs.declared.initialisers.Target.{Target}
use Rattle.lk_check_decl.specs.declared.words.Scope.{Scope}
use Rattle.lk_check_decl.specs.declared.words.Scope.TheVariants.{Block}
use Rattle.lk_found.specs.Declarators.{name_codes}
use Rattle.lk_found.specs.declared.gathered.Specified.{Specified}
use Rattle.lk_checker.specs.States.{IsIn, recorded_in}
use Rattle.lk_checker.specs.declared.checker.Checker.{Checker}
use Rattle.lk_check_walk.specs.Walks.{Walks}
use Rattle.lk_check_unit.specs.Bodies.{IsPlain}
use Rattle.lk_check_unit.specs.Declaring.{KeepsBut, PutsDeclared}
use Rattle.lk_check_unit.specs.Initialising.{object_for}
use Rattle.lk_check_unit.specs.Later.{AreKnownPending, WalksBut, WalksNaming, pending_codes}
use Rattle.lk_check_unit.specs.declared.declared.NameFound.{NameFound}
use Rattle.lk_check_unit.specs.declared.pending.Pending.{Pending}

-- ---- the initialiser of a declarator, where there is one: it hides codes where it has no type and a code is broken in it

pub record HidesCodes (old new : Checker) (target : Option Target) (init : Option Init)
    (hidden : Bool) : Type 0 where
  pub walks : (at_end env : Env) → IsPlain old env →
      Walks at_end old new env (initialiser_adds env init)
      (perhaps env (AnInitialiser (object_for old.types target)) init)
  pub hides : (at_end env : Env) → IsPlain old env →
      (hidden ≡ true) ↔ IsBroken at_end
      (those_without_type (perhaps env (AnInitialiser (object_for old.types target)) init))

-- ---- the name of a declarator, whose type is made

-- it is recorded, where there is one
abbrev pub PutsIfNamed : Checker → Checker → Option Named → (Named → Declared) → Option Ty → Type 0
PutsIfNamed old new None d t = recorded_in new ≡ recorded_in old
PutsIfNamed old new (Some named) d t = PutsDeclared old new (d named) t

pub record NameIsFound (at_end : Env) (old new : Checker) (env : Env) (scope : Scope) (ss : List Storage)
    (d : InitDeclarator) (t : Option Ty) (found : NameFound) : Type 0 where
  pub type : option_map (meaning new.types) found.ty
      ≡ completed d.init (type_of_name env (scope_of scope) ss (declarator_found d.declarator).name t)
  pub behind : IsIn new (extend env
      (named_additions env (scope_of scope) ss (given_by d.init) d.init (declarator_found d.declarator).name t))
  pub keeps : KeepsBut at_end old new found.pending
      (name_codes env t
      (Declares (scope_of scope) ss (given_by d.init)
      (elements_given d.init (type_of_name env (scope_of scope) ss (declarator_found d.declarator).name
      t)) at_end) (declarator_found d.declarator).name)
  pub puts : PutsIfNamed old new (declarator_found d.declarator).name
      (λ named. declared_as env (scope_of scope) ss (given_by d.init) d.init named.name named.ordinal t)
      (completed d.init (type_of_name env (scope_of scope) ss (declarator_found d.declarator).name t))

abbrev pub FindsName : Checker → Checker → Scope → List Storage → InitDeclarator → Option ℕ →
    NameFound → Type 0
FindsName old new scope ss d t found = (at_end env : Env) → IsIn old env →
    NameIsFound at_end old new env scope ss d (option_map (meaning old.types) t) found

-- ---- declarators behind specifiers

-- the specifiers tell this
pub record IsToldBy (table : Table) (specified : Specified) (told : SpecifierTold) : Type 0 where
  pub storages : specified.storages.items ≡ told.storages
  pub type : option_map (meaning table) specified.ty ≡ type_in InDeclaration told

-- some tentative definitions were put behind those before them; in a block there are none
pub record PutsPending (new : Table) (scope : Scope) (before after : List Pending) : Type 0 where
  pub fresh : List Pending
  pub are : after ≡ before ++ fresh
  pub known : AreKnownPending new fresh
  pub none : scope ≡ Block → fresh ≡ []

-- one of these declarators, behind those before it, declares this name
pub record IsNamedAmong (scope : rule.Scope) (told : SpecifierTold) (env : Env) (ds : List InitDeclarator)
    (name : NameDeclared) : Type 0 where
  pub here : Env
  pub d : InitDeclarator
  pub among : StandsAmong scope told env ds here d
  pub named : Named
  pub has_name : (declarator_found d.declarator).name ≡ Some named
  pub found : look_up (extend here (name_adds scope told here d)) named.name ≡ Some name.is
  pub spot : name.spot ≡ named.spot
  pub type : type_declared scope told here d ≡ Some name.type

pub record DeclaresOne (old new : Checker) (scope : Scope) (specified : Specified) (d : InitDeclarator)
    (before after : List Pending) (hidden : Bool) : Type 0 where
  pub puts : PutsPending new.types scope before after
  pub walks : (at_end env : Env) (told : SpecifierTold) → IsPlain old env →
      IsToldBy old.types specified told →
      WalksNaming (IsNamedAmong (scope_of scope) told env (d ∷ [])) at_end old new env
      (declarator_adds (scope_of scope) told env d)
      (at env (ADeclarator (declared_left (scope_of scope) told at_end env d) d.declarator) ∷
      initialiser_part (scope_of scope) told env d) (pending_codes new.types at_end puts.fresh)
  pub hides : (at_end env : Env) (told : SpecifierTold) → IsPlain old env →
      IsToldBy old.types specified told →
      (hidden ≡ true) ↔ IsBroken at_end (those_without_type (initialiser_part (scope_of scope) told env d))

pub record DeclaresAll (old new : Checker) (scope : Scope) (specified : Specified) (ds : List InitDeclarator)
    (before after : List Pending) (hidden : Bool) : Type 0 where
  pub puts : PutsPending new.types scope before after
  pub walks : (at_end env : Env) (told : SpecifierTold) → IsPlain old env →
      IsToldBy old.types specified told →
      WalksNaming (IsNamedAmong (scope_of scope) told env ds) at_end old new env
      (declarators_add (scope_of scope) told env ds)
      (declarators_in_turn at_end (scope_of scope) told env ds)
      (pending_codes new.types at_end puts.fresh)
  pub hides : (at_end env : Env) (told : SpecifierTold) → IsPlain old env →
      IsToldBy old.types specified told →
      (hidden ≡ true) ↔ IsBroken at_end
      (those_without_type (initialisers_in_turn (scope_of scope) told env ds))

-- a declaration
pub record WalksNode (old new : Checker) (scope : Scope) (node : Declare)
    (before after : List Pending) : Type 0 where
  pub puts : PutsPending new.types scope before after
  pub walks : (at_end env : Env) → IsPlain old env →
      WalksBut at_end old new env (declaration_adds (scope_of scope) env node)
      (at env (ADeclaration (scope_of scope) node) ∷ []) (pending_codes new.types at_end puts.fresh)
