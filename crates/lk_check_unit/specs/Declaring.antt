-- Declared names, in the code and in the words of the rules (C99 6.2.2, 6.7).
use Rattle.std.specs.Prelude.{ℕ, ⊤, ◌≡◌, ◌++◌, true, false, Option, Some, None, List, [], ◌∷◌, IfSome}
use Rattle.std.specs.Option.{option_map}
use Rattle.lk_base.specs.declared.code.Code.TheVariants.{Incomplete}
use Rattle.lk_base.specs.declared.spot.Spot.{Spot}
use Rattle.lk_tree.specs.declared.declaration.Init.{Init}
use Rattle.lk_tree.specs.declared.specifiers.Storage.{Storage}
use Rattle.lk_types.specs.Table.{IsKnown, Table}
use Rattle.lk_typed.specs.DeclarationRules as rule
use Rattle.lk_typed.specs.DeclarationRules.{Bare, Defined, Initialised, defines_of, is_complete_object, meaning_of, named_rules, wants_type}
use Rattle.lk_typed.specs.Declarations.{completed, composite_type, declared_as, elements_given, is_function_type, one_name, reach_of}
use Rattle.lk_typed.specs.DeclaratorRules.{of_type, unless}
use Rattle.lk_typed.specs.Env.{Declared, Env, extend}
use Rattle.lk_typed.specs.Faults.{Breach}
use Rattle.lk_typed.specs.Meaning.{meaning}
use Rattle.lk_typed.specs.NodeRules.{mark, name_use_rules}
use Rattle.lk_typed.specs.Nodes.{Declares, Placed}
use Rattle.lk_typed.specs.Told.{Named}
use Rattle.lk_typed.specs.Ty.{Ty}
use Rattle.lk_typed.specs.declared.names.Declared.{Declared as CodeDeclared}
use Rattle.lk_rules.specs.Keeping.{Kept}
use Rattle.lk_check_decl.specs.Twins.{given_of, scope_of}
use Rattle.lk_check_decl.specs.declared.names.NameUse.{NameUse}
use Rattle.lk_check_decl.specs.declared.words.Given.{Given}
use Rattle.lk_check_decl.specs.declared.words.Scope.{Scope}
use Rattle.lk_check_decl.specs.declared.words.Scope.TheVariants.{File}
use Rattle.lk_found.specs.Keepings.{Codes, KeepsAll, codes_at}
use Rattle.lk_found.specs.Recorded.{with_declared}
use Rattle.lk_found.specs.Findings.{IsDeclaredAs}
use Rattle.lk_found.specs.declared.found.At.{At}
use Rattle.lk_found.specs.declared.records.DeclaredHere.{DeclaredHere}
use Rattle.lk_checker.specs.Moves.{GoesOn, Grows, KeepsAt}
use Rattle.lk_checker.specs.States.{IsIn, kept_in, recorded_in}
use Rattle.lk_checker.specs.declared.checker.Checker.{Checker}
use Rattle.lk_check_unit.specs.Later.{pending_codes, pending_rules}
use Rattle.lk_check_unit.specs.declared.declared.How.{How}
use Rattle.lk_check_unit.specs.declared.declared.NameFound.{NameFound}
use Rattle.lk_check_unit.specs.declared.pending.Pending.{Pending}

-- types came, and all else is as it was
pub record PutsTypes (old new : Checker) : Type 0 where
  pub grows : Grows old new
  pub names : new.names ≡ old.names

-- how a name of this type is declared
pub record IsHow (checker : Checker) (scope : Scope) (ss : List Storage) (given : Given) (named : Named)
    (t : Option Ty) (how : How) : Type 0 where
  pub stands : how.scope ≡ scope
  pub gives : how.given ≡ given
  pub linkage : (env : Env) → IsIn checker env → how.linkage ≡ reach_of env (scope_of scope) ss named.name t
  pub defines : (place : rule.Scope) → how.defines ≡ defines_of place ss (is_function_type t) (given_of given)

-- a name that is declared so
abbrev pub declared_by : List Storage → How → Named → Option Ty → Declared
declared_by ss how named t =
    record {
      name = named.name;
      meaning = meaning_of (scope_of how.scope) ss t;
      linkage = how.linkage;
      defines = how.defines;
      ordinal = named.ordinal;
    }

-- the same, of what was declared with another type
abbrev pub meant_by : List Storage → How → CodeDeclared → Option Ty → Declared
meant_by ss how declared t =
    record {
      name = declared.name;
      meaning = meaning_of (scope_of how.scope) ss t;
      linkage = declared.linkage;
      defines = declared.defines;
      ordinal = declared.ordinal;
    }

-- a definition of a function is recorded with the type that its declarator makes, each other declaration with
-- the type that its name has behind it
abbrev pub type_recorded : rule.Given → (made whole : Option Ty) → Option Ty
type_recorded Bare made whole = whole
type_recorded Initialised made whole = whole
type_recorded Defined made whole = made

-- a name of this type is declared as it is recorded, wherever it stands
abbrev pub IsRecordedAs : Table → Option DeclaredHere → Declared → Option Ty → Type 0
IsRecordedAs table None d t = ⊤
IsRecordedAs table (Some here) d t =
    (ty : Ty) × (t ≡ Some ty)
    × ((spot : Spot) → IsDeclaredAs table here (record { is = d; spot = spot; type = ty }))

-- it is recorded, where it has a type
pub record PutsDeclared (old new : Checker) (d : Declared) (t : Option Ty) : Type 0 where
  pub here : Option DeclaredHere
  pub same : recorded_in new ≡ with_declared d.ordinal here (recorded_in old)
  pub is : IsRecordedAs new.types here d t

-- a name is in scope, and no code was kept
pub record PutsName (old new : Checker) (d : Declared) : Type 0 where
  pub kept : kept_in new ≡ kept_in old
  pub types : new.types ≡ old.types
  pub names : GoesOn old new (λ env. one_name d)

-- ---- codes of a declared name by its type

abbrev pub complete_rules : Env → Env → List Storage → NameUse → Ty → List Breach
complete_rules env at_end ss how t =
    unless (is_complete_object env at_end (scope_of how.scope) ss t (given_of how.given)) Incomplete

-- 25 is kept, or it waits for the end of the source
abbrev pub AsksComplete : Checker → Checker → List Storage → At → NameUse → Option Pending → Type 0
AsksComplete old new ss at how None = (at_end env : Env) → IsIn old env →
    KeepsAt old new at (complete_rules env at_end ss how (meaning old.types how.ty))
AsksComplete old new ss at how (Some p) =
    (p ≡ record { at = at; ty = how.ty }) × (kept_in new ≡ kept_in old) ×
    ((at_end env : Env) → complete_rules env at_end ss how (meaning old.types how.ty) ≡ pending_rules at_end (meaning old.types how.ty))

-- an object waits; of all else nothing is asked
abbrev pub IsWaiting : List Storage → At → Ty → ℕ → Option Pending → Type 0
IsWaiting ss at t ty None = wants_type ss t Bare ≡ false
IsWaiting ss at t ty (Some p) = (p ≡ record { at = at; ty = ty }) × (wants_type ss t Bare ≡ true)

abbrev pub listed : Option Pending → List Pending
listed None = []
listed (Some p) = p ∷ []

-- these codes are kept, but for those that wait
abbrev pub KeepsBut : Env → Checker → Checker → Option Pending → List Codes → Type 0
KeepsBut at_end old new pending codes =
    (others : List Placed) (more : List Codes) (last : Kept) →
    KeepsAll at_end (kept_in new) others (pending_codes new.types at_end (listed pending) ++ more) last →
    KeepsAll at_end (kept_in old) others (codes ++ more) last

abbrev pub AsksType : Checker → Checker → List Storage → How → Named → Option ℕ → Option Pending → Type 0
AsksType old new ss how named t pending =
    (at_end env : Env) → IsIn old env →
    how.linkage ≡ reach_of env (scope_of how.scope) ss named.name (option_map (meaning old.types) t) →
    KeepsBut at_end old new pending
    (codes_at (mark named.spot named.ordinal)
    (of_type (option_map (meaning old.types) t)
    (λ t. named_rules env at_end (scope_of how.scope) ss named.name t (given_of how.given))) ∷ [])

-- ---- a name is declared

pub record NameIsDeclared (at_end : Env) (old new : Checker) (env : Env) (scope : Scope) (ss : List Storage)
    (given : Given) (named : Named) (t : Option Ty) (init : Option Init) (found : NameFound) : Type 0 where
  pub type : option_map (meaning new.types) found.ty
      ≡ completed init (composite_type env (scope_of scope) ss named.name t)
  pub behind : IsIn new (extend env (one_name (declared_as env (scope_of scope) ss (given_of given) init named.name named.ordinal t)))
  pub keeps : KeepsBut at_end old new found.pending
      (codes_at (mark named.spot named.ordinal)
      (name_use_rules env t named.name
      (Declares (scope_of scope) ss (given_of given)
      (elements_given init (composite_type env (scope_of scope) ss named.name t)) at_end)) ∷ [])
  pub puts : PutsDeclared old new
      (declared_as env (scope_of scope) ss (given_of given) init named.name named.ordinal t)
      (type_recorded (given_of given) t (completed init (composite_type env (scope_of scope) ss named.name t)))

abbrev pub DeclaresName : Checker → Checker → Scope → List Storage → Given → Named → Option ℕ → Option Init →
    NameFound → Type 0
DeclaresName old new scope ss given named t init found =
    (at_end env : Env) → IsIn old env →
    NameIsDeclared at_end old new env scope ss given named (option_map (meaning old.types) t) init found

-- only what is declared at file scope, and given nothing, waits; its type is in the table
abbrev pub WaitsIn : Table → Scope → Given → Option Pending → Type 0
WaitsIn table scope given p =
    IfSome p (λ (q : Pending). (scope ≡ File) × (given_of given ≡ Bare) × IsKnown table q.ty)
