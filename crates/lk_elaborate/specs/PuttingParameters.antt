-- The parameters of a definition, which are put among the locals of its body (C99 6.9.1, 9).
use Rattle.std.specs.Prelude.{ℕ, ◌≡◌, ◌++◌, Bool, false, Option, None, Some, List, [], ◌∷◌, length, map}
use Rattle.lk_tree.specs.declared.expression.Declarator.{Declarator}
use Rattle.lk_tree.specs.declared.expression.Parameter.{Parameter}
use Rattle.lk_tree.specs.declared.statement.Function.{Function as Definition}
use Rattle.lk_tree.specs.declared.statement.Unit.{Unit}
use Rattle.lk_types.specs.Table.{Table}
use Rattle.lk_types.specs.declared.c_type.CType.{CType}
use Rattle.lk_typed.specs.Entities.{defined_type}
use Rattle.lk_typed.specs.Env.{Env, Name, enter, extend}
use Rattle.lk_typed.specs.Expressions.{specifiers_found}
use Rattle.lk_typed.specs.Locals.{AreParameters, HasParameters, StandsAtName, parameter_name}
use Rattle.lk_typed.specs.Meaning.{meaning}
use Rattle.lk_typed.specs.Ty.{Function, Ty, types_of}
use Rattle.lk_typed.specs.declared.unit.Local.{Local}
use Rattle.lk_elaborator.specs.Keeping.{KeepsNumbers}
use Rattle.lk_elaborator.specs.PuttingLocals.{AreNumbered, IsLocalSo, PutsLocal}
use Rattle.lk_elaborator.specs.PuttingLocals as put
use Rattle.lk_elaborator.specs.declared.elaborator.Elaborator.{Elaborator}
use Rattle.lk_elab_init.specs.Source.{IsToldSource}

-- these parameters stand directly beside the name in a declarator
abbrev pub HasBeside : Declarator → List Parameter → Type 0
HasBeside d ps = (dots : Bool) × HasParameters d ps dots

-- in the declarator inside another one, where there is one
abbrev pub HasBesideInside : Option Declarator → List Parameter → Type 0
HasBesideInside None ps = ⊥
HasBesideInside (Some d) ps = HasBeside d ps

-- the types with these numbers are those of the parameters of a function
abbrev pub AreTypesOf : Table → Ty → List ℕ → Type 0
AreTypesOf table t ts =
    (result : Ty) × (dots : Bool) × (t ≡ Function result (types_of (map (meaning table) ts)) dots)

-- ---- one parameter

-- a parameter, of the type with the number t, is this local
pub record IsParameterSo (walk : Elaborator) (p : Parameter) (t : ℕ) (local : Local) : Type 0 where
  pub type : local.ty ≡ t
  pub stands : (externs : List Name) (unit : Unit) → StandsAtName externs unit p local (parameter_name p)
  pub so : IsLocalSo walk local

pub record PutsParameter (old new : Elaborator) (p : Parameter) (t : ℕ) : Type 0 where
  pub local : Local
  pub puts : PutsLocal old new local
  pub is : IsParameterSo old p t local

-- ---- the first ones of a list

-- as many as there are types
pub data AreParametersSo (walk : Elaborator) : List Parameter → List ℕ → List Local → Type 0 where
  all_put : {ps : List Parameter} → AreParametersSo walk ps [] []
  one_put : {p : Parameter} {ps : List Parameter} {t : ℕ} {ts : List ℕ} {local : Local}
      {locals : List Local} → IsParameterSo walk p t local → AreParametersSo walk ps ts locals →
      AreParametersSo walk (p ∷ ps) (t ∷ ts) (local ∷ locals)

-- these locals are put, and nothing else
pub record PutsMore (old new : Elaborator) (locals : List Local) : Type 0 where
  pub same : new ≡ record old { locals = new.locals }
  pub list : new.locals.list.items ≡ old.locals.list.items ++ locals
  pub kept : KeepsNumbers old.locals.numbers.entries new.locals.numbers.entries
  pub numbered : AreNumbered old.locals → AreNumbered new.locals
  pub rise : put.Rise old.locals.list.items → put.Rise new.locals.list.items

pub record PutsTyped (old new : Elaborator) (ps : List Parameter) (ts : List ℕ) : Type 0 where
  pub locals : List Local
  pub puts : PutsMore old new locals
  pub are : AreParametersSo old ps ts locals

-- ---- all of them

-- the scope of the parameters (C99 6.2.1, 4)
abbrev pub scope_of : Env → Definition → Env
scope_of env node = enter (extend env (specifiers_found node.specifiers env false).additions)

-- where a definition with this declarator stands in the source, whose type has the number t
abbrev pub AreParametersOf : Elaborator → Declarator → ℕ → List Parameter → List Local → Type 0
AreParametersOf walk d t ps locals =
    (externs : List Name) (unit : Unit) → IsToldSource externs unit walk → (env : Env) (node : Definition) →
    node.declarator ≡ d → defined_type env node ≡ Some (meaning walk.types t) →
    (more : List CType) → AreParameters externs unit (walk.types.types ++ more) (scope_of env node) ps locals

-- the parameters of a definition with this declarator, whose type has the number t;
-- so many locals there are then
pub record PutsParameters (old new : Elaborator) (d : Declarator) (t count : ℕ) : Type 0 where
  pub parameters : List Parameter
  pub beside : HasBeside d parameters
  pub locals : List Local
  pub puts : PutsMore old new locals
  pub count_is : count ≡ length new.locals.list.items
  pub are : AreParametersOf old d t parameters locals
