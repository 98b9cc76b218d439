-- A parameter is settled behind its specifiers and its declarator (C99 6.7.5.3).
use Rattle.std.specs.Prelude.{ℕ, ◌≡◌, ◌++◌, Bool, Option, List, option_map}
use Rattle.lk_tree.specs.declared.expression.Declarator.{Declarator}
use Rattle.lk_tree.specs.declared.expression.Parameter.{Parameter, out-Parameter}
use Rattle.lk_typed.specs.Env.{Env, extend}
use Rattle.lk_typed.specs.Layers.{has_name, parameter_name, parameter_type}
use Rattle.lk_typed.specs.Meaning.{meaning}
use Rattle.lk_typed.specs.NodeRules.{adjusted_rules, mark, parameter_node_rules}
use Rattle.lk_typed.specs.Nodes.{IsParameter}
use Rattle.lk_typed.specs.Stands.{Mark}
use Rattle.lk_typed.specs.Told.{Named}
use Rattle.lk_typed.specs.Ty.{Ty}
use Rattle.lk_rules.specs.Keeping.{Kept, KeepsCodes}
use Rattle.lk_found.specs.Declarators.{name_codes}
use Rattle.lk_found.specs.Keepings.{KeepsEach}
use Rattle.lk_found.specs.Specified.{breaches_in}
use Rattle.lk_found.specs.declared.gathered.Breach.{Breach}
use Rattle.lk_found.specs.Parameters.{name_of}
use Rattle.lk_checker.specs.Moves.{GoesOn, Grows}
use Rattle.lk_checker.specs.States.{IsIn, kept_in, recorded_in}
use Rattle.lk_checker.specs.declared.checker.Checker.{Checker}

-- ---- behind its specifiers and its declarator

-- the codes at its name are kept
abbrev pub KeepsName : Checker → Checker → Env → Option Ty → Option Named → Type 0
KeepsName old new env t name = KeepsEach (kept_in old) (name_codes env t IsParameter name) (kept_in new)

-- its type is adjusted, and the codes of that are kept
pub record IsAdjusted (old new : Checker) (env : Env) (m : Mark) (is_named is_bare_void : Bool)
    (t : Option Ty) (ty : Option ℕ) : Type 0 where
  pub type : (name : Option Named) → is_named ≡ has_name name →
      option_map (meaning new.types) ty ≡ parameter_type env name t
  pub keeps : KeepsCodes (kept_in old) m
      (parameter_node_rules is_named is_bare_void t ++ adjusted_rules env t) (kept_in new)

-- it is declared, where it has a name
pub record IsParameterDeclared (old new : Checker) (t : Option Ty) (name : Option Named) : Type 0 where
  pub grows : Grows old new
  pub goes_on : GoesOn old new (λ env. parameter_name name t)

-- all of it, behind the codes of this declarator, where there is one
pub record IsParameterSettled (old new : Checker) (env : Env) (m : Mark) (d : Option Declarator)
    (breaches : List Breach) (is_bare_void : Bool) (t : Option Ty) (ty : Option ℕ) : Type 0 where
  pub middle : Kept
  pub name : KeepsEach (kept_in old) (name_codes env t IsParameter (name_of d)) middle
  pub rules : KeepsCodes middle m
      (breaches_in breaches ++ (parameter_node_rules (has_name (name_of d)) is_bare_void t ++ adjusted_rules env t)) (kept_in new)
  pub type : option_map (meaning new.types) ty ≡ parameter_type env (name_of d) t
  pub records : recorded_in new ≡ recorded_in old
  pub behind : IsIn new (extend env (parameter_name (name_of d) (parameter_type env (name_of d) t)))

-- of the parameter of this declarator
abbrev pub SettlesParameter : Checker → Checker → Parameter → List Breach → Bool →
    Option Ty → Option ℕ → Type 0
SettlesParameter old new p breaches is_bare_void t ty =
    (env : Env) → IsIn old env →
    IsParameterSettled old new env (mark (out-Parameter p).spot (out-Parameter p).ordinal)
    (out-Parameter p).declarator breaches is_bare_void t ty
