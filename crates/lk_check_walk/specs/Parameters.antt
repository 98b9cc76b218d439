-- What the walk over parameters finds and leaves behind (C99 6.7.5.3).
use Rattle.std.specs.Prelude.{◌≡◌, Bool, List, [], ◌∷◌, All, IfSome, length, option_map}
use Rattle.lk_tree.specs.declared.expression.Parameter.{Parameter}
use Rattle.lk_types.specs.Building.{IsPassed}
use Rattle.lk_typed.specs.Env.{Env, enter, past_scope}
use Rattle.lk_typed.specs.Expressions.{parameter_found}
use Rattle.lk_typed.specs.Layers.{each_parameter, parameters_of}
use Rattle.lk_typed.specs.Meaning.{meaning}
use Rattle.lk_typed.specs.Nodes.{AParameter, at}
use Rattle.lk_typed.specs.Parts.{is_lone, parameters_in_turn, tellers}
use Rattle.lk_names.specs.Growing.{IsKnownLeft, scope_added}
use Rattle.lk_found.specs.Shapes.{params_in}
use Rattle.lk_found.specs.declared.parameters.Listed.{Listed}
use Rattle.lk_found.specs.declared.parameters.ParameterFound.{ParameterFound}
use Rattle.lk_found.specs.declared.parameters.ParametersFound.{ParametersFound}
use Rattle.lk_found.specs.Parameters.{types_listed, has_void}
use Rattle.lk_checker.specs.States.{operand_in, StandsIn}
use Rattle.lk_checker.specs.declared.checker.Checker.{Checker}
use Rattle.lk_check_walk.specs.Walks.{Walks}

-- ---- a list of parameters, in a scope of its own

pub record AreParametersFound (at_end : Env) (old new : Checker) (env : Env) (ps : List Parameter)
    (dots : Bool) (found : ParametersFound) : Type 0 where
  pub walks : Walks at_end old new env (past_scope (parameters_of (tellers ps) dots (enter env)).additions)
      (parameters_in_turn (is_lone ps dots) (enter env) ps)
  pub types : params_in new.types found.types ≡ (parameters_of (tellers ps) dots (enter env)).types
  pub holds_sizeof : found.holds_sizeof ≡ (parameters_of (tellers ps) dots (enter env)).holds_sizeof
  pub scope : scope_added new.types found.scope
      ≡ record (parameters_of (tellers ps) dots (enter env)).additions { structs = [] }

abbrev pub FindsParameters : Checker → Checker → Bool → List Parameter → Bool → ParametersFound → Type 0
FindsParameters old new in_size ps dots found = (at_end env : Env) → StandsIn old (operand_in in_size) env →
    AreParametersFound at_end old new env ps dots found

-- their types may be passed, and the types and structs in their scope are known
pub record AreKnownParameters (new : Checker) (found : ParametersFound) : Type 0 where
  pub types : IfSome found.types (All (IsPassed new.types))
  pub scope : IsKnownLeft new.types (length new.names.structs) found.scope

pub record AreListed (at_end : Env) (old new : Checker) (env : Env) (lone : Bool) (ps : List Parameter)
    (listed : Listed) : Type 0 where
  pub walks : Walks at_end old new env (each_parameter (tellers ps) env).additions
      (parameters_in_turn lone env ps)
  pub types : params_in new.types (types_listed listed) ≡ (each_parameter (tellers ps) env).types
  pub void : listed.has_void ≡ has_void (tellers ps) env
  pub holds_sizeof : listed.holds_sizeof ≡ (each_parameter (tellers ps) env).holds_sizeof

abbrev pub ListsParameters : Checker → Checker → Bool → Bool → List Parameter → Listed → Type 0
ListsParameters old new in_size lone ps listed = (at_end env : Env) → StandsIn old (operand_in in_size) env →
    AreListed at_end old new env lone ps listed

-- ---- one parameter

pub record IsParameterFound (at_end : Env) (old new : Checker) (env : Env) (lone : Bool) (p : Parameter)
    (found : ParameterFound) : Type 0 where
  pub walks : Walks at_end old new env (parameter_found p env).additions (at env (AParameter lone p) ∷ [])
  pub type : option_map (meaning new.types) found.ty ≡ (parameter_found p env).type
  pub is_bare_void : found.is_bare_void ≡ (parameter_found p env).is_bare_void
  pub holds_sizeof : found.holds_sizeof ≡ (parameter_found p env).holds_sizeof

abbrev pub FindsParameter : Checker → Checker → Bool → Bool → Parameter → ParameterFound → Type 0
FindsParameter old new in_size lone p found = (at_end env : Env) → StandsIn old (operand_in in_size) env →
    IsParameterFound at_end old new env lone p found
