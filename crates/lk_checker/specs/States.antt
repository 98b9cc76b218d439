-- The state of the checker in the words of the rules, and what is left behind where a code is kept
-- or an expression is settled.
use Rattle.std.specs.Prelude.{ℕ, ◌≡◌, Bool, true, Option, Some, None, List, option_map, map}
use Rattle.std.specs.HashSet.{contains_by}
use Rattle.lk_types.specs.Building.{IsLonger}
use Rattle.lk_tree.specs.declared.expression.Expr.{Expr}
use Rattle.lk_names.specs.InScope.{env_in, IsKnownScope}
use Rattle.lk_typed.specs.Elements.{HasFewElements}
use Rattle.lk_typed.specs.Env.{Env, is_name, is_one_of}
use Rattle.lk_typed.specs.ExprRules.{rule}
use Rattle.lk_typed.specs.Expressions.{breach_at, written}
use Rattle.lk_typed.specs.Faults.{Breach, Fault}
use Rattle.lk_typed.specs.Meaning.{IsReady}
use Rattle.lk_typed.specs.Names.{role_in}
use Rattle.lk_typed.specs.NodeRules.{mark}
use Rattle.lk_typed.specs.Typing.{codes_of}
use Rattle.lk_rules.specs.FirstFaults.{comes_before}
use Rattle.lk_rules.specs.Keeping.{Kept, KeepsCodes, keep}
use Rattle.lk_found.specs.Structs.{AreListed}
use Rattle.lk_found.specs.Recorded.{Recorded}
use Rattle.lk_found.specs.declared.found.At.{At}
use Rattle.lk_found.specs.declared.found.Found.{Found}
use Rattle.lk_found.specs.declared.found.Stands.{Stands}
use Rattle.lk_found.specs.Findings.{mark_at, IsFound, JudgedForm, judged_of}
use Rattle.lk_typed.specs.declared.role.Role.TheVariants.{Operand}
use Rattle.lk_checker.specs.declared.checker.Checker.{Checker}
use Rattle.lk_checker.specs.declared.checker.FaultFound.{FaultFound}

-- ---- the state in the words of the rules

abbrev pub fault_of : FaultFound → Fault
fault_of f =
    record { spot = f.at.spot; ordinal = f.at.ordinal; breach = record { code = f.code; name = f.name } }

abbrev pub kept_in : Checker → Kept
kept_in checker = record { least = option_map fault_of checker.least; is_broken = checker.is_broken }

-- what is recorded
abbrev pub recorded_in : Checker → Recorded
recorded_in checker = checker.records

-- whether it comes before the least so far
abbrev pub first_of : Option FaultFound → Fault → Bool
first_of None f = true
first_of (Some least) f = comes_before f (fault_of least)

-- a code that holds at a node is kept, where there is one, and all else is as it was
pub record Tells (old new : Checker) (at : At) (broken : Option Breach) : Type 0 where
  pub kept : kept_in new ≡ keep (kept_in old) (mark_at at) broken
  pub types : new.types ≡ old.types
  pub names : new.names ≡ old.names
  pub outside : new.outside ≡ old.outside
  pub records : recorded_in new ≡ recorded_in old

-- what each walk function needs and keeps
pub record IsSound (checker : Checker) : Type 0 where
  pub ready : IsReady checker.types
  pub few : HasFewElements checker.types
  pub scope : IsKnownScope checker.types checker.names
  pub structs : AreListed checker.types checker.names.structs

-- an environment in which a node is walked in this state
pub record IsIn (checker : Checker) (env : Env) : Type 0 where
  pub scope : env_in checker.types env checker.names ≡ env
  pub defined : (name : List ℕ) →
      is_one_of env.outside.defined name ≡ contains_by (is_name name) checker.outside.defined
  pub externs : (name : List ℕ) →
      is_one_of env.outside.externs name ≡ contains_by (is_name name) checker.outside.externs

-- and an expression that stands so
pub record StandsIn (checker : Checker) (stands : Stands) (env : Env) : Type 0 where
  pub is_in : IsIn checker env
  pub role : role_in checker.types stands.role ≡ env.role
  pub in_size : stands.in_size ≡ env.in_size

-- an operand, or a value that nothing converts
abbrev pub operand_in : Bool → Stands
operand_in in_size = record { role = Operand; in_size = in_size }

-- its own codes are kept, all else is as it was, and it is found
pub record Settles (old new : Checker) (e : Expr) (env behind : Env) (form : JudgedForm)
    (result : Found) : Type 0 where
  pub keeps : KeepsCodes (kept_in old) (mark e.spot e.ordinal)
      (map (breach_at (written e)) (codes_of (rule behind e.ordinal form))) (kept_in new)
  pub types : IsLonger old.types new.types
  pub sound : IsSound new
  pub names : new.names ≡ old.names
  pub outside : new.outside ≡ old.outside
  pub records : recorded_in new ≡ recorded_in old
  pub found : IsFound new.types env result (judged_of env behind e.ordinal form)
