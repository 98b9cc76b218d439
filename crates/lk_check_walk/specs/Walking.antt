-- What a walk over an expression, or over parts of one, leaves behind and finds.
use Rattle.std.specs.Prelude.{◌≡◌, Bool, [], ◌∷◌}
use Rattle.lk_tree.specs.declared.expression.Expr.{Expr}
use Rattle.lk_tree.specs.declared.expression.TypeName.{TypeName}
use Rattle.lk_tree.specs.declared.operators.AssignOperator.{AssignOperator}
use Rattle.lk_typed.specs.Assignments.{operator_of}
use Rattle.lk_typed.specs.Env.{Env, as_operand, both, extend, nothing}
use Rattle.lk_typed.specs.Expressions.{expression}
use Rattle.lk_typed.specs.Forms.{as_right}
use Rattle.lk_typed.specs.NodeParts.{parts}
use Rattle.lk_typed.specs.Nodes.{AnExpression, ATypeName, at}
use Rattle.lk_rules.specs.Laws.{name_found}
use Rattle.lk_found.specs.Findings.{IsFound, IsFoundType}
use Rattle.lk_found.specs.declared.found.Found.{Found}
use Rattle.lk_found.specs.declared.found.Stands.{Stands}
use Rattle.lk_found.specs.declared.found.TypeFound.{TypeFound}
use Rattle.lk_checker.specs.States.{IsIn, StandsIn, operand_in}
use Rattle.lk_checker.specs.declared.checker.Checker.{Checker}
use Rattle.lk_check_walk.specs.Walks.{Walks, WalksAndTells}

-- ---- expressions

-- an expression is walked and found
pub record IsJudged (at_end : Env) (old new : Checker) (env : Env) (e : Expr) (result : Found) : Type 0 where
  pub walks : Walks at_end old new env (expression e env).adds (at env (AnExpression e) ∷ [])
  pub found : IsFound new.types env result (expression e env)

-- the same before it is recorded itself: what is recorded of its parts is true
pub record IsFormJudged (at_end : Env) (old new : Checker) (env : Env) (e : Expr)
    (result : Found) : Type 0 where
  pub walks : WalksAndTells at_end old new env (expression e env).adds (at env (AnExpression e) ∷ [])
      (parts at_end env (AnExpression e))
  pub found : IsFound new.types env result (expression e env)

abbrev pub JudgesForm : Checker → Checker → Stands → Expr → Found → Type 0
JudgesForm old new stands e found = (at_end env : Env) → StandsIn old stands env →
    IsFormJudged at_end old new env e found

-- where it stands so
abbrev pub Judges : Checker → Checker → Stands → Expr → Found → Type 0
Judges old new stands e found = (at_end env : Env) → StandsIn old stands env →
    IsJudged at_end old new env e found

-- the environment behind an operand
abbrev pub behind_operand : Expr → Env → Env
behind_operand left env = extend env (expression left (as_operand env)).adds

-- an operand, and behind it an expression in this environment
pub record AreJudged (at_end : Env) (old new : Checker) (env inner : Env) (left right : Expr)
    (a b : Found) : Type 0 where
  pub walks : Walks at_end old new env
      (both (expression left (as_operand env)).adds (both (expression right inner).adds nothing))
      (at (as_operand env) (AnExpression left) ∷ at inner (AnExpression right) ∷ [])
  pub first : IsFound new.types env a (expression left (as_operand env))
  pub second : IsFound new.types env b (expression right inner)

-- two operands, the second behind the first
abbrev pub JudgesTwo : Checker → Checker → Bool → Expr → Expr → Found → Found → Type 0
JudgesTwo old new in_size left right a b =
    (at_end env : Env) → IsIn old env → in_size ≡ env.in_size →
    AreJudged at_end old new env (as_operand (behind_operand left env)) left right a b

-- the environment of the right side of an assignment
abbrev pub behind_left : AssignOperator → Expr → Env → Env
behind_left op left env =
    as_right (operator_of op) (expression left (as_operand env)).typing (behind_operand left env)

-- the sides of an assignment
abbrev pub JudgesSides : Checker → Checker → AssignOperator → Bool → Expr → Expr → Found → Found → Type 0
JudgesSides old new op in_size left right a b =
    (at_end env : Env) → IsIn old env → in_size ≡ env.in_size →
    AreJudged at_end old new env (behind_left op left env) left right a b

-- ---- type names

-- a type name is walked and found
pub record IsTypeNamed (at_end : Env) (old new : Checker) (env : Env) (n : TypeName)
    (result : TypeFound) : Type 0 where
  pub walks : Walks at_end old new env (name_found n env).adds (at env (ATypeName n) ∷ [])
  pub found : IsFoundType new.types result (name_found n env)

abbrev pub NamesType : Checker → Checker → Bool → TypeName → TypeFound → Type 0
NamesType old new in_size n result = (at_end env : Env) → StandsIn old (operand_in in_size) env →
    IsTypeNamed at_end old new env n result
