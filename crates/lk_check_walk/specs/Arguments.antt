-- What the walk over the arguments of a call leaves behind and finds (C99 6.5.2.2).
use Rattle.std.specs.Prelude.{◌≡◌, Bool, List}
use Rattle.lk_tree.specs.declared.expression.Expr.{Expr}
use Rattle.lk_typed.specs.Env.{Env}
use Rattle.lk_typed.specs.Typing.{Judged}
use Rattle.lk_found.specs.Findings.{IsFound}
use Rattle.lk_found.specs.declared.arguments.Given.{Given}
use Rattle.lk_found.specs.declared.found.Found.{Found}
use Rattle.lk_found.specs.Arguments.{IsGiven, arguments_placed, found_of, added_by, nodes_of}
use Rattle.lk_checker.specs.States.{IsIn}
use Rattle.lk_checker.specs.declared.checker.Checker.{Checker}
use Rattle.lk_check_walk.specs.Walks.{Walks}

pub record AreArgumentsJudged (at_end : Env) (old new : Checker) (env : Env) (f : Judged) (es : List Expr)
    (result : Given) : Type 0 where
  pub walks : Walks at_end old new env (added_by (found_of (arguments_placed env f es)))
      (nodes_of (arguments_placed env f es))
  pub given : IsGiven new.types env result (found_of (arguments_placed env f es))

abbrev pub JudgesArguments : Checker → Checker → Bool → Found → List Expr → Given → Type 0
JudgesArguments old new in_size f es given =
    (at_end env : Env) (x : Judged) → IsIn old env → in_size ≡ env.in_size → IsFound old.types env f x →
    AreArgumentsJudged at_end old new env x es given
