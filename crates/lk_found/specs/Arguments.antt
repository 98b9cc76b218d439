-- The arguments of a call: what each stands as, and what was found of them (C99 6.5.2.2).
use Rattle.std.specs.Prelude.{◌≡◌, Bool, true, false, All, Option, Some, None, List, [], map}
use Rattle.lk_types.specs.Table.{Table}
use Rattle.lk_tree.specs.declared.expression.Expr.{Expr}
use Rattle.lk_typed.specs.Calls as spec
use Rattle.lk_typed.specs.Env.{Additions, Env, as_operand}
use Rattle.lk_typed.specs.ExprRules.{adds_of_expr, all_additions, any_holds_sizeof, arguments_of}
use Rattle.lk_typed.specs.Expressions.{at_pair, expression}
use Rattle.lk_typed.specs.Forms.{as_passed, found_at, in_place, passes_of, placed_arguments}
use Rattle.lk_typed.specs.Forms as forms
use Rattle.lk_typed.specs.Library.{Passing}
use Rattle.lk_typed.specs.Names.{role_in}
use Rattle.lk_typed.specs.Nodes.{AnExpression, Placed}
use Rattle.lk_typed.specs.Typing.{Judged}
use Rattle.lk_typed.specs.Typings.{IsOperand}
use Rattle.lk_typed.specs.declared.role.Role.TheVariants.{Function}
use Rattle.lk_check_expr.specs.Arguments.{AreArguments}
use Rattle.lk_found.specs.declared.arguments.Given.{Given}
use Rattle.lk_found.specs.declared.found.Stands.{Stands}

-- the function of a call
abbrev pub function_in : Bool → Stands
function_in in_size = record { role = Function; in_size = in_size }

-- the environment of an argument that is passed so; None: there is no parameter for it
abbrev pub as_given : Option Passing → Env → Env
as_given None env = as_operand env
as_given (Some pass) env = as_passed pass env

pub record StandsAs (table : Table) (stands : Stands) (env : Env) : Type 0 where
  pub role : role_in table stands.role ≡ env.role
  pub in_size : stands.in_size ≡ env.in_size

-- ---- what was found of arguments

-- the arguments with their typings, where each has one
abbrev pub AreGiven : Table → Env → Given → Option (List spec.Argument) → Type 0
AreGiven table env given None = given.are_typed ≡ false
AreGiven table env given (Some xs) =
    (given.are_typed ≡ true) × AreArguments table env given.arguments.items xs

pub record IsGiven (table : Table) (env : Env) (given : Given) (ys : List Judged) : Type 0 where
  pub arguments : AreGiven table env given (arguments_of ys)
  pub holds_sizeof : given.holds_sizeof ≡ any_holds_sizeof ys

abbrev pub AreOperands : Table → Given → Type 0
AreOperands table given = All (λ a. IsOperand table a.typing) given.arguments.items

-- none
pub record IsNothing (given : Given) : Type 0 where
  pub arguments : given.arguments.items ≡ []
  pub are_typed : given.are_typed ≡ true
  pub holds_sizeof : given.holds_sizeof ≡ false

-- ---- arguments that are walked, each behind those before it

-- in their environments, behind a function of which this was found
abbrev pub arguments_placed : Env → Judged → List Expr → List (forms.Placed Expr)
arguments_placed env f es = placed_arguments expression env (passes_of f f.typing) es

abbrev pub found_of : List (forms.Placed Expr) → List Judged
found_of places = map (found_at expression) places

abbrev pub added_by : List Judged → Additions
added_by ys = all_additions (map adds_of_expr ys)

abbrev pub nodes_of : List (forms.Placed Expr) → List Placed
nodes_of places = map at_pair (map (in_place AnExpression) places)
