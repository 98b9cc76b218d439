-- What is found of an expression whose value is converted to a type.
use Rattle.std.specs.Prelude.{ℕ, ◌≡◌, List, map, Option, Some, None, [], ◌∷◌, option_map}
use Rattle.lk_tree.specs.declared.expression.Expr.{Expr}
use Rattle.lk_types.specs.Table.{Table}
use Rattle.lk_typed.specs.Addresses.{value}
use Rattle.lk_typed.specs.Conversions.{conversion_codes}
use Rattle.lk_typed.specs.Faults.{Breach, breach}
use Rattle.lk_typed.specs.StatementRules.{Converted, return_rules}
use Rattle.lk_typed.specs.Typing.{Typing}
use Rattle.lk_typed.specs.Typings.{IsTyping}
use Rattle.lk_typed.specs.declared.typed.Typed.{Typed}
use Rattle.lk_base.specs.declared.code.Code.{Code}
use Rattle.lk_check_decl.specs.Breaches.{told}
use Rattle.lk_typed.specs.Env.{Env, Role, AsOperand, ConvertedTo}
use Rattle.lk_typed.specs.Expressions.{expr_adds, expression}
use Rattle.lk_typed.specs.Meaning.{meaning}
use Rattle.lk_typed.specs.Nodes.{AnExpression, at}
use Rattle.lk_typed.specs.Parts.{to_result}
use Rattle.lk_typed.specs.Ty.{Ty}
use Rattle.lk_found.specs.Findings.{IsFoundTyping}
use Rattle.lk_found.specs.declared.found.Found.{Found}
use Rattle.lk_checker.specs.declared.checker.Checker.{Checker}
use Rattle.lk_check_walk.specs.Walks.{Walks}
use Rattle.lk_check_unit.specs.Bodies.{IsPlain}

abbrev pub role_of : Option Ty → Role
role_of None = AsOperand
role_of (Some t) = ConvertedTo t

abbrev pub WalksConverted : Expr → Option ℕ → Checker → Checker → Type 0
WalksConverted e target old new = (at_end env : Env) → IsPlain old env →
    Walks at_end old new env (expr_adds e env)
    (at (to_result env (option_map (meaning old.types) target)) (AnExpression e) ∷ [])

abbrev pub IsConvertedFound : Expr → Option ℕ → Checker → Table → Found → Type 0
IsConvertedFound e target old table found =
    (env : Env) → IsPlain old env →
    IsFoundTyping table found (expression e (to_result env (option_map (meaning old.types) target))).typing

-- the codes of the conversion of a value, and of what is turned into one, to a type that is known
abbrev pub conversion_rules : Option Ty → Typing → List Breach
conversion_rules None x = []
conversion_rules (Some t) x = map breach (conversion_codes t x)

abbrev pub given_rules : Option Ty → Typing → List Breach
given_rules target x = conversion_rules target (value x)

-- the code of a return whose value has this typing
abbrev pub IsReturnCode : Table → Option ℕ → Option Typed → Option Code → Type 0
IsReturnCode table returned None code = code ≡ None
IsReturnCode table returned (Some typing) code = (x : Typing) → IsTyping table typing x →
    code ≡ told (return_rules (option_map (meaning table) returned) (Converted (given_rules (option_map (meaning table) returned) x)))
