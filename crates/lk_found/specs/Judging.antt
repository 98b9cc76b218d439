-- What is said of an expression by the rule of its form, from what was found of its parts.
use Rattle.std.specs.Prelude.{◌≡◌, Option, Some, None, IfSome, ⊤}
use Rattle.lk_base.specs.declared.code.Code.{Code}
use Rattle.lk_types.specs.Table.{Table, IsKnown}
use Rattle.lk_tree.specs.declared.expression.Expr.{Expr}
use Rattle.lk_typed.specs.Expressions.{breach_at, written}
use Rattle.lk_typed.specs.Faults.{breach}
use Rattle.lk_typed.specs.Typing as spec
use Rattle.lk_typed.specs.Typing.{Typing}
use Rattle.lk_typed.specs.Typings.{IsOperand, IsTyping, IsVerdict}
use Rattle.lk_typed.specs.declared.typed.Typed.{Typed}
use Rattle.lk_typed.specs.declared.verdict.Verdict.{Verdict}
use Rattle.lk_typed.specs.declared.verdict.Verdict.TheVariants as verdict
use Rattle.lk_found.specs.Addresses.{kept_of}
use Rattle.lk_found.specs.declared.addresses.Address.{Address}
use Rattle.lk_found.specs.declared.found.Found.{Found}
use Rattle.lk_found.specs.declared.found.TypeFound.{TypeFound}
use Rattle.lk_found.specs.declared.ruled.Ruled.{Ruled}

-- what was found of a part, where it has a type
pub record IsPart (table : Table) (t : Typed) (at : Address) (x : Typing) : Type 0 where
  pub typing : IsTyping table t x
  pub address : at ≡ kept_of x.address

abbrev pub HasOperand : Table → Found → Type 0
HasOperand table found = IfSome found.typing (IsOperand table)

abbrev pub HasKnownType : Table → TypeFound → Type 0
HasKnownType table found = IfSome found.ty (IsKnown table)

-- what is said of the typing that a rule gives, where it gives one
abbrev pub Gives : (Typing → Type 0) → spec.Verdict → Type 0
Gives Says (spec.Typed x) = Says x
Gives Says (spec.Broken codes) = ⊤
Gives Says spec.Silent = ⊤

-- a rule says so, and gives this address
pub record IsRuled (table : Table) (ruled : Ruled) (v : spec.Verdict) : Type 0 where
  pub verdict : IsVerdict table ruled.verdict v
  pub address : Gives (λ x. ruled.address ≡ kept_of x.address) v

-- ---- what a verdict tells

abbrev pub code_in : Verdict → Option Code
code_in (verdict.Typed t) = None
code_in (verdict.Broken code) = Some code
code_in verdict.Silent = None

abbrev pub typed_in : Verdict → Option Typed
typed_in (verdict.Typed t) = Some t
typed_in (verdict.Broken code) = None
typed_in verdict.Silent = None

-- a refusal at an expression tells no name
abbrev pub TellsNoName : Expr → Type 0
TellsNoName e = (code : Code) → breach_at (written e) code ≡ breach code
