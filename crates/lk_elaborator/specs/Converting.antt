-- What the nodes are that are made of the node of an expression: its value, and that
-- converted to a type (C99 6.3).
use Rattle.std.specs.Prelude.{ℕ, ℤ, ◌≡◌, ◌&&◌, Bool, true, false}
use Rattle.lk_types.specs.Table.{Table}
use Rattle.lk_typed.specs.Elaborated.{InPlace, IsConverted, IsOperand, IsTyped, IsValue, Makes}
use Rattle.lk_typed.specs.Env as env
use Rattle.lk_typed.specs.Meaning.{meaning_of, IsReady}
use Rattle.lk_typed.specs.Tables.{Tables}
use Rattle.lk_typed.specs.Ty.{Ty}
use Rattle.lk_typed.specs.declared.expression.Callee.TheOpen.{TypedForm-F}
use Rattle.lk_typed.specs.declared.expression.TypedExpr.{TypedExpr}
use Rattle.lk_typed.specs.declared.role.Role.{Role}
use Rattle.lk_typed.specs.declared.typed.ExprType.{ExprType}
use Rattle.lk_elaborator.specs.Known.{OfEach}
use Rattle.lk_elaborator.specs.Leading.{Leads}
use Rattle.lk_elaborator.specs.Standing.{IsConversion, IsPart, IsValuedBy, PartStandsAs, StandsAs}
use Rattle.lk_elaborator.specs.Telling.{IsTrueOf}
use Rattle.lk_elaborator.specs.declared.elaborator.Elaborator.{Elaborator}
use Rattle.lk_elaborator.specs.declared.parts.Part.{Part}
use Rattle.lk_elaborator.specs.declared.values.Conversion.{Conversion}
use Rattle.lk_elaborator.specs.declared.values.Converting.{Converting}
use Rattle.lk_elaborator.specs.declared.values.Converting.TheVariants as how
use Rattle.lk_elaborator.specs.declared.values.Valued.{Valued}
use Rattle.lk_elaborator.specs.declared.values.Valued.TheVariants as valued

-- how the value is had of what is no array, by whether it is a place of scalar type
abbrev pub valued_as : Bool → Valued
valued_as true = valued.Read
valued_as false = valued.Itself

-- how it is converted, by whether it has the type, and whether it is a null pointer constant
-- that is converted to a pointer
abbrev pub converting : Bool → Bool → Converting
converting true is_null = how.Alike
converting false true = how.Null
converting false false = how.Written

-- what a node is of an expression
abbrev pub NodeSays : Type 1
NodeSays = Tables → Bool → InPlace → TypedExpr → Type 0

abbrev pub ConvertedTo : Ty → NodeSays
ConvertedTo target tables folded p t = IsConverted tables folded p target t

-- the operand of an operator, where `moving` says whether a pointer moves by it in an address constant
abbrev pub OperandOf : Bool → Ty → NodeSays
OperandOf moving target tables folded p t = (moves : Bool) → (folded && moves) ≡ moving →
    IsOperand tables folded moves p target t

-- each node that is had so is the value
abbrev pub GivesValue : Elaborator → Elaborator → ℕ → Valued → Type 0
GivesValue old new n valued =
    OfEach old n (λ p. (tables : Tables) → Leads new tables → (folded : Bool) (a t : TypedExpr) →
    IsTyped tables folded p a → IsValuedBy valued a t → IsValue tables folded p t)

-- each node that is made so is that
abbrev pub GivesConversion : Elaborator → Elaborator → ℕ → Conversion → Ty → Type 0
GivesConversion old new n made target =
    OfEach old n (λ p. (tables : Tables) → Leads new tables → (folded : Bool) (t : TypedExpr) →
    IsConversion tables folded p made t → IsConverted tables folded p target t)

-- each node that is made so is the value itself, or its conversion to the type
abbrev pub GivesUnconverted : Elaborator → Elaborator → ℕ → Conversion → Type 0
GivesUnconverted old new n made =
    OfEach old n (λ p. (tables : Tables) → Leads new tables → (folded : Bool) (t : TypedExpr) →
    IsConversion tables folded p made t → IsValue tables folded p t)

pub record IsWritten (tables : Tables) (folded : Bool) (p : InPlace) (target : Ty)
    (t : TypedExpr) : Type 0 where
  pub value : TypedExpr
  pub is : IsValue tables folded p value
  pub makes : Makes tables p target (TypedForm-F.Convert value) t

abbrev pub GivesWritten : Elaborator → Elaborator → ℕ → Conversion → Ty → Type 0
GivesWritten old new n made target =
    OfEach old n (λ p. (tables : Tables) → Leads new tables → (folded : Bool) (t : TypedExpr) →
    IsConversion tables folded p made t → IsWritten tables folded p target t)

abbrev pub Gives : Elaborator → Elaborator → ℕ → Part → NodeSays → Type 0
Gives old new n part Says =
    OfEach old n (λ p. (tables : Tables) → Leads new tables → (folded : Bool) (t : TypedExpr) →
    IsPart tables folded p part t → Says tables folded p t)

-- what stands for an operand stands as that does
abbrev pub KeepsRole : Role → Part → Type 0
KeepsRole stands part = (table : Table) (r : env.Role) → StandsAs table stands r → PartStandsAs table part r

-- however the operand stands
abbrev pub StandsAnyhow : Part → Type 0
StandsAnyhow part = (table : Table) (r : env.Role) → PartStandsAs table part r

-- and its operand is converted directly to a type: by an assignment, an argument, a result or an initialiser
abbrev pub IsGivenAs : Elaborator → Elaborator → ExprType → Part → Type 0
IsGivenAs old new target part =
    (r : env.Role) → IsReady old.types → r ≡ env.ConvertedTo (meaning_of old.types target) →
    PartStandsAs new.types part r

-- each node that is made so is this number, wherever it stands
abbrev pub GivesNumber : Elaborator → Elaborator → Part → ℤ → Ty → Type 0
GivesNumber old new part z target =
    (p : InPlace) → IsTrueOf old p → (tables : Tables) → Leads new tables → (folded : Bool) (t : TypedExpr) →
    IsPart tables folded p part t →
    Makes tables p target (TypedForm-F.Number z) t
