-- What is decided of an expression of a form by the numbers of its operands, where what was
-- found of these and of it is true.
use Rattle.std.specs.Prelude.{ℕ, ◌≡◌, Bool, true, false, Some}
use Rattle.lk_tree.specs.declared.expression.DeclaratorForm.TheOpen.{ExprForm-F}
use Rattle.lk_tree.specs.declared.operators.StepOperator.{StepOperator}
use Rattle.lk_types.specs.Table.{Table}
use Rattle.lk_typed.specs.Addresses.{value}
use Rattle.lk_typed.specs.Elaborated.{InPlace, PlacedForm, IsValue, typing_at}
use Rattle.lk_typed.specs.Operands.{moves_by_right, operand_types}
use Rattle.lk_typed.specs.Tables.{Tables}
use Rattle.lk_typed.specs.Typing.{Typing}
use Rattle.lk_typed.specs.declared.binary_row.BinaryRow.{BinaryRow}
use Rattle.lk_typed.specs.declared.binary_row.BinaryRow.TheVariants.{Logical, Integers, Shift, Sum, Difference, Order, Equality}
use Rattle.lk_typed.specs.declared.expression.Change.{Change}
use Rattle.lk_typed.specs.declared.expression.Change.TheVariants.{After, Before}
use Rattle.lk_typed.specs.declared.expression.TypedExpr.{TypedExpr}
use Rattle.lk_elaborator.specs.Converting.{StandsAnyhow}
use Rattle.lk_elaborator.specs.Known.{OfEach}
use Rattle.lk_elaborator.specs.Leading.{Leads}
use Rattle.lk_elaborator.specs.Standing.{IsOne, IsPart, IsThree, IsTwo}
use Rattle.lk_elaborator.specs.Telling.{IsTrueOf}
use Rattle.lk_elaborator.specs.declared.elaborator.Elaborator.{Elaborator}
use Rattle.lk_elaborator.specs.declared.forms.One.{One}
use Rattle.lk_elaborator.specs.declared.forms.Three.{Three}
use Rattle.lk_elaborator.specs.declared.forms.Two.{Two}
use Rattle.lk_elaborator.specs.declared.forms.TwoForm.{TwoForm}
use Rattle.lk_elaborator.specs.declared.forms.TwoForm.TheVariants as of_two
use Rattle.lk_elab_expr.specs.OperandTypes.{types_in}
use Rattle.lk_elab_expr.specs.declared.operators.Operands.{Operands}

-- of each expression of the form with an operand that has this number
abbrev pub DecidesOne : Elaborator → Elaborator → ℕ → (InPlace → InPlace → Type 0) → One → Type 0
DecidesOne old new n HasForm one =
    (p i : InPlace) → HasForm p i → i.1.ordinal ≡ n → IsTrueOf old p → IsTrueOf old i → (tables : Tables) →
    Leads new tables → (folded : Bool) →
    IsOne new.types tables folded p i one

-- with two operands that have these numbers
abbrev pub DecidesTwo : Elaborator → Elaborator → ℕ → ℕ → Bool →
    (InPlace → InPlace → InPlace → Type 0) → Two → Type 0
DecidesTwo old new n m folded HasForm two =
    (p l r : InPlace) → HasForm p l r → l.1.ordinal ≡ n → r.1.ordinal ≡ m → IsTrueOf old p →
    IsTrueOf old l → IsTrueOf old r →
    (tables : Tables) → Leads new tables → IsTwo new.types tables folded p l r two

-- the operands of `?:`
abbrev pub DecidesThree : Elaborator → Elaborator → (p c l r : InPlace) → Three → Type 0
DecidesThree old new p c l r three =
    IsTrueOf old p → IsTrueOf old c → IsTrueOf old l → IsTrueOf old r → (tables : Tables) →
    Leads new tables → (folded : Bool) →
    IsThree new.types tables folded p c l r three

-- ---- operators between two operands

-- both operands are values
pub record AreValues (old new : Elaborator) (n m : ℕ) (form : TwoForm) (two : Two) : Type 0 where
  pub form_is : two.form ≡ form
  pub left_role : StandsAnyhow two.left
  pub right_role : StandsAnyhow two.right
  pub left : OfEach old n (λ p. (tables : Tables) → Leads new tables → (folded : Bool) (t : TypedExpr) →
      IsPart tables folded p two.left t → IsValue tables folded p t)
  pub right : OfEach old m (λ p. (tables : Tables) → Leads new tables → (folded : Bool) (t : TypedExpr) →
      IsPart tables folded p two.right t → IsValue tables folded p t)

-- && and ||
abbrev pub decided_by : BinaryRow → TwoForm
decided_by (Logical true) = of_two.Or
decided_by (Logical false) = of_two.And
decided_by (Integers o) = of_two.And
decided_by (Shift o) = of_two.And
decided_by Sum = of_two.And
decided_by Difference = of_two.And
decided_by (Order o) = of_two.And
decided_by (Equality o) = of_two.And

-- how two operands are converted
pub record AreOperandsOf (table : Table) (row : BinaryRow) (l r : InPlace)
    (operands : Operands) : Type 0 where
  pub left : Typing
  pub right : Typing
  pub left_found : typing_at l ≡ Some left
  pub right_found : typing_at r ≡ Some right
  pub types : types_in table operands.types ≡ operand_types row (value left) (value right)
  pub moves : operands.moves ≡ moves_by_right row (value left) (value right)

abbrev pub FindsOperands : Elaborator → BinaryRow → ℕ → ℕ → Operands → Type 0
FindsOperands walk row n m operands =
    (l r : InPlace) → l.1.ordinal ≡ n → r.1.ordinal ≡ m → IsTrueOf walk l → IsTrueOf walk r →
    AreOperandsOf walk.types row l r operands

-- ---- ++ and --

abbrev pub step_form : Change → StepOperator → InPlace → PlacedForm
step_form After o i = ExprForm-F.Post o i
step_form Before o i = ExprForm-F.Pre o i
