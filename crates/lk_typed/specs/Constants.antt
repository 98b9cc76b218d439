-- Integer constant expressions: what the operators make of constants (C99 6.6). An operand
-- that is no constant makes the whole none, evaluated or not; arithmetic that isn't evaluated
-- may be undefined (6.6, 3 and 4).
use Rattle.std.specs.Prelude.{Bool, not, Ok, Err, ℤ, if◌then◌else◌}
use Rattle.std.specs.Bool.{beq}
use Rattle.lk_base.specs.declared.kind.Kind.{Kind}
use Rattle.lk_arith.specs.declared.operators.Op.{Op}
use Rattle.lk_arith.specs.declared.operators.UnaryOp.{UnaryOp}
use Rattle.lk_arith.specs.Conversions.{convert, truth, is_zero}
use Rattle.lk_arith.specs.Operators.{Outcome, outcome, unary_outcome}
use Rattle.lk_typed.specs.declared.constant.Constant.{Constant}
use Rattle.lk_typed.specs.declared.constant.Constant.TheVariants.{NotConstant, Undefined, Known}

-- what is done to a constant
abbrev pub on_value : Constant → (ℤ → Constant) → Constant
on_value NotConstant next = NotConstant
on_value Undefined next = Undefined
on_value (Known a) next = next a

-- the second of two constants, where the first isn't asked any more
abbrev pub beside : Constant → Constant → Constant
beside NotConstant b = NotConstant
beside Undefined b = b
beside (Known a) b = b

-- two constants, both evaluated
abbrev pub on_both : Constant → Constant → (ℤ → ℤ → Constant) → Constant
on_both NotConstant b next = NotConstant
on_both Undefined b next = beside b Undefined
on_both (Known a) b next = on_value b (λ n. next a n)

abbrev pub computed : Outcome → Constant
computed (Ok a) = Known a
computed (Err cause) = Undefined

-- an operator at a kind, to which both operands are converted (C99 6.3.1.8)
abbrev pub binary_constant : Op → Kind → Constant → Constant → Constant
binary_constant op k a b = on_both a b (λ x y. computed (outcome op k (convert k x) (convert k y)))

-- a shift at the kind of its first operand; the second keeps its value (C99 6.5.7, 3)
abbrev pub shift_constant : Op → Kind → Constant → Constant → Constant
shift_constant op k a b = on_both a b (λ x y. computed (outcome op k (convert k x) y))

abbrev pub unary_constant : UnaryOp → Kind → Constant → Constant
unary_constant op k a = on_value a (λ x. computed (unary_outcome op k (convert k x)))

-- the second operand of && or || as a truth value
abbrev pub truth_of : Constant → Constant
truth_of a = on_value a (λ x. Known (truth (not (is_zero x))))

-- && or ||: where the first operand has the truth value that decides (false of &&, true of ||), the second
-- isn't evaluated (C99 6.5.13, 4; 6.5.14, 4)
abbrev pub decided_by : Bool → Bool → Constant → Constant
decided_by decides first b = if beq decides first then beside b (Known (truth decides)) else truth_of b

abbrev pub logical_constant : Bool → Constant → Constant → Constant
logical_constant decides NotConstant b = NotConstant
logical_constant decides Undefined b = beside b Undefined
logical_constant decides (Known x) b = decided_by decides (not (is_zero x)) b

-- ?: at the kind of both arms, one of which is evaluated (C99 6.5.15, 4 and 5)
abbrev pub chosen : Bool → Constant → Constant → Constant
chosen first a b = if first then beside b a else beside a b

abbrev pub choice_constant : Kind → Constant → Constant → Constant → Constant
choice_constant k NotConstant a b = NotConstant
choice_constant k Undefined a b = beside a (beside b Undefined)
choice_constant k (Known x) a b = on_value (chosen (not (is_zero x)) a b) (λ y. Known (convert k y))
