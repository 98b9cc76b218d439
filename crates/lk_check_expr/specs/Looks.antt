-- What the code keeps of how an expression is written, in the words of the rules.
use Rattle.std.specs.Prelude.{List, ℕ, ◌≡◌, ◌&&◌, ◌||◌, Bool, true, false, not, Option, Some}
use Rattle.lk_tree.specs.declared.operators.BinaryOperator.{BinaryOperator}
use Rattle.lk_tree.specs.declared.operators.PrefixOperator.{PrefixOperator}
use Rattle.lk_tree.specs.declared.operators.BinaryOperator.TheVariants as binary
use Rattle.lk_tree.specs.declared.operators.PrefixOperator.TheVariants as prefix
use Rattle.lk_typed.specs.Calls.{is_format, library_called, names_routine}
use Rattle.lk_typed.specs.Env.{Env, Declared}
use Rattle.lk_typed.specs.ExprRules.{is_product_by, routine_behind}
use Rattle.lk_typed.specs.Ty.{holds_of}
use Rattle.lk_typed.specs.Typing as typing
use Rattle.lk_typed.specs.Typing.{Judged, plain_look}
use Rattle.lk_check_expr.specs.Functions.{row_of}
use Rattle.lk_check_expr.specs.declared.looks.Look.{Look}

-- all that a call asks of how its parts are written
pub record IsLook (env : Env) (look : Look) (x : typing.Look) : Type 0 where
  pub called : library_called x.word ≡ row_of look.called
  pub routine : names_routine env x.routine ≡ look.is_routine
  pub format : holds_of x.text is_format ≡ look.is_format
  pub is_sizeof : x.is_sizeof ≡ look.is_sizeof
  pub is_product : x.is_product ≡ look.is_product
  pub holds_sizeof : x.holds_sizeof ≡ look.holds_sizeof

abbrev pub product_of : Look → Look → Bool
product_of a b = a.is_sizeof && not b.holds_sizeof || b.is_sizeof && not a.holds_sizeof

abbrev pub is_address : PrefixOperator → Bool
is_address prefix.Address = true
is_address prefix.Indirection = false
is_address prefix.Plus = false
is_address prefix.Minus = false
is_address prefix.Complement = false
is_address prefix.Not = false

abbrev pub is_multiply : BinaryOperator → Bool
is_multiply binary.Multiply = true
is_multiply binary.Or = false
is_multiply binary.And = false
is_multiply binary.BitOr = false
is_multiply binary.BitXor = false
is_multiply binary.BitAnd = false
is_multiply binary.Equal = false
is_multiply binary.NotEqual = false
is_multiply binary.Less = false
is_multiply binary.Greater = false
is_multiply binary.LessEqual = false
is_multiply binary.GreaterEqual = false
is_multiply binary.ShiftLeft = false
is_multiply binary.ShiftRight = false
is_multiply binary.Add = false
is_multiply binary.Subtract = false
is_multiply binary.Divide = false
is_multiply binary.Remainder = false

-- ---- the looks of `look_of` of lk_typed, one for each form that isn't plain

abbrev pub word_look : Option Declared → typing.Look
word_look found = record (plain_look false) { word = found; routine = found }

abbrev pub text_look : List ℕ → typing.Look
text_look bytes = record (plain_look false) { text = Some bytes }

abbrev pub paren_look : typing.Look → typing.Look
paren_look x = record (plain_look x.holds_sizeof) { word = x.word; routine = x.routine }

abbrev pub prefix_look : PrefixOperator → typing.Look → typing.Look
prefix_look op x = record (plain_look x.holds_sizeof) { routine = routine_behind op x.routine }

abbrev pub binary_look : BinaryOperator → Judged → Judged → typing.Look
binary_look op a b =
    record (plain_look (a.look.holds_sizeof || b.look.holds_sizeof)) { is_product = is_product_by op a b }
