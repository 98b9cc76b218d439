-- The rule of each form of expression, over what was found of its parts; and what is found of an
-- expression itself. The two equations that tie the knot, of an expression and of a type name, belong to
-- the fold over the whole tree.
use Rattle.std.specs.Prelude.{ℕ, Bool, true, false, ◌&&◌, ◌||◌, not, Option, Some, None, List, [], ◌∷◌}
use Rattle.lk_base.specs.declared.code.Code.{Code}
use Rattle.lk_tree.specs.declared.expression.DeclaratorForm.TheOpen.{ExprForm-F}
use Rattle.lk_tree.specs.declared.operators.BinaryOperator.{BinaryOperator}
use Rattle.lk_tree.specs.declared.operators.BinaryOperator.TheVariants as binary
use Rattle.lk_tree.specs.declared.operators.PrefixOperator.{PrefixOperator}
use Rattle.lk_tree.specs.declared.operators.PrefixOperator.TheVariants as prefix
use Rattle.lk_typed.specs.Env.{Env, Declared, Additions, nothing, both, extend, look_up}
use Rattle.lk_typed.specs.Typing.{Typing, Look, plain_look, Judged, Named, Verdict, Typed, Silent, typing_of, codes_of, with_one, with_two, with_type}
use Rattle.lk_typed.specs.Addresses.{value}
use Rattle.lk_typed.specs.Operators.{binary_rule, choice_rule, comma_rule}
use Rattle.lk_typed.specs.Places.{prefix_rule, index_rule, dot_rule, arrow_rule, step_rule, sizeof_rule}
use Rattle.lk_typed.specs.Assignments.{assign_rule, cast_rule}
use Rattle.lk_typed.specs.Words.{word_rule, number_rule, char_rule, text_rule}
use Rattle.lk_typed.specs.Calls.{Argument, call_rule}
use Rattle.lk_typed.specs.Forms.{Placed, in_place, found_at, placed, each_part, parts_in}

-- ---- how an expression is written

-- what a product is, of a sizeof and something without one
abbrev pub is_sizeof_product : Judged → Judged → Bool
is_sizeof_product a b =
    a.look.is_sizeof && not b.look.holds_sizeof || b.look.is_sizeof && not a.look.holds_sizeof

abbrev pub is_product_by : BinaryOperator → Judged → Judged → Bool
is_product_by binary.Multiply a b = is_sizeof_product a b
is_product_by binary.Or a b = false
is_product_by binary.And a b = false
is_product_by binary.BitOr a b = false
is_product_by binary.BitXor a b = false
is_product_by binary.BitAnd a b = false
is_product_by binary.Equal a b = false
is_product_by binary.NotEqual a b = false
is_product_by binary.Less a b = false
is_product_by binary.Greater a b = false
is_product_by binary.LessEqual a b = false
is_product_by binary.GreaterEqual a b = false
is_product_by binary.ShiftLeft a b = false
is_product_by binary.ShiftRight a b = false
is_product_by binary.Add a b = false
is_product_by binary.Subtract a b = false
is_product_by binary.Divide a b = false
is_product_by binary.Remainder a b = false

-- & alone leaves the name of a routine
abbrev pub routine_behind : PrefixOperator → Option Declared → Option Declared
routine_behind prefix.Address routine = routine
routine_behind prefix.Indirection routine = None
routine_behind prefix.Plus routine = None
routine_behind prefix.Minus routine = None
routine_behind prefix.Complement routine = None
routine_behind prefix.Not routine = None

abbrev pub any_holds_sizeof : List Judged → Bool
any_holds_sizeof [] = false
any_holds_sizeof (found ∷ others) = found.look.holds_sizeof || any_holds_sizeof others

abbrev pub sizeof_look : Look
sizeof_look = record (plain_look true) { is_sizeof = true }

-- ---- what parts add, and whether all have a typing

abbrev pub adds_of_expr : Judged → Additions
adds_of_expr found = found.adds

abbrev pub adds_of_name : Named → Additions
adds_of_name found = found.adds

abbrev pub all_additions : List Additions → Additions
all_additions [] = nothing
all_additions (a ∷ others) = both a (all_additions others)

-- the arguments of a call, where all have a typing
abbrev pub one_more : Judged → Option Typing → Option (List Argument) → Option (List Argument)
one_more found None others = None
one_more found (Some typing) None = None
one_more found (Some typing) (Some others) = Some (record { typing = typing; look = found.look } ∷ others)

abbrev pub arguments_of : List Judged → Option (List Argument)
arguments_of [] = Some []
arguments_of (found ∷ others) = one_more found found.typing (arguments_of others)

abbrev pub with_arguments : Option (List Argument) → (List Argument → Verdict) → Verdict
with_arguments None rule = Silent
with_arguments (Some arguments) rule = rule arguments

module _ {D X M S G I B P : Type 0} where
  abbrev pub additions_of : ExprForm-F D X M S G Judged I B P Named → Additions
  additions_of found = all_additions (parts_in adds_of_expr adds_of_name found)

  -- how a form is written, in the environment of its node
  abbrev pub look_of : Env → ExprForm-F D X M S G Judged I B P Named → Look
  look_of env (ExprForm-F.Comma left right) = plain_look (left.look.holds_sizeof || right.look.holds_sizeof)
  look_of env (ExprForm-F.Assign op left right) =
      plain_look (left.look.holds_sizeof || right.look.holds_sizeof)
  look_of env (ExprForm-F.Choice condition taken other) =
      plain_look (condition.look.holds_sizeof || taken.look.holds_sizeof || other.look.holds_sizeof)
  look_of env (ExprForm-F.Binary op left right) =
      record (plain_look (left.look.holds_sizeof || right.look.holds_sizeof))
      { is_product = is_product_by op left right }
  look_of env (ExprForm-F.Cast type operand) = plain_look (type.holds_sizeof || operand.look.holds_sizeof)
  look_of env (ExprForm-F.Pre op operand) = plain_look operand.look.holds_sizeof
  look_of env (ExprForm-F.Prefix op operand) =
      record (plain_look operand.look.holds_sizeof) { routine = routine_behind op operand.look.routine }
  look_of env (ExprForm-F.SizeofExpr operand) = sizeof_look
  look_of env (ExprForm-F.SizeofType type) = sizeof_look
  look_of env (ExprForm-F.Index array inner) = plain_look (array.look.holds_sizeof || inner.look.holds_sizeof)
  look_of env (ExprForm-F.Call function arguments) =
      plain_look (function.look.holds_sizeof || any_holds_sizeof arguments)
  look_of env (ExprForm-F.Member object member) = plain_look object.look.holds_sizeof
  look_of env (ExprForm-F.Arrow pointer member) = plain_look pointer.look.holds_sizeof
  look_of env (ExprForm-F.Post op operand) = plain_look operand.look.holds_sizeof
  look_of env (ExprForm-F.Word word) =
      record (plain_look false) { word = look_up env word; routine = look_up env word }
  look_of env (ExprForm-F.Number kind number) = plain_look false
  look_of env (ExprForm-F.Char number) = plain_look false
  look_of env (ExprForm-F.Text bytes) = record (plain_look false) { text = Some bytes }
  look_of env (ExprForm-F.Paren inner) =
      record (plain_look inner.look.holds_sizeof) { word = inner.look.word; routine = inner.look.routine }

  -- ---- the rules, each where all parts have a type; `env` is the environment behind the parts, `n` the number of the node

  abbrev pub rule : Env → ℕ → ExprForm-F D X M S G Judged I B P Named → Verdict
  rule env n (ExprForm-F.Comma left right) =
      with_two left.typing right.typing (λ a b. comma_rule (value a) (value b))
  rule env n (ExprForm-F.Assign op left right) =
      with_two left.typing right.typing (assign_rule env.structs op)
  rule env n (ExprForm-F.Choice condition taken other) =
      with_one condition.typing
      (λ c. with_two taken.typing other.typing (λ a b. choice_rule (value c) (value a) (value b)))
  rule env n (ExprForm-F.Binary op left right) =
      with_two left.typing right.typing (λ a b. binary_rule env.structs op (value a) (value b))
  rule env n (ExprForm-F.Cast type operand) =
      with_type type.type (λ target. with_one operand.typing (cast_rule target))
  rule env n (ExprForm-F.Pre op operand) = with_one operand.typing (step_rule env.structs)
  rule env n (ExprForm-F.Prefix op operand) = with_one operand.typing (prefix_rule op)
  rule env n (ExprForm-F.SizeofExpr operand) =
      with_one operand.typing (λ e. sizeof_rule env.structs env.in_size e.type)
  rule env n (ExprForm-F.SizeofType type) = with_type type.type (sizeof_rule env.structs env.in_size)
  rule env n (ExprForm-F.Index array inner) =
      with_two array.typing inner.typing (λ a i. index_rule env.structs (value a) (value i))
  rule env n (ExprForm-F.Call function arguments) =
      with_one function.typing
      (λ f. with_arguments (arguments_of arguments) (call_rule env (record { typing = f; look = function.look })))
  rule env n (ExprForm-F.Member object member) = with_one object.typing (λ e. dot_rule env.structs e member)
  rule env n (ExprForm-F.Arrow pointer member) =
      with_one pointer.typing (λ e. arrow_rule env.structs (value e) member)
  rule env n (ExprForm-F.Post op operand) = with_one operand.typing (step_rule env.structs)
  rule env n (ExprForm-F.Word word) = word_rule env word
  rule env n (ExprForm-F.Number kind number) = number_rule kind number
  rule env n (ExprForm-F.Char number) = char_rule number
  rule env n (ExprForm-F.Text bytes) = text_rule n bytes
  rule env n (ExprForm-F.Paren inner) = with_one inner.typing Typed

  -- ---- what is found of an expression in an environment

  -- what is found of its parts, each in its own environment
  abbrev pub found_in : {E T : Type 0} → (E → Env → Judged) → (T → Env → Named) → Env →
      ExprForm-F D X M S G E I B P T → ExprForm-F D X M S G Judged I B P Named
  found_in judge name env form = each_part (found_at judge) (found_at name) (placed judge name env form)

  abbrev pub verdict : {E T : Type 0} → (E → Env → Judged) → (T → Env → Named) → Env → ℕ →
      ExprForm-F D X M S G E I B P T → Verdict
  verdict judge name env n form = let found = found_in judge name env form in
      rule (extend env (additions_of found)) n found

  abbrev pub judged : {E T : Type 0} → (E → Env → Judged) → (T → Env → Named) → Env → ℕ →
      ExprForm-F D X M S G E I B P T → Judged
  judged judge name env n form =
      let found = found_in judge name env form in
      record { typing = typing_of (verdict judge name env n form); look = look_of env found; adds = additions_of found }

  -- the codes that hold at the node itself
  abbrev pub codes_at : {E T : Type 0} → (E → Env → Judged) → (T → Env → Named) → Env → ℕ →
      ExprForm-F D X M S G E I B P T → List Code
  codes_at judge name env n form = codes_of (verdict judge name env n form)

  -- the parts of the node, each with its environment
  abbrev pub parts : {E T A : Type 0} → (E → A) → (T → A) → (E → Env → Judged) → (T → Env → Named) → Env →
      ExprForm-F D X M S G E I B P T → List (Placed A)
  parts from_expr from_name judge name env form =
      parts_in (in_place from_expr) (in_place from_name) (placed judge name env form)
