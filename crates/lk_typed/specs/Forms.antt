-- The forms of expressions: which environment each part of one stands in, what the parts add, and the rule of
-- each form (C99 6.5). Over E and T, which stand for the expressions and type names inside: trees, or what
-- was found of them; `judge` and `name` say what is found of one in an environment.
use Rattle.std.specs.Prelude.{Option, Some, None, List, [], ◌∷◌, map, if◌then◌else◌}
use Rattle.lk_tree.specs.declared.expression.DeclaratorForm.TheOpen.{ExprForm-F}
use Rattle.lk_tree.specs.declared.operators.BinaryOperator.{BinaryOperator}
use Rattle.lk_tree.specs.declared.operators.PrefixOperator.{PrefixOperator}
use Rattle.lk_tree.specs.declared.operators.PrefixOperator.TheVariants as prefix
use Rattle.lk_typed.specs.Ty.{Ty, is_function}
use Rattle.lk_typed.specs.Env.{Env, Role, AsOperand, ConvertedTo, AsFunction, AsRoutine, extend, as_operand, converted_to, as_function, as_routine, as_size}
use Rattle.lk_typed.specs.Typing.{Typing, Judged, Named}
use Rattle.lk_typed.specs.Assignments.{operator_of}
use Rattle.lk_typed.specs.Library.{Passing, Converted, NullFor, Routine, Size}
use Rattle.lk_typed.specs.Calls.{library_called, signature_of, passes_by}

-- a part in its environment
abbrev pub Placed : Type 0 → Type 0
Placed A = Env × A

-- a part in its environment, as another sort of part
abbrev pub in_place : {A B : Type 0} → (A → B) → Placed A → Placed B
in_place f (env, part) = (env, f part)

-- what is found of a part in its environment
abbrev pub found_at : {A B : Type 0} → (A → Env → B) → Placed A → B
found_at judge (env, part) = judge part env

-- the environment behind what was found
abbrev pub behind : Env → Judged → Env
behind env found = extend env found.adds

-- ---- what a part stands as

-- the right side of an assignment is converted to the type of the left one; that of
-- `op=` isn't converted directly
abbrev pub as_right : Option BinaryOperator → Option Typing → Env → Env
as_right None None env = as_operand env
as_right None (Some left) env = if is_function left.type then as_operand env else converted_to env left.type
as_right (Some o) left env = as_operand env

abbrev pub as_cast : Option Ty → Env → Env
as_cast None env = as_operand env
as_cast (Some target) env = converted_to env target

-- & and parentheses round the name of a start routine, and parentheses round the function of a call; no other
-- operator passes on what its node stands as
abbrev pub role_in_address : Role → Role
role_in_address AsOperand = AsOperand
role_in_address (ConvertedTo t) = AsOperand
role_in_address AsFunction = AsOperand
role_in_address AsRoutine = AsRoutine

abbrev pub role_in_parentheses : Role → Role
role_in_parentheses AsOperand = AsOperand
role_in_parentheses (ConvertedTo t) = AsOperand
role_in_parentheses AsFunction = AsFunction
role_in_parentheses AsRoutine = AsRoutine

abbrev pub role_in_prefix : PrefixOperator → Role → Role
role_in_prefix prefix.Address role = role_in_address role
role_in_prefix prefix.Indirection role = AsOperand
role_in_prefix prefix.Plus role = AsOperand
role_in_prefix prefix.Minus role = AsOperand
role_in_prefix prefix.Complement role = AsOperand
role_in_prefix prefix.Not role = AsOperand

abbrev pub as_passed : Passing → Env → Env
as_passed (Converted t) env = converted_to env t
as_passed (NullFor t code) env = as_operand env
as_passed Routine env = as_routine env
as_passed Size env = as_size env

-- how the arguments of a call are passed, where its function has a typing
abbrev pub passes_of : Judged → Option Typing → List Passing
passes_of f None = []
passes_of f (Some typing) = passes_by (library_called f.look.word) (signature_of typing)

-- ---- the environments of the parts: each stands behind those before it

-- arguments, in their order
abbrev pub placed_arguments : {E : Type 0} → (E → Env → Judged) → Env → List Passing →
    List E → List (Placed E)
placed_arguments judge env passes [] = []
placed_arguments judge env [] (a ∷ others) =
    (as_operand env, a) ∷ placed_arguments judge (behind env (judge a (as_operand env))) [] others
placed_arguments judge env (pass ∷ passes) (a ∷ others) =
    (as_passed pass env, a) ∷ placed_arguments judge (behind env (judge a (as_passed pass env))) passes others

module _ {D X M S G I B P : Type 0} where
  abbrev pub placed : {E T : Type 0} → (E → Env → Judged) → (T → Env → Named) → Env →
      ExprForm-F D X M S G E I B P T → ExprForm-F D X M S G (Placed E) I B P (Placed T)
  placed judge name env (ExprForm-F.Comma left right) =
      ExprForm-F.Comma (as_operand env, left) (as_operand (behind env (judge left (as_operand env))), right)
  placed judge name env (ExprForm-F.Assign op left right) =
      let found = judge left (as_operand env) in
      ExprForm-F.Assign op (as_operand env, left)
      (as_right (operator_of op) found.typing (behind env found), right)
  placed judge name env (ExprForm-F.Choice condition taken other) =
      let second = as_operand (behind env (judge condition (as_operand env))) in
      ExprForm-F.Choice (as_operand env, condition) (second, taken)
      (behind second (judge taken second), other)
  placed judge name env (ExprForm-F.Binary op left right) =
      ExprForm-F.Binary op (as_operand env, left)
      (as_operand (behind env (judge left (as_operand env))), right)
  placed judge name env (ExprForm-F.Cast type operand) =
      let found = name type (as_operand env) in
      ExprForm-F.Cast (as_operand env, type) (as_cast found.type (extend env found.adds), operand)
  placed judge name env (ExprForm-F.Pre op operand) = ExprForm-F.Pre op (as_operand env, operand)
  placed judge name env (ExprForm-F.Prefix op operand) =
      ExprForm-F.Prefix op (record env { role = role_in_prefix op env.role }, operand)
  placed judge name env (ExprForm-F.SizeofExpr operand) = ExprForm-F.SizeofExpr (as_operand env, operand)
  placed judge name env (ExprForm-F.SizeofType type) = ExprForm-F.SizeofType (as_operand env, type)
  placed judge name env (ExprForm-F.Index array inner) =
      ExprForm-F.Index (as_operand env, array) (as_operand (behind env (judge array (as_operand env))), inner)
  placed judge name env (ExprForm-F.Call function arguments) =
      let found = judge function (as_function env) in
      ExprForm-F.Call (as_function env, function)
      (placed_arguments judge (behind env found) (passes_of found found.typing) arguments)
  placed judge name env (ExprForm-F.Member object member) = ExprForm-F.Member (as_operand env, object) member
  placed judge name env (ExprForm-F.Arrow pointer member) = ExprForm-F.Arrow (as_operand env, pointer) member
  placed judge name env (ExprForm-F.Post op operand) = ExprForm-F.Post op (as_operand env, operand)
  placed judge name env (ExprForm-F.Word word) = ExprForm-F.Word word
  placed judge name env (ExprForm-F.Number kind number) = ExprForm-F.Number kind number
  placed judge name env (ExprForm-F.Char number) = ExprForm-F.Char number
  placed judge name env (ExprForm-F.Text bytes) = ExprForm-F.Text bytes
  placed judge name env (ExprForm-F.Paren inner) =
      ExprForm-F.Paren (record env { role = role_in_parentheses env.role }, inner)

  -- ---- something done to each part

  abbrev pub each_part : {E T E' T' : Type 0} → (E → E') → (T → T') → ExprForm-F D X M S G E I B P T →
      ExprForm-F D X M S G E' I B P T'
  each_part f g (ExprForm-F.Comma left right) = ExprForm-F.Comma (f left) (f right)
  each_part f g (ExprForm-F.Assign op left right) = ExprForm-F.Assign op (f left) (f right)
  each_part f g (ExprForm-F.Choice condition taken other) =
      ExprForm-F.Choice (f condition) (f taken) (f other)
  each_part f g (ExprForm-F.Binary op left right) = ExprForm-F.Binary op (f left) (f right)
  each_part f g (ExprForm-F.Cast type operand) = ExprForm-F.Cast (g type) (f operand)
  each_part f g (ExprForm-F.Pre op operand) = ExprForm-F.Pre op (f operand)
  each_part f g (ExprForm-F.Prefix op operand) = ExprForm-F.Prefix op (f operand)
  each_part f g (ExprForm-F.SizeofExpr operand) = ExprForm-F.SizeofExpr (f operand)
  each_part f g (ExprForm-F.SizeofType type) = ExprForm-F.SizeofType (g type)
  each_part f g (ExprForm-F.Index array inner) = ExprForm-F.Index (f array) (f inner)
  each_part f g (ExprForm-F.Call function arguments) = ExprForm-F.Call (f function) (map f arguments)
  each_part f g (ExprForm-F.Member object member) = ExprForm-F.Member (f object) member
  each_part f g (ExprForm-F.Arrow pointer member) = ExprForm-F.Arrow (f pointer) member
  each_part f g (ExprForm-F.Post op operand) = ExprForm-F.Post op (f operand)
  each_part f g (ExprForm-F.Word word) = ExprForm-F.Word word
  each_part f g (ExprForm-F.Number kind number) = ExprForm-F.Number kind number
  each_part f g (ExprForm-F.Char number) = ExprForm-F.Char number
  each_part f g (ExprForm-F.Text bytes) = ExprForm-F.Text bytes
  each_part f g (ExprForm-F.Paren inner) = ExprForm-F.Paren (f inner)

  -- the parts in the order of the text, all made into one sort
  abbrev pub parts_in : {E T A : Type 0} → (E → A) → (T → A) → ExprForm-F D X M S G E I B P T → List A
  parts_in f g (ExprForm-F.Comma left right) = f left ∷ f right ∷ []
  parts_in f g (ExprForm-F.Assign op left right) = f left ∷ f right ∷ []
  parts_in f g (ExprForm-F.Choice condition taken other) = f condition ∷ f taken ∷ f other ∷ []
  parts_in f g (ExprForm-F.Binary op left right) = f left ∷ f right ∷ []
  parts_in f g (ExprForm-F.Cast type operand) = g type ∷ f operand ∷ []
  parts_in f g (ExprForm-F.Pre op operand) = f operand ∷ []
  parts_in f g (ExprForm-F.Prefix op operand) = f operand ∷ []
  parts_in f g (ExprForm-F.SizeofExpr operand) = f operand ∷ []
  parts_in f g (ExprForm-F.SizeofType type) = g type ∷ []
  parts_in f g (ExprForm-F.Index array inner) = f array ∷ f inner ∷ []
  parts_in f g (ExprForm-F.Call function arguments) = f function ∷ map f arguments
  parts_in f g (ExprForm-F.Member object member) = f object ∷ []
  parts_in f g (ExprForm-F.Arrow pointer member) = f pointer ∷ []
  parts_in f g (ExprForm-F.Post op operand) = f operand ∷ []
  parts_in f g (ExprForm-F.Word word) = []
  parts_in f g (ExprForm-F.Number kind number) = []
  parts_in f g (ExprForm-F.Char number) = []
  parts_in f g (ExprForm-F.Text bytes) = []
  parts_in f g (ExprForm-F.Paren inner) = f inner ∷ []
