-- The type of start routines, and what operators leave of how an operand is written.
use Rattle.std.proofs.Common.{◌≡◌, ◌∙◌, Bool, true, false, List, [], ◌∷◌, ℕ, Option, Some, length, map, refl, ap, arith, nat_eq}
use Rattle.std.specs.Prelude.{◌&&◌, not}
use Rattle.std.specs.Bool.{beq}
use Rattle.std.specs.List.{slice_get}
use Rattle.std.proofs.lemmas.Option.{none-some, same_Some}
use Rattle.lk_tree.specs.declared.operators.BinaryOperator.{BinaryOperator}
use Rattle.lk_tree.specs.declared.operators.BinaryOperator.TheVariants as binary
use Rattle.lk_tree.specs.declared.operators.PrefixOperator.{PrefixOperator}
use Rattle.lk_tree.specs.declared.operators.PrefixOperator.TheVariants as prefix
use Rattle.lk_typed.specs.Calls.{names_routine}
use Rattle.lk_typed.specs.Env.{Env, Declared}
use Rattle.lk_typed.specs.ExprRules.{is_product_by, is_sizeof_product, routine_behind}
use Rattle.lk_typed.specs.Library.{routine_type}
use Rattle.lk_typed.specs.Ty.{Ty, Void, Int, ThreadId, Mutex, Cond, Pointer, Array, Struct, Function, Opaque, are_equal_but, function_of, holds_of, is_equal_but, is_same, is_void, more, none, target_of, types_of, void_pointer}
use Rattle.lk_typed.specs.Typing.{Judged}
use Rattle.lk_check_expr.specs.Looks.{is_address, is_multiply, product_of}
use Rattle.lk_check_expr.specs.declared.looks.Look.{Look}
use Rattle.lk_check_expr.specs.Signatures.{is_routine_signature}

same_void : (a : Ty) → is_equal_but nat_eq a Void ≡ is_void a
same_void Void = refl
same_void (Int k) = refl
same_void ThreadId = refl
same_void Mutex = refl
same_void Cond = refl
same_void (Pointer t) = refl
same_void (Array t n) = refl
same_void (Struct s) = refl
same_void (Function r ps dots) = refl
same_void (Opaque n) = refl

-- a type is void * where its target is void
pub same_anything : (a : Ty) → is_same a void_pointer ≡ holds_of (target_of a) is_void
unfolding is_same
same_anything Void = refl
same_anything (Int k) = refl
same_anything ThreadId = refl
same_anything Mutex = refl
same_anything Cond = refl
same_anything (Pointer t) = same_void t
same_anything (Array t n) = refl
same_anything (Struct s) = refl
same_anything (Function r ps dots) = refl
same_anything (Opaque n) = refl

no_dots : (b : Bool) → beq b false ≡ not b
no_dots true = refl
no_dots false = refl

-- a type is that of a start routine where its signature is
pub same_routine : (a : Ty) → is_same a routine_type ≡ holds_of (function_of a) is_routine_signature
unfolding is_same
same_routine Void = refl
same_routine (Int k) = refl
same_routine ThreadId = refl
same_routine Mutex = refl
same_routine Cond = refl
same_routine (Pointer t) = refl
same_routine (Array t n) = refl
same_routine (Struct s) = refl
same_routine (Function r ps dots) = ap (λ b. is_equal_but nat_eq r void_pointer && are_equal_but nat_eq ps (more void_pointer none) && b) (no_dots dots)
same_routine (Opaque n) = refl

and_true : (b : Bool) → (b && true) ≡ b
and_true true = refl
and_true false = refl

pub one_parameter : (m : ℕ → Ty) (ts : List ℕ) (t : ℕ) → length ts ≡ 1 → slice_get ts 0 ≡ Some t → are_equal_but nat_eq (types_of (map m ts)) (more void_pointer none) ≡ is_same (m t) void_pointer
unfolding is_same
one_parameter m [] t one first = absurd (none-some t first)
one_parameter m (u ∷ []) t one first = and_true (is_equal_but nat_eq (m u) void_pointer) ∙ ap (λ v. is_equal_but nat_eq (m v) void_pointer) (same_Some u t first)
one_parameter m (u ∷ v ∷ ts) t one first = absurd (omega (arith, one))

-- & alone leaves the name of a routine
pub routine_left : (env : Env) (op : PrefixOperator) (routine : Option Declared) → names_routine env (routine_behind op routine) ≡ (is_address op && names_routine env routine)
routine_left env prefix.Address routine = refl
routine_left env prefix.Indirection routine = refl
routine_left env prefix.Plus routine = refl
routine_left env prefix.Minus routine = refl
routine_left env prefix.Complement routine = refl
routine_left env prefix.Not routine = refl

pub product_by : (op : BinaryOperator) (a b : Judged) → is_product_by op a b ≡ (is_multiply op && is_sizeof_product a b)
product_by binary.Multiply a b = refl
product_by binary.Or a b = refl
product_by binary.And a b = refl
product_by binary.BitOr a b = refl
product_by binary.BitXor a b = refl
product_by binary.BitAnd a b = refl
product_by binary.Equal a b = refl
product_by binary.NotEqual a b = refl
product_by binary.Less a b = refl
product_by binary.Greater a b = refl
product_by binary.LessEqual a b = refl
product_by binary.GreaterEqual a b = refl
product_by binary.ShiftLeft a b = refl
product_by binary.ShiftRight a b = refl
product_by binary.Add a b = refl
product_by binary.Subtract a b = refl
product_by binary.Divide a b = refl
product_by binary.Remainder a b = refl

pub same_product : (a b : Look) (x y : Judged) → x.look.is_sizeof ≡ a.is_sizeof → x.look.holds_sizeof ≡ a.holds_sizeof → y.look.is_sizeof ≡ b.is_sizeof → y.look.holds_sizeof ≡ b.holds_sizeof →
    is_sizeof_product x y ≡ product_of a b
same_product a b x y p q r s = rw p (rw q (rw r (rw s refl)))
