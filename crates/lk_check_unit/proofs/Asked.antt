-- What is asked of an expression whose value nothing converts.
use Rattle.std.proofs.Common.{◌≡◌, ◌∙◌, Bool, true, false, List, [], ◌∷◌, Option, Some, None, refl, sym, ap, subst}
use Rattle.std.specs.Prelude.{◌&&◌, is_some, option_map}
use Rattle.lk_base.specs.declared.kind.Kind.{Kind}
use Rattle.lk_typed.specs.Statements.{kind_in, switch_kind}
use Rattle.lk_typed.specs.declared.constant.Constant.{Constant}
use Rattle.lk_tree.specs.declared.expression.Expr.{Expr}
use Rattle.lk_types.specs.Table.{Table}
use Rattle.lk_typed.specs.Addresses.{value}
use Rattle.lk_typed.specs.Env.{Env}
use Rattle.lk_typed.specs.Expressions.{expr_constant, expression, has_expr_type}
use Rattle.lk_typed.specs.Faults.{Breach}
use Rattle.lk_typed.specs.Meaning.{meaning_of}
use Rattle.lk_typed.specs.Nodes.{AnExpression, at}
use Rattle.lk_typed.specs.Ty.{Ty}
use Rattle.lk_typed.specs.Typing.{Typing, constant_in}
use Rattle.lk_typed.specs.Typings.{ForEach, IsResult, IsTyping, typing}
use Rattle.lk_typed.specs.declared.typed.ExprType.{ExprType}
use Rattle.lk_typed.specs.declared.typed.Typed.{Typed}
use Rattle.lk_check_decl.specs.Breaches.{told}
use Rattle.lk_found.specs.Findings.{IsFoundTyping}
use Rattle.lk_found.specs.declared.found.Found.{Found}
use Rattle.lk_checker.specs.Moves.{IsFurther}
use Rattle.lk_checker.specs.declared.checker.Checker.{Checker}
use Rattle.lk_check_walk.specs.Walking.{Judges}
use Rattle.lk_check_walk.specs.Walks.{Walks}
use Rattle.lk_check_unit.specs.Asking.{IsOperandFound, WalksOperand, value_in}
use Rattle.lk_check_unit.specs.Bodies.{Asks, Grows, IsPlain}
use Rattle.lk_check_unit.specs.declared.body.Asked.{Asked}
use Rattle.lk_check_unit.proofs.Standing.{as_plain, plainly, stands_plainly}

-- ---- what is found

pub result_found : (table : Table) (found : Found) (x : Option Typing) → IsFoundTyping table found x → IsResult table found.typing x
result_found table found None none = subst (λ t. IsResult table t None) (sym none) tt
result_found table found (Some x) some = subst (λ t. IsResult table t (Some x)) (sym some.1) some.2

pub grows_further : (old new : Checker) → IsFurther old new → Grows old new
grows_further old new further = record { sound = further.sound; longer = further.longer }

module _ (old new : Checker) (e : Expr) (found : Found) (judged : Judges old new plainly e found) where
  pub operand_walks : WalksOperand e old new
  operand_walks at_end env plain =
      subst (λ (here : Env). Walks at_end old new env (expression e here).adds (at env (AnExpression e) ∷ [])) (sym (as_plain old env plain)) (judged at_end env (stands_plainly old env plain)).walks

  pub operand_found : IsOperandFound e old new.types found.typing
  operand_found env plain = result_found new.types found (expression e env).typing (judged env env (stands_plainly old env plain)).found.typing

-- ---- what is asked

some_typed : (table : Table) (t : Option Typed) (x : Option Typing) → IsResult table t x → is_some t ≡ is_some x
some_typed table None None found = refl
some_typed table None (Some x) found = absurd found
some_typed table (Some t) None found = absurd found
some_typed table (Some t) (Some x) found = refl

and_true : (b : Bool) → b ≡ (b && true)
and_true true = refl
and_true false = refl

-- the code by the type of the value, which has a type
pub asks : (old new : Checker) (e : Expr) (rule : Option Ty → List Breach) (typing : Option Typed) (type : Option ExprType) (asked : Asked) →
    WalksOperand e old new → IsOperandFound e old new.types typing →
    ((x : Option Typing) → IsResult new.types typing x → option_map (meaning_of new.types) type ≡ value_in x) →
    asked.is_typed ≡ is_some typing → asked.code ≡ told (rule (option_map (meaning_of new.types) type)) → Asks old new (Some e) rule asked
asks old new e rule typing type asked walks found value typed code =
    record {
      walks = walks;
      typed = λ env plain. typed ∙ (some_typed new.types typing (expression e env).typing (found env plain) ∙ and_true (has_expr_type e env));
      code = λ env plain. code ∙ ap (λ t. told (rule t)) (value (expression e env).typing (found env plain) ∙ ap (λ (here : Env). value_in (expression e here).typing) (sym (as_plain old env plain)));
    }

pub value_told : (table : Table) (t v : Typed) (x : Option Typing) → ForEach table t (λ y. IsTyping table v (value y)) → IsResult table (Some t) x → Some (meaning_of table v.ty) ≡ value_in x
value_told table t v None each found = absurd found
value_told table t v (Some x) each found =
    let same : typing table t x.address ≡ x =
    ap (λ a. record { type = a; is_place = t.is_place; constant = t.constant; is_null = t.is_null; address = x.address }) found.type ∙
    (ap (λ a. record { type = x.type; is_place = a; constant = t.constant; is_null = t.is_null; address = x.address }) found.place ∙
    (ap (λ a. record { type = x.type; is_place = x.is_place; constant = a; is_null = t.is_null; address = x.address }) found.constant ∙
    ap (λ a. record { type = x.type; is_place = x.is_place; constant = x.constant; is_null = a; address = x.address }) found.null)) in
    ap Some ((each x.address).type ∙ ap (λ (y : Typing). (value y).type) same)

pub constant_by : (old : Checker) (table : Table) (e : Expr) (typing : Option Typed) (constant : Option Constant) → IsOperandFound e old table typing →
    ((x : Option Typing) → IsResult table typing x → constant ≡ constant_in x) → (env : Env) → IsPlain old env → constant ≡ expr_constant e env
constant_by old table e typing constant found is env plain =
    is (expression e env).typing (found env plain) ∙ ap (λ (here : Env). constant_in (expression e here).typing) (sym (as_plain old env plain))

pub kind_by : (old : Checker) (table : Table) (e : Expr) (typing : Option Typed) (type : Option ExprType) (kind : Option Kind) → IsOperandFound e old table typing →
    ((x : Option Typing) → IsResult table typing x → option_map (meaning_of table) type ≡ value_in x) → kind ≡ kind_in (option_map (meaning_of table) type) →
    (env : Env) → IsPlain old env → kind ≡ switch_kind e env
kind_by old table e typing type kind found value is env plain =
    is ∙ ap kind_in (value (expression e env).typing (found env plain) ∙ ap (λ (here : Env). value_in (expression e here).typing) (sym (as_plain old env plain)))
