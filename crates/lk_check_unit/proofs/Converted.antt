-- Expressions that are walked in any role.
use Rattle.std.proofs.Common.{◌≡◌, ◌∙◌, ℕ, false, [], ◌∷◌, Option, Some, None, refl, ap, subst}
use Rattle.std.specs.Prelude.{option_map}
use Rattle.lk_tree.specs.declared.expression.Expr.{Expr}
use Rattle.lk_types.specs.Table.{Table}
use Rattle.lk_typed.specs.Env.{Env, Role, Additions, AsOperand, ConvertedTo, extend}
use Rattle.lk_typed.specs.Expressions.{expr_adds, expression}
use Rattle.lk_typed.specs.Meaning.{meaning}
use Rattle.lk_typed.specs.Names.{role_in}
use Rattle.lk_typed.specs.Nodes.{AnExpression, at}
use Rattle.lk_typed.specs.Parts.{to_result}
use Rattle.lk_typed.specs.Ty.{Ty}
use Rattle.lk_rules.proofs.Roles.{additions_in_any_role}
use Rattle.lk_found.specs.declared.found.Found.{Found}
use Rattle.lk_found.specs.declared.found.Stands.{Stands}
use Rattle.lk_checker.specs.States.{IsIn, StandsIn}
use Rattle.lk_checker.specs.declared.checker.Checker.{Checker}
use Rattle.lk_check_walk.specs.Walking.{Judges}
use Rattle.lk_check_walk.specs.Walks.{Walks}
use Rattle.lk_check_unit.specs.Bodies.{IsPlain}
use Rattle.lk_check_unit.specs.Converting.{IsConvertedFound, WalksConverted, role_of}

-- what an environment stands as says nothing of the state
pub in_role : (checker : Checker) (env : Env) (role : Role) → IsIn checker env → IsIn checker (record env { role = role })
in_role checker env role is_in =
    record { scope = ap (λ (e : Env). record e { role = role }) is_in.scope; defined = is_in.defined; externs = is_in.externs }

in_target : (checker : Checker) (env : Env) (target : Option Ty) → IsIn checker env → IsIn checker (to_result env target)
in_target checker env None is_in = is_in
in_target checker env (Some t) is_in = in_role checker env (ConvertedTo t) is_in

target_role : (env : Env) (target : Option Ty) → AsOperand ≡ env.role → role_of target ≡ (to_result env target).role
target_role env None plain = plain
target_role env (Some t) plain = refl

target_size : (env : Env) (target : Option Ty) → false ≡ env.in_size → false ≡ (to_result env target).in_size
target_size env None plain = plain
target_size env (Some t) plain = plain

same_adds : (e : Expr) (env : Env) (target : Option Ty) → (expression e (to_result env target)).adds ≡ expr_adds e env
same_adds e env None = additions_in_any_role e env
same_adds e env (Some t) = additions_in_any_role e (to_result env (Some t))

in_plain : (checker : Checker) (env : Env) (target : Option Ty) (added : Additions) → AsOperand ≡ env.role → IsIn checker (extend (to_result env target) added) → IsIn checker (extend env added)
in_plain checker env None added plain is_in = is_in
in_plain checker env (Some t) added plain is_in =
    subst (IsIn checker) (ap (λ r. record (extend env added) { role = r }) plain) (in_role checker (extend (to_result env (Some t)) added) AsOperand is_in)

module _ (old new : Checker) (e : Expr) (target : Option ℕ) (stands : Stands) (found : Found)
    (as_role : (table : Table) → role_in table stands.role ≡ role_of (option_map (meaning table) target)) (no_size : stands.in_size ≡ false)
    (judged : Judges old new stands e found) where
  abbrev type : Option Ty
  type = option_map (meaning old.types) target

  stands_so : (env : Env) → IsPlain old env → StandsIn old stands (to_result env type)
  stands_so env plain =
      record { is_in = in_target old env type plain.is_in; role = as_role old.types ∙ target_role env type plain.role; in_size = no_size ∙ target_size env type plain.in_size }

  pub converted_walks : WalksConverted e target old new
  converted_walks at_end env plain =
      let walk = (judged at_end (to_result env type) (stands_so env plain)).walks in
      subst (λ a. Walks at_end old new env a (at (to_result env type) (AnExpression e) ∷ [])) (same_adds e env type)
      (record {
        longer = walk.longer;
        sound = walk.sound;
        outside = walk.outside;
        behind = in_plain new env type (expression e (to_result env type)).adds plain.role walk.behind;
        begun = walk.begun;
        keeps = walk.keeps;
        records = walk.records;
      })

  pub converted_found : IsConvertedFound e target old new.types found
  converted_found env plain = (judged env (to_result env type) (stands_so env plain)).found.typing
