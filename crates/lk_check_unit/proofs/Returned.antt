-- The code of a return.
use Rattle.std.proofs.Common.{◌≡◌, ◌∙◌, ℕ, true, List, [], ◌∷◌, Option, Some, None, map, refl, sym, ap, subst}
use Rattle.std.specs.Prelude.{◌&&◌, IfSome, is_some, option_map, if◌then◌else◌}
use Rattle.lk_base.specs.declared.code.Code.{Code}
use Rattle.lk_tree.specs.declared.expression.Expr.{Expr}
use Rattle.lk_types.specs.Building.{IsLonger}
use Rattle.lk_types.specs.Table.{IsKnown, Table}
use Rattle.lk_types.proofs.GrowLemmas.{known_same}
use Rattle.lk_typed.proofs.Meanings.{meaning_stays}
use Rattle.lk_typed.proofs.Verdicts.{then_each}
use Rattle.lk_typed.specs.Addresses.{value}
use Rattle.lk_typed.specs.Assignments.{given_codes}
use Rattle.lk_typed.specs.Codes.{least_code}
use Rattle.lk_typed.specs.Conversions.{conversion_codes}
use Rattle.lk_typed.specs.Env.{Env, converted_to}
use Rattle.lk_typed.specs.Expressions.{expr_adds, expression}
use Rattle.lk_typed.specs.Faults.{Breach, breach}
use Rattle.lk_typed.specs.Meaning.{meaning}
use Rattle.lk_typed.specs.NodeRules.{converted_rules}
use Rattle.lk_typed.specs.Nodes.{AnExpression, at}
use Rattle.lk_typed.specs.Parts.{to_result}
use Rattle.lk_typed.specs.StatementRules.{Converted, Nothing, return_rules}
use Rattle.lk_typed.specs.Ty.{Ty}
use Rattle.lk_typed.specs.Typing.{Typing}
use Rattle.lk_typed.specs.Typings.{ForEach, IsResult, IsTyping}
use Rattle.lk_typed.specs.declared.typed.Typed.{Typed}
use Rattle.lk_check_decl.specs.Breaches.{told}
use Rattle.lk_found.specs.declared.found.Found.{Found}
use Rattle.lk_checker.specs.States.{IsSound}
use Rattle.lk_checker.specs.declared.checker.Checker.{Checker}
use Rattle.lk_check_walk.proofs.Walking.{no_walk}
use Rattle.lk_check_walk.specs.Walks.{Walks}
use Rattle.lk_check_unit.specs.Bodies.{WalksReturn}
use Rattle.lk_check_unit.specs.Converting.{IsConvertedFound, IsReturnCode, WalksConverted, conversion_rules, given_rules}
use Rattle.lk_check_unit.proofs.Asked.{result_found}

-- codes without names
codes_same : (cs : List Code) → map (λ (b : Breach). b.code) (map breach cs) ≡ cs
codes_same [] = refl
codes_same (c ∷ cs) = ap (λ xs. c ∷ xs) (codes_same cs)

pub told_codes : (cs : List Code) → least_code cs ≡ told (map breach cs)
told_codes cs = ap least_code (sym (codes_same cs))

pub conversion_told : (table : Table) (v : Typed) (target : Ty) (code : Option Code) → ForEach table v (λ x. code ≡ least_code (conversion_codes target x)) →
    (x : Typing) → IsTyping table v x → code ≡ told (conversion_rules (Some target) x)
conversion_told table v target code each x is = then_each table v x (λ y. code ≡ least_code (conversion_codes target y)) is each ∙ told_codes (conversion_codes target x)

-- the value of what stands for a typing stands for the value of that
pub value_stands : (table : Table) (t v : Typed) (x : Typing) → ForEach table t (λ y. IsTyping table v (value y)) → IsTyping table t x → IsTyping table v (value x)
value_stands table t v x each is = then_each table t x (λ y. IsTyping table v (value y)) is each

-- ---- a return with a value

code_for : (table : Table) (e : Expr) (env : Env) (result : Option ℕ) (typing : Option Typed) (code : Option Code) (r : Option Ty) → option_map (meaning table) result ≡ r →
    (x : Option Typing) → (expression e (to_result env r)).typing ≡ x → IsResult table typing x → IsReturnCode table result typing code →
    code ≡ told (if is_some x && true then return_rules r (Converted (converted_rules env e r)) else [])
code_for table e env result None code r r_is None x_is found is = is
code_for table e env result None code r r_is (Some x) x_is found is = absurd found
code_for table e env result (Some t) code r r_is None x_is found is = absurd found
code_for table e env result (Some t) code None r_is (Some x) x_is found is = is x found ∙ ap (λ r. told (return_rules r (Converted (given_rules r x)))) r_is
code_for table e env result (Some t) code (Some r) r_is (Some x) x_is found is =
    is x found ∙ (ap (λ r. told (return_rules r (Converted (given_rules r x)))) r_is ∙ ap (λ bs. told (return_rules (Some r) (Converted bs))) (sym (conversion_is (expression e (converted_to env r)).typing x_is)))
  where
    conversion_of : Option Typing → List Breach
    conversion_of None = []
    conversion_of (Some typing) = map breach (given_codes r typing)

    conversion_is : (y : Option Typing) → y ≡ Some x → conversion_of y ≡ map breach (given_codes r x)
    conversion_is y is = ap conversion_of is

module _ (old new : Checker) (result : Option ℕ) (sound : IsSound old) (known : IfSome result (IsKnown old.types)) where
  pub returns_value : (e : Expr) (found : Found) (code : Option Code) → IsLonger old.types new.types → WalksConverted e result old new → IsConvertedFound e result old new.types found →
      IsReturnCode new.types result found.typing code → WalksReturn (Some e) old new result code
  returns_value e found code longer walks founds is =
      record {
        walks = λ at_end env plain r_is. subst (λ (r : Option Ty). Walks at_end old new env (expr_adds e env) (at (to_result env r) (AnExpression e) ∷ [])) r_is (walks at_end env plain);
        code = λ env plain r_is.
            code_for new.types e env result found.typing code env.result (stays result known ∙ r_is) (expression e (to_result env env.result)).typing refl
            (subst (λ (r : Option Ty). IsResult new.types found.typing (expression e (to_result env r)).typing) r_is (result_found new.types found _ (founds env plain))) is;
      }
    where
      stays : (t : Option ℕ) → IfSome t (IsKnown old.types) → option_map (meaning new.types) t ≡ option_map (meaning old.types) t
      stays None known = refl
      stays (Some t) known = ap Some (meaning_stays old.types new.types sound.ready.table_is longer t known)

pub known_there : (old new : Checker) (result : Option ℕ) → IsSound old → IsLonger old.types new.types → IfSome result (IsKnown old.types) → IfSome result (IsKnown new.types)
known_there old new None sound longer known = known
known_there old new (Some t) sound longer known = known_same old.types new.types sound.ready.table_is longer t known

pub returns_nothing : (checker : Checker) (result : Option ℕ) (code : Option Code) → IsSound checker → code ≡ told (return_rules (option_map (meaning checker.types) result) Nothing) →
    WalksReturn None checker checker result code
returns_nothing checker result code sound is =
    record {
      walks = λ at_end env plain r_is. no_walk at_end checker env sound plain.is_in;
      code = λ env plain r_is. is ∙ ap (λ r. told (return_rules r Nothing)) r_is;
    }
