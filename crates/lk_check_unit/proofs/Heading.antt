-- What stands in the parentheses of a for.
use Rattle.std.proofs.Common.{◌≡◌, ◌∙◌, ◌++◌, Bool, true, List, [], Option, None, refl, sym, ap, subst, append_assoc}
use Rattle.std.specs.Prelude.{◌&&◌, if◌then◌else◌}
use Rattle.lk_base.specs.declared.code.Code.{Code}
use Rattle.lk_tree.specs.declared.declaration.Declare.{Declare}
use Rattle.lk_tree.specs.declared.expression.Expr.{Expr}
use Rattle.lk_tree.specs.declared.statement.ForFirst.{ForFirst}
use Rattle.lk_tree.specs.declared.statement.ForFirst.TheVariants as first
use Rattle.lk_typed.specs.Env.{Env, both, extend}
use Rattle.lk_typed.specs.Faults.{Breach}
use Rattle.lk_typed.specs.NodeRules.{are_typed, first_rules, for_rules, optional_rules}
use Rattle.lk_typed.specs.Nodes.{AnExpression, Placed}
use Rattle.lk_typed.specs.Parts.{added_by, first_adds, first_part, perhaps}
use Rattle.lk_typed.specs.StatementRules.{condition_rules, dropped_rules}
use Rattle.lk_check_decl.specs.Breaches.{told}
use Rattle.lk_checker.specs.declared.checker.Checker.{Checker}
use Rattle.lk_check_walk.proofs.Walking.{then_walks}
use Rattle.lk_check_walk.specs.Walks.{Walks}
use Rattle.lk_check_unit.specs.Bodies.{Asks, AsksFirst, IsPlain, WalksDeclaration, WalksHead, head_adds, head_parts}
use Rattle.lk_check_unit.specs.declared.body.Asked.{Asked}
use Rattle.lk_check_unit.proofs.Standing.{plain_behind}
use Rattle.lk_check_unit.proofs.Typed.{typed_both}

pub begins_by_expression : (start : ForFirst) (e : Option Expr) (old new : Checker) (asked : Asked) → start ≡ first.Expr e → Asks old new e dropped_rules asked → AsksFirst start old new asked
begins_by_expression start e old new asked is asks = subst (λ s. AsksFirst s old new asked) (sym is) (record { walks = asks.walks; typed = asks.typed; code = asks.code })

pub begins_by_declaration : (start : ForFirst) (node : Declare) (old new : Checker) (asked : Asked) → start ≡ first.Declare node → asked ≡ record { is_typed = true; code = None } →
    WalksDeclaration node old new → AsksFirst start old new asked
begins_by_declaration start node old new asked is none walks =
    subst (λ s. AsksFirst s old new asked) (sym is)
    (record { walks = walks; typed = λ env plain. ap (λ (a : Asked). a.is_typed) none; code = λ env plain. ap (λ (a : Asked). a.code) none })

pub head_walked : (start : ForFirst) (condition step : Option Expr) (c0 c1 c2 c3 : Checker) (x y z : Asked) (code : Option Code) →
    AsksFirst start c0 c1 x → Asks c1 c2 condition condition_rules y → Asks c2 c3 step dropped_rules z →
    ((a b c : List Breach) → x.code ≡ told a → y.code ≡ told b → z.code ≡ told c → code ≡ told (if (x.is_typed && y.is_typed) && z.is_typed then (a ++ b) ++ c else [])) →
    WalksHead start condition step c0 c3 code
head_walked start condition step c0 c1 c2 c3 x y z code p q r is =
    record {
      walks = λ at_end env plain. all_walked at_end env plain;
      code = λ env plain. all_coded env plain;
    }
  where
    first_plain : (env : Env) → IsPlain c0 env → IsPlain c1 (extend env (first_adds start env))
    first_plain env plain = plain_behind env c0 c1 env (first_adds start env) (first_part env start) plain (p.walks env env plain)

    second_plain : (env : Env) → IsPlain c1 env → IsPlain c2 (extend env (added_by condition env))
    second_plain env plain = plain_behind env c1 c2 env (added_by condition env) (perhaps env AnExpression condition) plain (q.walks env env plain)

    others_walked : (at_end env : Env) → IsPlain c1 env →
        Walks at_end c1 c3 env (both (added_by condition env) (added_by step (extend env (added_by condition env)))) (perhaps env AnExpression condition ++ perhaps (extend env (added_by condition env)) AnExpression step)
    others_walked at_end env plain =
        then_walks at_end c1 c2 c3 env (added_by condition env) (added_by step (extend env (added_by condition env))) (perhaps env AnExpression condition)
        (perhaps (extend env (added_by condition env)) AnExpression step) (q.walks at_end env plain) (r.walks at_end (extend env (added_by condition env)) (second_plain env plain))

    all_walked : (at_end env : Env) → IsPlain c0 env → Walks at_end c0 c3 env (head_adds start condition step env) (head_parts start condition step env)
    all_walked at_end env plain =
        subst (λ ps. Walks at_end c0 c3 env (head_adds start condition step env) ps)
        (sym (append_assoc (first_part env start) (perhaps (extend env (first_adds start env)) AnExpression condition)
        (perhaps (extend (extend env (first_adds start env)) (added_by condition (extend env (first_adds start env)))) AnExpression step)))
        (then_walks at_end c0 c1 c3 env (first_adds start env) _ (first_part env start) _ (p.walks at_end env plain) (others_walked at_end (extend env (first_adds start env)) (first_plain env plain)))

    typed_three : (ps qs rs : List Placed) (a b c : Bool) → a ≡ are_typed ps → b ≡ are_typed qs → c ≡ are_typed rs → ((a && b) && c) ≡ are_typed ((ps ++ qs) ++ rs)
    typed_three ps qs rs a b c p_is q_is r_is =
        ap (λ d. (d && b) && c) p_is ∙ (ap (λ d. (are_typed ps && d) && c) q_is ∙ (ap (λ d. (are_typed ps && are_typed qs) && d) r_is ∙
        (ap (λ d. d && are_typed rs) (sym (typed_both ps qs)) ∙ sym (typed_both (ps ++ qs) rs))))

    all_coded : (env : Env) → IsPlain c0 env → code ≡ told (if are_typed (head_parts start condition step env) then for_rules env start condition step else [])
    all_coded env plain = by (extend env (first_adds start env)) refl (first_plain env plain)
      where
        by : (env1 : Env) → env1 ≡ extend env (first_adds start env) → IsPlain c1 env1 →
            code ≡ told (if are_typed (head_parts start condition step env) then for_rules env start condition step else [])
        by env1 is1 plain1 =
            subst
            (λ (e : Env). code ≡ told (if are_typed ((first_part env start ++ perhaps e AnExpression condition) ++ perhaps (extend e (added_by condition e)) AnExpression step)
            then (first_rules env start ++ optional_rules e condition_rules condition) ++ optional_rules (extend e (added_by condition e)) dropped_rules step else []))
            is1
            (is (first_rules env start) (optional_rules env1 condition_rules condition) (optional_rules (extend env1 (added_by condition env1)) dropped_rules step) (p.code env plain) (q.code env1 plain1)
            (r.code (extend env1 (added_by condition env1)) (second_plain env1 plain1)) ∙
            ap (λ b. told (if b then (first_rules env start ++ optional_rules env1 condition_rules condition) ++ optional_rules (extend env1 (added_by condition env1)) dropped_rules step else []))
            (typed_three (first_part env start) (perhaps env1 AnExpression condition) (perhaps (extend env1 (added_by condition env1)) AnExpression step) x.is_typed y.is_typed z.is_typed
            (p.typed env plain) (q.typed env1 plain1) (r.typed (extend env1 (added_by condition env1)) (second_plain env1 plain1))))
