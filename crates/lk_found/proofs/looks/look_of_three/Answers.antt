use Rattle.std.proofs.Common.{◌∙◌, sym, ap, subst}
use Rattle.std.specs.Prelude.{◌||◌}
use Rattle.lk_typed.specs.Typing.{plain_look}
use Rattle.lk_check_expr.specs.Looks.{IsLook}
use Rattle.lk_found.proofs.looks.look_of_three.Goals as goal

pub returns : goal.returns
returns c = λ env x y z p q r.
    let c' = c.args.c.now.holds_sizeof in
    subst (λ b. IsLook env c.plain.result (plain_look b))
    (c.either-holds.ensures ∙ ap (λ b. b || c') (c.either-first.ensures ∙ ap (λ b. b || c.args.b.now.holds_sizeof) (sym p.holds_sizeof) ∙ ap (λ b. x.holds_sizeof || b) (sym q.holds_sizeof)) ∙
    ap (λ b. (x.holds_sizeof || y.holds_sizeof) || b) (sym r.holds_sizeof)) (c.plain.ensures env)
