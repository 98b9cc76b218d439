use Rattle.std.proofs.Common.{◌∙◌, sym, ap, subst}
use Rattle.std.specs.Prelude.{◌||◌}
use Rattle.lk_typed.specs.Typing.{plain_look}
use Rattle.lk_check_expr.specs.Looks.{IsLook}
use Rattle.lk_found.proofs.looks.look_of_cast.Goals as goal

pub returns : goal.returns
returns c = λ env holds x same p.
    subst (λ b. IsLook env c.plain.result (plain_look b))
    (c.either-holds.ensures ∙ ap (λ b. b || c.args.a.now.holds_sizeof) same ∙ ap (λ b. holds || b) (sym p.holds_sizeof)) (c.plain.ensures env)
