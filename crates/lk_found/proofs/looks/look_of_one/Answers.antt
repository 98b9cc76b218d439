use Rattle.std.proofs.Common.{sym, subst}
use Rattle.lk_typed.specs.Typing.{plain_look}
use Rattle.lk_check_expr.specs.Looks.{IsLook}
use Rattle.lk_found.proofs.looks.look_of_one.Goals as goal

pub returns : goal.returns
returns c = λ env x p. subst (λ b. IsLook env c.plain.result (plain_look b)) (sym p.holds_sizeof) (c.plain.ensures env)
