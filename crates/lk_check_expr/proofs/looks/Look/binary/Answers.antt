use Rattle.std.proofs.Common.{◌∙◌, sym, ap}
use Rattle.std.specs.Prelude.{◌&&◌, ◌||◌}
use Rattle.lk_check_expr.specs.Looks.{is_multiply}
use Rattle.lk_check_expr.proofs.Routines.{product_by, same_product}
use Rattle.lk_check_expr.proofs.looks.Look.binary.Goals as goal

pub returns : goal.returns
returns c = λ env x y first second.
    let plain = c.plain-look.ensures env in
    let a = c.args.a.now in
    let b = c.args.b.now in
    let product = product_by c.args.op x y ∙ ap (λ is. is_multiply c.args.op && is) (same_product a b x y first.is_sizeof first.holds_sizeof second.is_sizeof second.holds_sizeof) ∙
    sym c.makes_product.ensures in
    let holds = ap (λ is. is || y.look.holds_sizeof) first.holds_sizeof ∙ ap (λ is. a.holds_sizeof || is) second.holds_sizeof ∙ sym c.holds_sizeof.ensures ∙ plain.holds_sizeof in
    record { called = plain.called; routine = plain.routine; format = plain.format; is_sizeof = plain.is_sizeof; is_product = product; holds_sizeof = holds }
