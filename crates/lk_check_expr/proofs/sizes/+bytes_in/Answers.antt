use Rattle.std.proofs.Common.{◌∙◌, ◌<◌, ◌*◌, ◌^◌, sym, ap, subst, arith, Some}
use Rattle.std.specs.Option.{option_map}
use Rattle.lk_typed.specs.DeclaratorRules.{elements}
use Rattle.lk_typed.specs.Meaning.{meaning, tree_of}
use Rattle.lk_typed.specs.Sizes as spec
use Rattle.lk_check_expr.proofs.Bytes.{product_below}
use Rattle.lk_check_expr.proofs.sizes.+bytes_in.Goals as goal

pub overflow_mul-result : goal.overflow_mul-result
overflow_mul-result t c =
    let table = c.args.types.now in
    let tree = c.form.ensures.tree ∙ ap (tree_of (meaning table)) c.in-Array.is in
    let few = subst (λ a. elements a < 2 ^ 64) tree (c.requires.few c.args.t c.requires.known) in
    let below = product_below (meaning table c.in-Array.element) c.in-Array.count c.in-Some.bytes (sym c.bytes_in.ensures ∙ c.in-Some.is) few in
    let bound : c.from-in-Some.result * c.in-Some.bytes < 2 ^ 127 = subst (λ n. n * c.in-Some.bytes < 2 ^ 127) (sym c.from-in-Some.ensures) below in
    omega (arith, bound)

pub returns-in-Some : goal.returns-in-Some
returns-in-Some t c =
    let table = c.args.types.now in
    let tree = c.form.ensures.tree ∙ ap (tree_of (meaning table)) c.in-Array.is in
    ap (λ n. Some (n * c.in-Some.bytes)) c.from-in-Some.ensures ∙
    sym (ap spec.bytes_in tree ∙ ap (option_map (λ b. c.in-Array.count * b)) (sym c.bytes_in.ensures ∙ c.in-Some.is))
