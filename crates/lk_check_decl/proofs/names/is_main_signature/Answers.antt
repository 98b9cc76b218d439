use Rattle.std.proofs.Common.{◌∙◌, false, map, sym, ap}
use Rattle.std.specs.Bool.{beq}
use Rattle.std.specs.Prelude.{◌&&◌, ◌||◌, nat_eq}
use Rattle.lk_typed.specs.DeclarationRules.{arguments}
use Rattle.lk_typed.specs.Meaning.{meaning}
use Rattle.lk_typed.specs.Ty.{are_equal_but, int, is_same, none, types_of}
use Rattle.lk_check_decl.proofs.MainLemmas.{with_dots, without_dots}
use Rattle.lk_check_decl.proofs.names.is_main_signature.Goals as goal

pub returns-then-dots : goal.returns-then-dots
unfolding is_same
returns-then-dots c =
    let tree = meaning c.args.types.now in
    let gives = is_same (tree c.args.returned) int in
    let params = types_of (map tree c.args.params.now) in
    let p = are_equal_but nat_eq params none in
    let q = are_equal_but nat_eq params arguments in
    with_dots gives p q ∙ ap (λ dots. (gives && p && beq dots false) || (gives && q && beq dots false)) (sym c.if-dots.true)

pub returns-then-gives_int : goal.returns-then-gives_int
unfolding is_same
returns-then-gives_int c =
    let tree = meaning c.args.types.now in
    let gives = is_same (tree c.args.returned) int in
    let params = types_of (map tree c.args.params.now) in
    let p = are_equal_but nat_eq params none in
    let q = are_equal_but nat_eq params arguments in
    c.are_main_params-takes_arguments.ensures ∙ ap (λ b. b && (p || q)) (sym c.if-gives_int.true ∙ c.is_int-gives_int.ensures) ∙
    without_dots gives p q ∙ ap (λ dots. (gives && p && beq dots false) || (gives && q && beq dots false)) (sym c.if-dots.false)

pub returns-else-gives_int : goal.returns-else-gives_int
unfolding is_same
returns-else-gives_int c =
    let tree = meaning c.args.types.now in
    let gives = is_same (tree c.args.returned) int in
    let params = types_of (map tree c.args.params.now) in
    let p = are_equal_but nat_eq params none in
    let q = are_equal_but nat_eq params arguments in
    c.if-gives_int.false ∙ ap (λ b. b && (p || q)) (sym c.if-gives_int.false ∙ c.is_int-gives_int.ensures) ∙
    without_dots gives p q ∙ ap (λ dots. (gives && p && beq dots false) || (gives && q && beq dots false)) (sym c.if-dots.false)
