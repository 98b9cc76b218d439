use Rattle.std.proofs.Common.{◌∙◌, sym, ap}
use Rattle.std.specs.Prelude.{◌&&◌}
use Rattle.lk_typed.specs.Meaning.{meaning}
use Rattle.lk_typed.specs.Ty.{Pointer, char, is_same}
use Rattle.lk_check_decl.proofs.MainLemmas.{two_params, one_param, more_params}
use Rattle.lk_check_decl.proofs.names.are_main_params.Goals as goal

pub returns-then-is_int : goal.returns-then-is_int
returns-then-is_int c =
    let tree = meaning c.args.types.now in
    c.is_argument_list.ensures ∙
    sym (two_params tree c.args.params.now c.count-item.result c.list-item.result c.in-len2.len_at_least c.in-len2.len_below c.count-item.is c.list-item.is ∙
    ap (λ b. b && is_same (tree c.list-item.result) (Pointer (Pointer char))) (sym c.is_int.ensures ∙ c.if-is_int.true))

pub returns-else-is_int : goal.returns-else-is_int
returns-else-is_int c =
    let tree = meaning c.args.types.now in
    c.if-is_int.false ∙
    sym (two_params tree c.args.params.now c.count-item.result c.list-item.result c.in-len2.len_at_least c.in-len2.len_below c.count-item.is c.list-item.is ∙
    ap (λ b. b && is_same (tree c.list-item.result) (Pointer (Pointer char))) (sym c.is_int.ensures ∙ c.if-is_int.false))

pub returns-in_default : goal.returns-in_default
returns-in_default c = sym (one_param (meaning c.args.types.now) c.args.params.now c.in_default.len_at_least c.in_default.len_below)

pub returns-in_default-2 : goal.returns-in_default-2
returns-in_default-2 c = sym (more_params (meaning c.args.types.now) c.args.params.now c.in_default.len_at_least)
