use Rattle.std.proofs.Common.{◌∙◌, sym, ap}
use Rattle.lk_base.specs.declared.kind.Kind.TheVariants as kind
use Rattle.lk_typed.proofs.FirstTypes.{kind_means}
use Rattle.lk_typed.specs.Meaning.{meaning, tree_of}
use Rattle.lk_typed.specs.Ty.{Pointer, char, is_same}
use Rattle.lk_check_decl.proofs.names.is_argument_list.Goals as goal

pub returns-in-Pointer : goal.returns-in-Pointer
unfolding is_same
returns-in-Pointer c =
    let table = c.args.types.now in
    let tree = c.form.ensures.tree ∙ ap (tree_of (meaning table)) c.in-Pointer.is in
    c.are_same.ensures ∙ ap (λ t. is_same (meaning table c.in-Pointer.target) (Pointer t)) (kind_means table c.requires.ready kind.Char) ∙
    ap (λ t. is_same t (Pointer (Pointer char))) (sym tree)
