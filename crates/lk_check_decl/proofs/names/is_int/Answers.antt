use Rattle.std.proofs.Common.{◌∙◌, ap}
use Rattle.lk_base.specs.declared.kind.Kind.TheVariants as kind
use Rattle.lk_typed.proofs.FirstTypes.{kind_means}
use Rattle.lk_typed.specs.Meaning.{meaning}
use Rattle.lk_typed.specs.Ty.{is_same}
use Rattle.lk_check_decl.proofs.names.is_int.Goals as goal

pub returns : goal.returns
returns c =
    let table = c.args.types.now in
    c.are_same.ensures ∙ ap (is_same (meaning table c.args.t)) (kind_means table c.requires.ready kind.Int)
