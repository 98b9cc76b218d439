use Rattle.std.proofs.Common.{◌∙◌, ap, sym}
use Rattle.lk_typed.proofs.Meanings.{meaning_by}
use Rattle.lk_typed.specs.Meaning.{meaning, tree_of}
use Rattle.lk_typed.specs.Ty.{array_of}
use Rattle.lk_check_decl.proofs.GivenSizes.{no_array_form}
use Rattle.lk_check_decl.proofs.completing.array_parts.Goals as goal

pub returns-in-Array-clause-value : goal.returns-in-Array-clause-value
returns-in-Array-clause-value c =
    let table = c.args.types.now in
    sym (ap array_of (meaning_by table c.get.ensures.table c.args.t c.get.result.now c.requires c.get.ensures.value ∙ ap (tree_of (meaning table)) c.in-Array.is))

pub returns-in-Void-clause-value : goal.returns-in-Void-clause-value
returns-in-Void-clause-value c =
    let table = c.args.types.now in
    no_array_form (meaning table) c.get.result.now c.in-Void.is ∙
    sym (ap array_of (meaning_by table c.get.ensures.table c.args.t c.get.result.now c.requires c.get.ensures.value))
