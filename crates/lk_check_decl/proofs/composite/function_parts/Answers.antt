use Rattle.std.proofs.Common.{◌≡◌, ◌∙◌, ap, sym, rules}
use Rattle.lk_types.specs.declared.c_type.CType.TheVariants as forms
use Rattle.lk_typed.specs.Meaning.{meaning, tree_of}
use Rattle.lk_typed.proofs.Meanings.{meaning_by}
use Rattle.lk_check_decl.proofs.CompositeTypes.{function_by}
use Rattle.lk_check_decl.proofs.composite.function_parts.Goals as goal

pub returns-in_ok-copy-in-Function : goal.returns-in_ok-copy-in-Function
returns-in_ok-copy-in-Function c = function_by c.args.types.now c.get.ensures.table c.args.t c.requires c.get.result.now c.get.ensures.value c.in-Function.result c.in_ok-copy-in-Function.field-0 c.in-Function.dots
    (c.in-Function.is ∙ ap (λ ps. forms.Function c.in-Function.result ps c.in-Function.dots) (sym c.in_ok-copy-in-Function.ensures))

pub returns-in-Void : goal.returns-in-Void
returns-in-Void c =
    let table = c.args.types.now in
    let tree : meaning table c.args.t ≡ tree_of (meaning table) c.get.result.now = meaning_by table c.get.ensures.table c.args.t c.get.result.now c.requires c.get.ensures.value in
    search rules
