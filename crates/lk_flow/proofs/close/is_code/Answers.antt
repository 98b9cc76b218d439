use Rattle.std.proofs.Common.{◌≡◌, ◌∙◌, ap, sym}
use Rattle.std.proofs.lemmas.Option.{same_Some}
use Rattle.lk_facts.specs.LabelRules.{form_of, is_function}
use Rattle.lk_facts.specs.declared.label_entry.LabelName.{LabelName}
use Rattle.lk_types.specs.Table.{Table, type_at}
use Rattle.lk_flow.proofs.close.is_code.Goals as goal

pub returns : goal.returns
returns c = λ u at.
    let program = c.args.points.now in
    let name = c.name_of-name.result in
    let same : name ≡ u = same_Some name u (sym c.name_of-name.ensures.name ∙ at) in
    c.is_function.ensures ∙ (ap (λ t. is_function (type_at c.types-types.result.now t)) c.node_type.ensures.value
    ∙ (ap (λ (table : Table). is_function (form_of table name.node)) c.types-types.ensures ∙ ap (λ (x : LabelName). is_function (form_of program.types x.node)) same))
