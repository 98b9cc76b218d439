use Rattle.std.proofs.Common.{◌∙◌, ap}
use Rattle.std.specs.List.{slice_get}
use Rattle.lk_check_decl.proofs.FieldLemmas.{type_there, type_gone}
use Rattle.lk_check_decl.proofs.initialisers.field_type.Goals as goal

pub returns-then-number-fields-clause-value : goal.returns-then-number-fields-clause-value
returns-then-number-fields-clause-value c = λ table.
    type_there table c.fields_of-fields.result.now c.args.number c.index-fields-number.result c.if-number-fields.true ∙
    ap (λ types. slice_get types c.args.number) (c.fields_of-fields.ensures.types table)

pub returns-else-number-fields-clause-value : goal.returns-else-number-fields-clause-value
returns-else-number-fields-clause-value c = λ table.
    type_gone table c.fields_of-fields.result.now c.args.number c.if-number-fields.false ∙
    ap (λ types. slice_get types c.args.number) (c.fields_of-fields.ensures.types table)
