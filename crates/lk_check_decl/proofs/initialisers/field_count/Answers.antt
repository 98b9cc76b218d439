use Rattle.std.proofs.Common.{◌∙◌, length, sym, ap}
use Rattle.std.proofs.lemmas.List.{length-map}
use Rattle.lk_typed.specs.Meaning.{meaning}
use Rattle.lk_check_decl.proofs.initialisers.field_count.Goals as goal

pub returns : goal.returns
returns c = λ table. sym (length-map c.fields_of.result.now (λ field. meaning table field.ty)) ∙ ap length (c.fields_of.ensures.types table)
