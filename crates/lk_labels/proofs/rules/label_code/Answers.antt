use Rattle.std.proofs.Common.{◌∙◌}
use Rattle.lk_labels.proofs.Telling.{label_told}
use Rattle.lk_labels.proofs.rules.label_code.Goals as goal

pub returns : goal.returns
returns c = λ around are.
    c.code_if.ensures ∙ label_told c.args.labels.now c.args.name.now c.number_of-least.result c.number_of-least.ensures.number around are c.args.ordinal c.is_before.result c.is_before.ensures
