use Rattle.std.proofs.Common.{◌∙◌, ap}
use Rattle.lk_typed.specs.Meaning.{meaning_of}
use Rattle.lk_typed.specs.Ty.{kind_of}
use Rattle.lk_elaborate.proofs.Casing.{kind_is}
use Rattle.lk_elaborate.proofs.statements.switch_kind.Goals as goal

pub returns : goal.returns
returns c =
    kind_is c.args.walk.now c.args.e.now c.in_ok-value.value c.kind_of.result c.in_ok-value.ensures.value
    (c.kind_of.ensures ∙ ap (λ table. kind_of (meaning_of table c.in_ok-value.value.ty)) c.table.ensures.value)
