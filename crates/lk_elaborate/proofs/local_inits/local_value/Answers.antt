use Rattle.std.proofs.Common.{◌∙◌}
use Rattle.std.proofs.lemmas.Result.{IfOk-weaker}
use Rattle.lk_elaborate.proofs.Telling.{bytes_begin, value_begins, word_begins}
use Rattle.lk_elaborate.proofs.local_inits.local_value.Goals as goal

pub returns-in-Value-clause-value : goal.returns-in-Value-clause-value
returns-in-Value-clause-value c =
    IfOk-weaker c.value_for.result _ _
    (λ is gives externs unit told tables leads part given.
    value_begins externs unit c.args.walk.now c.value_for.new.walk told tables leads c.args.given.now.ty part.type c.in-Value.e c.args.given.now.begins part.begins is c.in-Value.is given.type given.begins gives)
    c.value_for.ensures.value

pub returns-in_ok-bytes-in-Bytes-clause-value : goal.returns-in_ok-bytes-in-Bytes-clause-value
returns-in_ok-bytes-in-Bytes-clause-value c externs unit told tables leads part given =
    bytes_begin externs unit c.args.walk.now tables part.type c.in-Bytes.spot c.in-Bytes.ordinal c.in-Bytes.bytes c.new.result c.args.given.now.begins part.begins c.in-Bytes.is
    (c.new.ensures ∙ (c.in_ok-bytes-in-Bytes.ensures.items ∙ c.list.ensures)) given.begins

pub returns-in-Word-clause-value : goal.returns-in-Word-clause-value
returns-in-Word-clause-value c externs unit told tables leads part given =
    word_begins externs unit c.args.walk.now tables part.type c.args.given.now.begins part.begins c.in-Word.is given.begins
