use Rattle.std.proofs.Common.{sym}
use Rattle.std.proofs.lemmas.Result.{IfOk-weaker}
use Rattle.lk_elaborator.proofs.Owned.{own_of}
use Rattle.lk_elaborator.proofs.values.converted.Goals as goal

pub returns-in-Ok-clause-converted : goal.returns-in-Ok-clause-converted
returns-in-Ok-clause-converted c = IfOk-weaker c.converted_node.result _ _ (λ t is p true_of tables leads folded typed.
    let own = own_of tables folded p c.args.node typed in
    c.in-Ok.ensures.converts p (sym own.ordinal) true_of tables leads folded t (is tables folded p typed)) c.converted_node.ensures
