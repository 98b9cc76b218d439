use Rattle.std.proofs.lemmas.Result.{IfOk-weaker}
use Rattle.lk_elab_expr.proofs.CalledWords.{routine_is}
use Rattle.lk_elab_expr.proofs.library.routine_at.Goals as goal

pub returns-in-Some : goal.returns-in-Some
returns-in-Some c = IfOk-weaker c.entity_at.result _ _ (λ entity of at_end p at told.
    let in_ = c.in-Some.ensures at_end c.args.walk.now p at told in
    routine_is c.args.walk.now p c.in-Some.word entity in_ (of in_.word in_.ordinal in_.true_of)) c.entity_at.ensures
