use Rattle.std.proofs.lemmas.Result.{IfOk-weaker}
use Rattle.lk_elab_expr.proofs.Sizing.{four_placed}
use Rattle.lk_elab_expr.proofs.library.routine_of.Goals as goal

pub returns-in-len4 : goal.returns-in-len4
returns-in-len4 c = IfOk-weaker c.routine_at.result _ _ (λ entity starts at_end p f ps call.
    let at = four_placed at_end c.args.walk.now p f c.args.arguments.now c.routine-item.result ps c.in-len4.len_at_least c.in-len4.len_below c.routine-item.is call in
    record { id = at.id; attribute = at.attribute; routine = at.routine; argument = at.argument; are = at.are; starts = starts at_end at.routine at.is at.told }) c.routine_at.ensures
