use Rattle.std.proofs.lemmas.Result.{IfOk-weaker}
use Rattle.lk_elab_expr.proofs.CalledWays.{called_none, called_way}
use Rattle.lk_elab_expr.proofs.Passing.{told_function}
use Rattle.lk_elab_expr.proofs.Within.{told_of}
use Rattle.lk_elab_expr.proofs.calls.how_called.Goals as goal

pub returns-in-Some-clause-decides : goal.returns-in-Some-clause-decides
returns-in-Some-clause-decides c = IfOk-weaker c.named_calling.result _ _ (λ way decides at_end p f ps call same stands.
    let walk = c.args.walk.now in
    let found = c.in_ok-found.ensures at_end p f (told_of at_end walk p call.told) same (told_function at_end walk p f ps c.args.arguments.now call) in
    decides at_end p f ps call (called_way walk _ _ _ c.in-Some.is found) stands) c.named_calling.ensures.decides

pub returns-in-None-clause-decides : goal.returns-in-None-clause-decides
returns-in-None-clause-decides c = λ at_end p f ps call same stands.
    let walk = c.args.walk.now in
    let found = c.in_ok-found.ensures at_end p f (told_of at_end walk p call.told) same (told_function at_end walk p f ps c.args.arguments.now call) in
    called_none walk _ _ c.in-None.is found
