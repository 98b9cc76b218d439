use Rattle.std.proofs.Common.{subst}
use Rattle.std.proofs.lemmas.Result.{IfOk-weaker}
use Rattle.lk_typed.specs.Elaborated.{called}
use Rattle.lk_elab_expr.specs.Calling.{IsCalled}
use Rattle.lk_elab_expr.proofs.calls.named_calling.Goals as goal

pub returns-in-Library-clause-decides : goal.returns-in-Library-clause-decides
returns-in-Library-clause-decides c = IfOk-weaker c.library_calling.result _ _ (λ way decides at_end p f ps call by stands.
    let is = subst (λ way. IsCalled c.args.walk.now way (called p.0 f)) c.in-Library.is by in
    decides at_end p f ps call is.0 is.1 is.2 stands) c.library_calling.ensures.decides

pub returns-in-Extern-clause-decides : goal.returns-in-Extern-clause-decides
returns-in-Extern-clause-decides c = λ at_end p f ps call by stands. by
