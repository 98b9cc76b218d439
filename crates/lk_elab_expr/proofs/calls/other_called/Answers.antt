use Rattle.std.proofs.Common.{◌≡◌, None, sym, subst}
use Rattle.std.proofs.lemmas.Result.{IfOk-weaker}
use Rattle.lk_typed.specs.Env.{look_up}
use Rattle.lk_typed.specs.Expressions.{expression}
use Rattle.lk_elab_expr.proofs.CalledWays.{nothing_called}
use Rattle.lk_elab_expr.proofs.calls.other_called.Goals as goal

pub returns-in-Some : goal.returns-in-Some
returns-in-Some c = IfOk-weaker c.word_called.result _ _ (λ way calls at_end p f true_p same told none.
    let word = c.in-Some.word in
    let looked = subst (λ e. (expression e f.0).look.word ≡ look_up f.0 word.name.now) (sym same) (c.in-Some.ensures.word f.0) in
    calls p f true_p (c.in-Some.ensures.stands at_end c.args.walk.now f same told) looked none) c.word_called.ensures

pub returns-in-None : goal.returns-in-None
returns-in-None c = λ at_end p f true_p same told none. nothing_called p.0 f (subst (λ e. (expression e f.0).look.word ≡ None) (sym same) (c.in-None.ensures.word f.0))
