use Rattle.lk_elab_expr.proofs.CalledWays.{function_called, other_called}
use Rattle.lk_elab_expr.proofs.calls.word_called.Goals as goal

pub returns-in_ok-called-in-Function : goal.returns-in_ok-called-in-Function
returns-in_ok-called-in-Function c = λ p f true_p word looked none.
    let m = c.in_ok-meant.meant in
    function_called c.args.walk.now p f c.args.word.name.now c.args.word.ordinal word looked m (c.in_ok-meant.ensures word.word word.ordinal word.true_of) _ c.in-Function.is none c.in_ok-called-in-Function.called
    (c.in_ok-called-in-Function.ensures p true_p)

pub returns-in-Object : goal.returns-in-Object
returns-in-Object c = λ p f true_p word looked none.
    let m = c.in_ok-meant.meant in
    other_called c.args.walk.now p f c.args.word.name.now c.args.word.ordinal word looked m (c.in_ok-meant.ensures word.word word.ordinal word.true_of) c.in-Object.is
