use Rattle.std.proofs.Common.{sym}
use Rattle.std.proofs.lemmas.Result.{IfOk-weaker}
use Rattle.lk_elaborator.proofs.Owned.{own_of}
use Rattle.lk_elaborator.proofs.values.value_node.Goals as goal

pub returns-clause-value : goal.returns-clause-value
returns-clause-value c = IfOk-weaker c.valued_node.result _ _ (λ t is p true_of tables leads folded typed.
    let own = own_of tables folded p c.args.node typed in
    c.in_ok-valued.ensures.value p (sym own.ordinal) true_of tables leads folded c.args.node t typed is) c.valued_node.ensures
