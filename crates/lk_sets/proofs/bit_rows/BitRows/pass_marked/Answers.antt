use Rattle.std.proofs.Common.{true}
use Rattle.lk_sets.proofs.Closing.{going_weaker}
use Rattle.lk_sets.proofs.Reaching.{going_arrow}
use Rattle.lk_sets.proofs.bit_rows.BitRows.pass_marked.Goals as goal

pub returns-clause-going : goal.returns-clause-going
returns-clause-going c = λ arrows first there.
    going_weaker (λ _ _. tt) (going_arrow arrows first _ _ c.args.arrow.now true there c.if-not-join_row.ensures.pairs c.if-not-join_row.ensures.grows)
