use Rattle.lk_origin.proofs.FlowLemmas.{flowed}
use Rattle.lk_origin.proofs.flow.flow.Goals as goal

pub returns-clause-flowed : goal.returns-clause-flowed
returns-clause-flowed c = λ es.
    flowed es c.args.labels.now c.args.rising.now c.args.falling.now c.args.inner.now c.spread_marked.new.self c.take_globals.new.into c.args.all.now c.take_all.new.into c.spread_marked-2.new.self
    c.in_ok-spread_marked.field-0 c.in_ok-spread_marked-2.field-0 c.take_globals.result c.in_ok-spread_marked.ensures.grows c.in_ok-spread_marked.ensures.pairs c.take_all.ensures.pairs c.in_ok-spread_marked-2.ensures.grows
    c.in_ok-spread_marked-2.ensures.pairs c.take_globals.ensures.pairs c.take_globals.ensures.grows
