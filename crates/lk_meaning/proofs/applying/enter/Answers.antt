use Rattle.lk_meaning.proofs.Lists.{entered_is}
use Rattle.lk_meaning.proofs.applying.enter.Goals as goal

pub returns-in-Ok-clause-ok : goal.returns-in-Ok-clause-ok
returns-in-Ok-clause-ok c = entered_is c.args.points.now c.args.state.now c.args.t c.args.call c.in_ok-made.made c.append.new.list c.call_into.new.threads c.len-first.result c.list.result.now
    c.in_ok-made.ensures c.len-first.ensures c.list.ensures c.in_ok-append.ensures.ok c.in-Ok.ensures.ok
