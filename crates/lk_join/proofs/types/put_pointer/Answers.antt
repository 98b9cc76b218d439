use Rattle.lk_join.proofs.Growing.{keeps_longer}
use Rattle.lk_join.proofs.types.put_pointer.Goals as goal

pub returns-in_ok-put-in-Some-clause-keeps : goal.returns-in_ok-put-in-Some-clause-keeps
returns-in_ok-put-in-Some-clause-keeps c = keeps_longer c.args.table.now c.put.new.table c.is_table.ensures c.in_ok-put-in-Some.ensures.longer c.in_ok-put-in-Some.ensures.members
