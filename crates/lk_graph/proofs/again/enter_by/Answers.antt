use Rattle.std.proofs.Common.{◌≡◌}
use Rattle.lk_graph.proofs.FoundLemmas.{finds_where}
use Rattle.lk_graph.proofs.again.enter_by.Goals as goal

pub returns : goal.returns
returns c = finds_where c.args.entering.now.below (c.args.entering.now.above ≡ c.args.function) c.args.again.now c.put.new.self c.if-entering-function.false c.in_ok-put.ensures
