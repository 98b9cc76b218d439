use Rattle.std.proofs.Common.{◌≡◌, ◌||◌, ◌∙◌, true, sym}
use Rattle.lk_sets.specs.Ids.{has_id}
use Rattle.lk_graph.proofs.FoundLemmas.{finds_where}
use Rattle.lk_graph.proofs.again.put_again.Goals as goal

pub returns : goal.returns
returns c =
    finds_where c.args.function ((has_id c.args.once.now.list c.args.function || has_id c.args.cycles.now c.args.point) ≡ true) c.args.again.now c.put.new.self
    (sym c.comes_again.ensures ∙ c.if-not-comes_again.false) c.in_ok-put.ensures
