use Rattle.std.proofs.Common.{◌≡◌, ◌∙◌, sym, true}
use Rattle.lk_graph.proofs.FoundLemmas.{finds_where}
use Rattle.lk_sets.specs.Marks.{is_marked}
use Rattle.lk_graph.proofs.search.put_marked.Goals as goal

pub returns : goal.returns
returns c = finds_where c.args.a (is_marked c.args.marks.now c.args.a ≡ true) c.args.found.now c.put.new.self (sym c.is_marked.ensures ∙ c.if-not-is_marked.false) c.in_ok-put.ensures
