use Rattle.std.proofs.Common.{◌∙◌, ap, not, sym}
use Rattle.lk_graph.specs.Again.{IsValue}
use Rattle.lk_graph.proofs.AgainLemmas.{number_there}
use Rattle.lk_graph.proofs.FoundLemmas.{finds_where}
use Rattle.lk_graph.proofs.again.put_value.Goals as goal

pub returns : goal.returns
returns c =
    let there = number_there c.value_site.result (c.is_none.ensures ∙ ap not c.if-is_none.false) in
    finds_where c.args.function (IsValue c.args.points.now c.args.function) c.args.values.now c.put.new.self (there.0, sym c.value_site.ensures.value ∙ there.1) c.in_ok-put.ensures
