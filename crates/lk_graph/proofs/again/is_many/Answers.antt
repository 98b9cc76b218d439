use Rattle.std.proofs.Common.{◌∙◌, sym}
use Rattle.std.proofs.lemmas.Bool.{or_left}
use Rattle.lk_graph.proofs.AgainLemmas.{many_else}
use Rattle.lk_graph.proofs.again.is_many.Goals as goal

pub returns-then-has : goal.returns-then-has
returns-then-has c = c.if-has.true ∙ sym (or_left _ _ (sym c.has.ensures ∙ c.if-has.true))

pub returns-else-has : goal.returns-else-has
returns-else-has c =
    many_else c.args.points.now c.args.cycles.now c.args.again.now.list c.args.point c.function.result c.has-else-has.result (sym c.has.ensures ∙ c.if-has.false) c.function.ensures.value c.has-else-has.ensures
