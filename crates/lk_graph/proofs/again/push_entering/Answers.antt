use Rattle.std.proofs.Common.{◌<◌, All, length, sym, subst}
use Rattle.std.proofs.lemmas.List.Elements.{All-push}
use Rattle.std.proofs.lemmas.Option.{none-some}
use Rattle.lk_sets.specs.Adding.{Adds}
use Rattle.lk_sets.proofs.Adding.{adds_as, adds_none, adds_push}
use Rattle.lk_graph.specs.Again.{IsEnteringAt}
use Rattle.lk_graph.specs.declared.again.Entering.{Entering}
use Rattle.lk_graph.proofs.AgainLemmas.{entering_is}
use Rattle.lk_graph.proofs.again.push_entering.Goals as goal

pub returns-in_default-clause-adds : goal.returns-in_default-clause-adds
returns-in_default-clause-adds c = adds_none (IsEnteringAt c.args.points.now c.args.point) c.args.found.now.items (λ e at. none-some e.below ((c.in_default.ensures.value e.below).1 at.1))

pub returns-clause-adds : goal.returns-clause-adds
returns-clause-adds c =
    subst (Adds (IsEnteringAt c.args.points.now c.args.point) c.args.found.now.items) (sym c.in_ok-push.ensures.items)
    (adds_as (entering_is c.args.points.now c.args.point c.function-above.result c.in-Some.below c.function-above.ensures.value c.in-Some.ensures.value)
    (adds_push c.args.found.now.items (record { above = c.function-above.result; below = c.in-Some.below })))

pub returns-clause-in_range : goal.returns-clause-in_range
returns-clause-in_range c =
    let P = λ (e : Entering). e.below < length c.args.points.now.functions in
    subst (All P) (sym c.in_ok-push.ensures.items) (All-push P c.args.found.now.items (record { above = c.function-above.result; below = c.in-Some.below }) c.requires.in_range c.in-Some.ensures.in_range)
