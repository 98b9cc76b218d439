use Rattle.std.proofs.Common.{◌<◌, ◌∙◌, All, ap, length, subst, sym}
use Rattle.std.specs.List.{filter}
use Rattle.std.proofs.lemmas.List.Elements.{All-filter}
use Rattle.std.proofs.lemmas.Result.{IfOk-weaker}
use Rattle.lk_order.specs.Table.{on_cycle}
use Rattle.lk_order.proofs.text.Lines.on_cycles.Goals as goal

pub returns-clause-value : goal.returns-clause-value
returns-clause-value c =
    let order = c.args.self.now.order.now in
    IfOk-weaker c.those_on_cycles.result _ _ (λ those is. is ∙ ap (filter (on_cycle order)) (c.deref.ensures.value ∙ c.in_ok-places.ensures.value)) c.those_on_cycles.ensures

pub returns-clause-in_range : goal.returns-clause-in_range
returns-clause-in_range c =
    let order = c.args.self.now.order.now in
    let few = length c.args.self.now.points.now.places in
    IfOk-weaker c.those_on_cycles.result _ _ (λ those is.
    subst (All (λ q. q < few)) (sym (is ∙ ap (filter (on_cycle order)) c.deref.ensures.value)) (All-filter (on_cycle order) (λ q. q < few) c.in_ok-places.places.items c.in_ok-places.ensures.in_range))
    c.those_on_cycles.ensures
