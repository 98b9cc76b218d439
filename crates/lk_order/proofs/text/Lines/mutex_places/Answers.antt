use Rattle.std.proofs.Common.{◌<◌, ◌+◌, ◌++◌, ◌∷◌, [], All, length, ap, sym, subst, ◌∙◌, arith}
use Rattle.lk_order.proofs.TextLemmas.{range_below, range_more}
use Rattle.lk_order.proofs.text.Lines.mutex_places.Goals as goal

pub loop-lock-preserved : goal.loop-lock-preserved
loop-lock-preserved c = c.in_ok-push.ensures.items ∙ ap (λ places. places ++ (c.locations-first.result + c.loop-lock.lock) ∷ []) c.loop-lock.invariant ∙ sym (range_more c.locations-first.result c.loop-lock.lock)

pub returns-clause-in_range : goal.returns-clause-in_range
returns-clause-in_range c =
    let count = length c.args.self.now.points.now.places in
    subst (All (λ q. q < count)) (sym c.loop-lock.invariant)
    (range_below c.locations-first.result c.loop-lock.lock count
    (omega (arith, c.locations-first.ensures.value, c.locations-first.ensures.few, c.locks-lock-end.ensures.value, c.loop-lock.auto.lock-end)))
