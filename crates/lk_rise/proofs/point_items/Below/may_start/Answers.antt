use Rattle.std.proofs.Common.{◌∙◌, ◌++◌, ◌∷◌, [], All, ap, subst, sym, take}
use Rattle.std.proofs.lemmas.List.{take_all, take_more}
use Rattle.std.proofs.lemmas.List.Elements.{All-push}
use Rattle.lk_rise.specs.PointItems.{StartsNothing}
use Rattle.lk_rise.proofs.point_items.Below.may_start.Goals as goal

pub loop-link-preserved : goal.loop-link-preserved
loop-link-preserved c =
    let entries = c.args.self.now.items.now in
    let links = c.args.links.now in
    let k = c.loop-link.link-index in
    let link = c.link-item.result in
    let starts : StartsNothing entries link = record { runs = c.if-link.false; below = c.has_child.ensures c.if-has_child.false } in
    subst (All (StartsNothing entries)) (sym (take_more links k link c.loop-link-test.true ∙ ap (λ l. take k links ++ l ∷ []) (sym c.link-item.is))) (All-push (StartsNothing entries) (take k links) link c.loop-link.invariant starts)

pub returns : goal.returns
returns c = λ _. subst (All (StartsNothing c.args.self.now.items.now)) (take_all c.loop-link.link-index c.args.links.now c.loop-link-test.false) c.loop-link.invariant
