use Rattle.std.proofs.Common.{◌≡◌, ◌+◌, ◌++◌, ap, sym, ◌∙◌, subst, arith}
use Rattle.lk_rise.specs.Links.{AreLinksBelow}
use Rattle.lk_rise.proofs.LinkLemmas.{below_more}
use Rattle.lk_order.proofs.into.links_below.Goals as goal

pub loop-point-preserved : goal.loop-point-preserved
loop-point-preserved c =
    subst (AreLinksBelow c.args.links.now (c.loop-point.point + 1)) (sym (c.in_ok-extend_from_slice.ensures.items ∙ ap (λ xs. c.loop-point.all.items ++ xs) c.at.ensures))
    (below_more c.args.links.now c.loop-point.point c.loop-point.all.items c.loop-point.invariant)

pub returns : goal.returns
returns c =
    let end : c.loop-point.point ≡ c.args.points = omega (arith, c.loop-point.auto.point-end, c.loop-point-test.false) in
    subst (λ n. AreLinksBelow c.args.links.now n c.loop-point.all.items) end c.loop-point.invariant
