use Rattle.std.proofs.Common.{◌≡◌, length, subst, arith}
use Rattle.lk_graph.specs.Again.{AreSitesBelow}
use Rattle.lk_graph.proofs.AgainLemmas.{sites_start}
use Rattle.lk_graph.proofs.again.put_sites.Goals as goal

pub loop-point-init : goal.loop-point-init
loop-point-init c = record {
  once_size = omega (arith, c.in_ok-once.ensures.size, c.functions.ensures);
  again_size = c.requires.size;
  sites = sites_start c.args.points.now c.args.again.now.list c.in_ok-once.once.list c.in_ok-once.ensures.none;
}

pub returns-clause-sites : goal.returns-clause-sites
returns-clause-sites c =
    let end : c.loop-point.point ≡ length c.args.points.now.points = omega (arith, c.loop-point.auto.point-end, c.loop-point-test.false, c.count-point-end.ensures.value) in
    (subst (λ n. AreSitesBelow c.args.points.now n c.args.again.now.list c.loop-point.once.list c.loop-point.again.list) end c.loop-point.invariant.sites).again
